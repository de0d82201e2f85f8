use Rattle.std.proofs.Common.{◌<◌, ◌≤◌, length, vec_items, sym, rules}
use Rattle.completion.proofs.Chains.{own_chain, no_chain}
use Rattle.completion.proofs.workings.Workings.line_chain.Goals as goal

pub returns-then-place-len : goal.returns-then-place-len
returns-then-place-len c =
    let g = c.args.self.now in
    let p : length (vec_items g.lines) ≤ c.args.place = search rules in
    sym (no_chain (vec_items g.lines) (vec_items g.chain) c.args.place p)

pub returns : goal.returns
returns c =
    let g = c.args.self.now in
    let p : c.args.place < length (vec_items g.lines) = search rules in
    own_chain (vec_items g.lines) c.args.place c.index-line.result.now p c.index-line.ensures (vec_items g.chain) c.deref.result.now c.chain_start-start.result c.chain_start-start.ensures c.deref.ensures.value
