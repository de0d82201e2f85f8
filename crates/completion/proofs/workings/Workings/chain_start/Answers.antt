use Rattle.std.proofs.Common.{◌^◌, take, vec_items, arith, rules, tests}
use Rattle.std.proofs.lemmas.Iterator.{YieldsList-from_slice, YieldsList-from_map}
use Rattle.std.proofs.lemmas.Iterator.Consumers.{fits_by_from_yields_list}
use Rattle.std.proofs.lemmas.List.Sums.{sum_by-take-le}
use Rattle.worksheet.specs.declared.line.Line.{Line}
use Rattle.completion.proofs.workings.Workings.chain_start.Goals as goal

-- the numbers of the lines before the place are no more than all
pub sum-requires-clause-fits : goal.sum-requires-clause-fits
sum-requires-clause-fits c =
    let g = c.args.self.now in
    fits_by_from_yields_list (λ (l : Line). l.length) (take c.args.place (vec_items g.lines)) c.map.result (2 ^ 64)
    (YieldsList-from_map _ (λ (l : Line). l.length) (YieldsList-from_slice (take c.args.place (vec_items g.lines)) (search rules)) c.map.ensures.closure (λ x r q k. search (rules, tests)))
    (omega (arith, sum_by-take-le (λ (l : Line). l.length) (vec_items g.lines) c.args.place, g.summed, g.few))
