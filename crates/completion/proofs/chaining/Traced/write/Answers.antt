use Rattle.std.proofs.Common.{ap}
use Rattle.completion.specs.Adding.{between}
use Rattle.completion.proofs.Rows.{chain-written}
use Rattle.completion.proofs.chaining.Traced.write.Goals as goal

pub returns : goal.returns
returns c =
    let t = c.args.self.now.table.now in
    let f = c.args.self.now.fork.now in
    chain-written t c.args.row.now c.undo.new.row c.cross.new.row c.follow.new.row (between f.question.bridge) f.first.steps c.span.result f.second.steps f.question.first f.question.second
    c.requires c.span.ensures (ap (λ x. x.first.steps) c.args.self.now.counted) (ap (λ x. x.second.steps) c.args.self.now.counted) c.undo.ensures c.cross.ensures c.follow.ensures
