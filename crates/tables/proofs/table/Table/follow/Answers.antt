use Rattle.std.proofs.Common.{◌+◌, ◌-◌, length, sym, ◌∙◌, arith}
use Rattle.tables.specs.Trails.{trail}
use Rattle.tables.proofs.Signs.{cited_ahead}
use Rattle.tables.proofs.Strides.{trail-some}
use Rattle.tables.proofs.Writing.{ahead_more}
use Rattle.tables.proofs.table.Table.follow.Goals as goal

pub loop-place-preserved : goal.loop-place-preserved
loop-place-preserved c =
    let l = c.loop-place in
    let t = c.args.self.now in
    let n = length c.args.row.now in
    let s = c.in-Some.made in
    l.invariant
    ∙ ahead_more l.place-index s.line (trail t (n - l.place-index) l.at) (trail t (n - (l.place-index + 1)) s.load) l.row _ (omega arith)
    (trail-some t l.at (n - l.place-index) (n - (l.place-index + 1)) s (omega arith) (sym c.in-Some.ensures.is)) (cited_ahead s.line c.in-Some.ensures.cited)
