use Rattle.std.proofs.Common.{◌≡◌, ◌+◌, ◌-◌, sym, ap, ◌∙◌, arith}
use Rattle.tables.specs.Trails.{trail}
use Rattle.tables.proofs.Signs.{cited_back}
use Rattle.tables.proofs.Strides.{trail-none, trail-some}
use Rattle.tables.proofs.Writing.{behind, behind-none, behind_more}
use Rattle.tables.proofs.table.Table.undo.Goals as goal

pub returns-in_default : goal.returns-in_default
returns-in_default c =
    let l = c.loop-i in
    sym (l.invariant ∙ behind-none l.i _ l.row (trail-none c.args.self.now l.at l.i (sym c.in_default.ensures.is)))

pub loop-i-preserved : goal.loop-i-preserved
loop-i-preserved c =
    let l = c.loop-i in
    let t = c.args.self.now in
    let s = c.in-Some.made in
    let back : l.i ≡ l.i - 1 + 1 = omega arith in
    l.invariant
    ∙ ap (λ n. behind n (trail t n l.at) l.row) back
    ∙ behind_more (l.i - 1) s.line (trail t (l.i - 1 + 1) l.at) (trail t (l.i - 1) s.load) l.row _ (omega arith)
    (trail-some t l.at (l.i - 1 + 1) (l.i - 1) s (omega arith) (sym c.in-Some.ensures.is)) (cited_back s.line c.in-Some.ensures.cited)
