use Rattle.std.proofs.Common.{◌≡◌, ℕ, ◌+◌, false, eqb, length, drop, sym, refl, ap₂, ◌∙◌, inl, inr, arith}
use Rattle.std.proofs.lemmas.Bool.{cases_lt, ne_eqb, le-leb, lt-leb}
use Rattle.adoption.specs.Worksheets.{even_chains}
use Rattle.adoption.proofs.Loops.{even_end, even_stop, even_next}
use Rattle.adoption.proofs.lines.check_lengths.Goals as goal

pub returns-in_default : goal.returns-in_default
returns-in_default c =
    let l = c.index-lines-i.result in
    sym (c.loop-i.invariant ∙ even_stop (length c.args.book.now + c.loop-i.i + 1) c.args.lines.now c.loop-i.i c.loop-i.left l (omega arith) c.index-lines-i.is (lt-leb l.length c.loop-i.left (elim (cases_lt c.loop-i.left l.length) [ inl h ↦ h | inr h ↦ absurd (c.in_default.ensures (omega (arith, c.from.ensures))) ])))

pub loop-i-preserved : goal.loop-i-preserved
loop-i-preserved c =
    let l = c.index-lines-i.result in
    let number : (length c.args.book.now + c.loop-i.i + 1) + 1 ≡ length c.args.book.now + (c.loop-i.i + 1) + 1 = omega arith in
    c.loop-i.invariant ∙ even_next (length c.args.book.now + c.loop-i.i + 1) c.args.lines.now c.loop-i.i c.loop-i.left l (omega arith) c.index-lines-i.is (le-leb l.length c.loop-i.left (omega (arith, c.from.ensures, c.in-Some.ensures.0)))
    ∙ ap₂ (λ (k left : ℕ). even_chains k (drop (c.loop-i.i + 1) c.args.lines.now) left) number (omega (arith, c.from.ensures, c.in-Some.ensures.1))

pub returns-then-left-eq0 : goal.returns-then-left-eq0
returns-then-left-eq0 c = sym (c.loop-i.invariant ∙ even_end (length c.args.book.now + c.loop-i.i + 1) c.args.lines.now c.loop-i.i c.loop-i.left (omega arith) ∙ rw c.if-left-eq0.true refl)

pub returns-else-left-eq0 : goal.returns-else-left-eq0
returns-else-left-eq0 c =
    let some : eqb c.loop-i.left 0 ≡ false = ne_eqb _ _ c.if-left-eq0.false in
    sym (c.loop-i.invariant ∙ even_end (length c.args.book.now + c.loop-i.i + 1) c.args.lines.now c.loop-i.i c.loop-i.left (omega arith) ∙ rw some)
