-- The chain of a match as it is written into the lent row.
use Rattle.std.proofs.Common.{◌≡◌, ℕ, ◌+◌, List, ◌++◌, length, take, drop, ℤ, sym, ap, ◌∙◌, ap₂, arith, length-append, length-drop, length-take}
use Rattle.loads.specs.declared.Load.{Load}
use Rattle.worksheet.specs.declared.rule.Rule.{Rule}
use Rattle.rewriting.specs.Reducing.{Way}
use Rattle.tables.specs.Trails.{forward, undo, trail, over_front, over_back}
use Rattle.questions.proofs.Walking.{Walked}
use Rattle.completion.proofs.Rows.{follow_fills, undo_fills, length-forward, length-undo}
use Rattle.register.specs.Matching.{chain_between}

module _ (t : List Rule) (a b : Load) (v w : Way) (p : Walked t a v) (q : Walked t b w) (row : List ℤ) (m n : ℕ) (one : length v.trail ≡ m) (two : length w.trail ≡ n) (long : length row ≡ m + n) where
  -- the row that two reductions fill has the chain between their loads; u has the rules of t
  pub between_fills : (u : List Rule) → u ≡ t
      → over_front (forward (trail u (length (take m row)) a)) (take m row) ++ over_back (undo (forward (trail u (length (drop m row)) b))) (drop m row) ≡ chain_between v w
  between_fills u is =
      rw is
      (let there : trail t m a ≡ v.trail = ap (λ k. trail t k a) (sym one) ∙ p in
      let back : trail t n b ≡ w.trail = ap (λ k. trail t k b) (sym two) ∙ q in
      ap₂ (λ x y. x ++ y)
      (follow_fills t m a (take m row) (omega (arith, length-take m row)) (ap length there ∙ one) ∙ ap forward there)
      (undo_fills t n b (drop m row) (omega (arith, length-drop m row)) (ap length back ∙ two) ∙ ap (λ ns. undo (forward ns)) back))

  pub length-between : length (chain_between v w) ≡ m + n
  length-between = omega (arith, length-append (forward v.trail) (undo (forward w.trail)), length-forward v.trail, length-undo (forward w.trail), length-forward w.trail)
