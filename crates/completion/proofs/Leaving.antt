-- What a call answers and leaves, by what it comes to.
use Rattle.std.proofs.Common.{◌≡◌, ℕ, Ok, Err, Result, sym, refl, ap, ◌∙◌, ap₂, arith}
use Rattle.completion.specs.States.{answered, leaves}

module _ {X S E : Type 0} (s : S) (x : Result (X × S) E) where
  -- refused
  pub refused_value : (e : E) → x ≡ Err e → Err e ≡ answered x
  refused_value e h = sym (ap answered h)

  pub refused_leaves : (e : E) (after : S) → x ≡ Err e → after ≡ s → after ≡ leaves s x
  refused_leaves e after h k = k ∙ sym (ap (leaves s) h)

  -- answered
  pub answered_value : (v : X) (t : S) → x ≡ Ok (v, t) → Ok v ≡ answered x
  answered_value v t h = sym (ap answered h)

  pub answered-leaves : (v : X) (t after : S) → x ≡ Ok (v, t) → after ≡ t → after ≡ leaves s x
  answered-leaves v t after h k = k ∙ sym (ap (leaves s) h)

  -- so what it came to is known from what it answered and left
  pub was_answered : (v : X) (after : S) → Ok v ≡ answered x → after ≡ leaves s x → x ≡ Ok (v, after)
  was_answered v after e f = go x refl
    where
      go : (y : Result (X × S) E) → x ≡ y → x ≡ Ok (v, after)
      go (Ok p) h =
          let d : ◌≡◌ {A = Result X E} (Ok v) (Ok p.0) = rw h at e in
          let same : v ≡ p.0 = cc in
          let left : after ≡ p.1 = rw h at f in
          h ∙ ap₂ (λ a b. Ok (a, b)) (sym same) (sym left)
      go (Err d) h = let z : ◌≡◌ {A = Result X E} (Ok v) (Err d) = rw h at e in let o : ◌≡◌ {A = ℕ} 0 1 = cc in absurd (omega arith)

  pub was_refused : (e : E) → Err e ≡ answered x → x ≡ Err e
  was_refused e f = go x refl
    where
      go : (y : Result (X × S) E) → x ≡ y → x ≡ Err e
      go (Ok p) h = let z : ◌≡◌ {A = Result X E} (Err e) (Ok p.0) = rw h at f in let o : ◌≡◌ {A = ℕ} 0 1 = cc in absurd (omega arith)
      go (Err d) h = let z : ◌≡◌ {A = Result X E} (Err e) (Err d) = rw h at f in let same : d ≡ e = cc in h ∙ ap Err same
