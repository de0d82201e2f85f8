-- That loads are alike holds both ways round and along a chain, as Rust asks of `==`.
use Rattle.std.specs.Prelude.{ℕ, zero, suc, nat_eq, refl}
use Rattle.std.specs.Cmp.{IsPartialEquivalence, partial_equiv_from_equiv, nat_eq_equiv, on_per, and_per}
use Rattle.loads.specs.declared.Load.{Load}
use Rattle.loads.specs.Loads.{at}
use Rattle.loads.specs.Tests.{every, alike}

alike_below : (n : ℕ) → IsPartialEquivalence (λ (x y : Load). every n (λ k. nat_eq (at x k) (at y k)))
alike_below zero = record { symm = λ _ _. refl; trans = λ _ _ _ _ _. refl }
alike_below (suc n) = and_per (on_per (λ (x : Load). at x n) (partial_equiv_from_equiv nat_eq_equiv)) (alike_below n)

pub alike_laws : IsPartialEquivalence alike
unfolding alike
alike_laws = alike_below 8
