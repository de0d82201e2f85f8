-- Values that add up and are ranked by a relation that keeps the five laws. An order of loads ranks them by such a value, the load's key.
use Rattle.std.specs.Prelude.{◌≡◌, ℕ, ◌+◌, ◌<◌, Bool, true, ◌≢◌, ◌⊎◌, nat_lt}
use Rattle.std.proofs.Common.{inl, inr, arith}
use mathlib.Core.WellFounded.Subrelation
use mathlib.Core.WellFounded.{Acc}
use lib.WfN.{lt-wf_rel}
use Rattle.std.proofs.lemmas.Bool.{cases_order, ltb-true, lt-ltb}
use Rattle.loads.specs.Loads.{empty, plus}
use Rattle.orders.specs.Laws.{Relation, ExactlyOne, is_first, is_second, is_third, Admissible}

-- x is above y, y is above x, or they are the same, and only one of these
abbrev pub Ranks : {K : Type 0} → (K → K → Bool) → K → K → Type 0
Ranks above x y = ExactlyOne (above x y ≡ true) (above y x ≡ true) (x ≡ y)

-- the five laws, of any values that have a sum and a least value
pub record Ranking {K : Type 0} (none : K) (sum : K → K → K) (above : K → K → Bool) : Type 0 where
  pub one : (x y : K) → Ranks above x y
  pub trans : (x y z : K) → above x y ≡ true → above y z ≡ true → above x z ≡ true
  pub adds : (x y w : K) → above x y ≡ true → above (sum x w) (sum y w) ≡ true
  pub least : (x : K) → x ≢ none → above x none ≡ true
  pub ends : (x : K) → Acc (λ y z. above z y ≡ true) x

-- loads under an order
pub loads : {above : Relation} → Admissible above → Ranking empty plus above
loads laws = record { one = laws.one; trans = laws.trans; adds = laws.adds; least = laws.least; ends = laws.ends }

-- the larger number is above
abbrev pub larger : ℕ → ℕ → Bool
larger m n = nat_lt n m

-- numbers
pub numbers : Ranking 0 ◌+◌ larger
numbers =
    record {
      one = λ m n. which m n (cases_order m n);
      trans = λ l m n p q. lt-ltb n l (omega (arith, ltb-true m l p, ltb-true n m q));
      adds = λ m n k p. lt-ltb (n + k) (m + k) (omega (arith, ltb-true n m p));
      least = λ n ne. lt-ltb 0 n (omega arith);
      ends = λ n. Subrelation.accessible (λ l m. ltb-true l m) (lt-wf_rel.wf.apply n);
    }
  where
    which : (m n : ℕ) → (m ≡ n) ⊎ ((m < n) ⊎ (n < m)) → Ranks larger m n
    which m n (inl e) = is_third (λ p. omega (arith, ltb-true n m p)) (λ p. omega (arith, ltb-true m n p)) e
    which m n (inr (inl h)) = is_second (λ p. omega (arith, ltb-true n m p)) (lt-ltb m n h) (λ e. omega arith)
    which m n (inr (inr h)) = is_first (lt-ltb n m h) (λ p. omega (arith, ltb-true m n p)) (λ e. omega arith)
