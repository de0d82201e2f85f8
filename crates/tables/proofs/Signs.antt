-- A line number as a chain cites it.
use Rattle.std.proofs.Common.{◌≡◌, ℕ, zero, suc, ◌<◌, ◌≤◌, pos, ◌-ℤ◌, neg_ℤ, ap, ◌∙◌, arith, w16, SFits, to_z, of_z}
use lib.IntN.{+ℤ_idl}
use mir.Facts.{to_z_pos}
use Rattle.std.proofs.lemmas.Int.{to_z-of_z}

-- forward
pub cited_ahead : (n : ℕ) → n ≤ 544 → to_z w16 n ≡ pos n
cited_ahead n h = let small : n < 32768 = omega arith in to_z_pos w16 small

back_fits : (n : ℕ) → n ≤ 544 → SFits w16 (neg_ℤ (pos n))
back_fits zero h = record { sfits = omega arith }
back_fits (suc n) h = record { sfits = omega arith }

-- backward
pub cited_back : (n : ℕ) → n ≤ 544 → to_z w16 (of_z w16 (pos 0 -ℤ to_z w16 n)) ≡ neg_ℤ (pos n)
cited_back n h = ap (λ z. to_z w16 (of_z w16 z)) (ap (λ z. pos 0 -ℤ z) (cited_ahead n h) ∙ +ℤ_idl (neg_ℤ (pos n))) ∙ to_z-of_z w16 (neg_ℤ (pos n)) (back_fits n h)
