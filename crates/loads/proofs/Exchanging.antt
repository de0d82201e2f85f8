-- What an exchange gives, by the new counts.
use Rattle.std.proofs.Common.{◌≡◌, ℕ, zero, suc, ◌%◌, Bool, true, false, ◌&&◌, leb, [], ◌∷◌, map, Ok, Err, refl, ap, ap₂, ◌∙◌, add-one, arith}
use Rattle.std.proofs.Math.Bool.{and_comm, and-true}
use Rattle.std.specs.List.{list_all, range_with_len}
use Rattle.std.proofs.lemmas.List.{get_or-map}
use Rattle.std.proofs.lemmas.List.Folds.{list_all-append}
use Rattle.std.proofs.lemmas.List.FromFn.{get_or-map-range_with_len, map-range_with_len_more}
use Rattle.loads.specs.declared.Load.{Load}
use Rattle.loads.specs.declared.exchange.ExchangeFault.TheVariants.{Lacks, Overflow}
use Rattle.loads.specs.Loads.{of_counts}
use Rattle.loads.specs.Tests.{every, contains, fits}
use Rattle.loads.specs.Exchange.{new, swapped, exchanged}
use Rattle.loads.proofs.Algebra.{at-of_counts, same_eight, counts}
use Rattle.loads.proofs.Deciding.{fits_eight}

-- a test of each number made from the first n places
all_every : (p : ℕ → Bool) (f : ℕ → ℕ) (n : ℕ) → list_all p (map f (range_with_len 0 n)) ≡ every n (λ k. p (f k))
all_every p f zero = refl
all_every p f (suc n) =
    ap (list_all p) (rw add-one at (map-range_with_len_more f 0 n n (omega arith)))
    ∙ list_all-append p (map f (range_with_len 0 n)) (f n ∷ [])
    ∙ ap₂ (λ a b. a && b) (all_every p f n) (and-true (p (f n)))
    ∙ and_comm (every n (λ k. p (f k))) (p (f n))

module _ (x out into : Load) where
  pub exchanged_lacks : contains x out ≡ false → exchanged x out into ≡ Err Lacks
  unfolding exchanged
  exchanged_lacks e = rw e

  pub exchanged-over : contains x out ≡ true → fits (swapped x out into) ≡ false → exchanged x out into ≡ Err Overflow
  unfolding exchanged
  exchanged-over e f = rw (e, f)

  pub exchanged_made : contains x out ≡ true → fits (swapped x out into) ≡ true → exchanged x out into ≡ Ok (swapped x out into)
  unfolding exchanged
  exchanged_made e f = rw (e, f)

  -- the new counts fit exactly if the new load does
  pub new-fit : list_all (λ n. leb n 65535) (map (new x out into) (range_with_len 0 8)) ≡ fits (swapped x out into)
  unfolding fits
  new-fit = all_every (λ n. leb n 65535) (new x out into) 8

  -- the load of the new counts, where they fit
  pub new-load : fits (swapped x out into) ≡ true → of_counts (map (λ n. n % 65536) (map (new x out into) (range_with_len 0 8))) ≡ swapped x out into
  new-load e = same_eight (λ k l.
      at-of_counts (map (λ n. n % 65536) (map (new x out into) (range_with_len 0 8))) refl k
      ∙ get_or-map (λ n. n % 65536) (map (new x out into) (range_with_len 0 8)) k 0 0 l
      ∙ ap (λ n. n % 65536) (get_or-map-range_with_len (new x out into) 0 8 k k 0 l (omega arith))
      ∙ omega (counts, (fits_eight (swapped x out into)).0 e k l))
