-- The four conditions of a file, one after the other, and what they tell.
use Rattle.std.proofs.Common.{◌≡◌, ℕ, List, IfOk, Ok, Err, Result, sym, subst, arith}
use Rattle.loads.specs.Answers.{◌>>=◌}
use Rattle.swapfile.specs.declared.fault.FileFault.{FileFault}
use Rattle.swapfile.specs.Bytes.{Bytes}
use Rattle.swapfile.specs.Decoding.{Counted}
use Rattle.swapfile.specs.Layout.{Layout, layout}
use Rattle.swapfile.specs.Theorems.{Tells}
use Rattle.swapfile.specs.WellFormed.{counts_kept, offsets_rise, records_fill, zeros_absent, well_formed}
use Rattle.swapfile.proofs.NoOther.{accepted, refused, counted}
use Rattle.swapfile.proofs.SectionTrip.{after}
use Rattle.filereader.specs.Readers.{laid_out}

-- what the conditions answer, together
pub conditions : (b : List ℕ) (p q r s : Result (Unit {0}) FileFault) → p ≡ counts_kept b → q ≡ offsets_rise b → r ≡ records_fill (layout b) → s ≡ zeros_absent (layout b) → ((p >>= λ _. q >>= λ _. r >>= λ _. s) >>= λ _. Ok (layout b)) ≡ laid_out b
unfolding well_formed
conditions b p q r s p-is q-is r-is s-is = λ i. (p-is i >>= λ _. q-is i >>= λ _. r-is i >>= λ _. s-is i) >>= λ _. Ok (layout b)

-- a refusal that stays
refusal : {X Y E : Type 0} (r : Result X E) (f : X → Y) (e : E) → Err e ≡ (r >>= λ x. Ok (f x)) → r ≡ Err e
refusal (Ok x) f e is = let z : ◌≡◌ {A = ℕ} 0 1 = cc in absurd (omega arith)
refusal (Err d) f e is = cc

-- bytes are read exactly when they are the file of some content
pub tells : (b : List ℕ) → Bytes b → (r : Result Layout FileFault) → r ≡ laid_out b → Tells b r
tells b h (Ok x) e = accepted b h (after (well_formed b) _ _ (sym e)).1
tells b h (Err f) e = refused b f (refusal (well_formed b) _ f e)

-- and then the windows have as many records as they tell
pub counts : (b : List ℕ) → Bytes b → (r : Result Layout FileFault) → r ≡ laid_out b → IfOk r Counted
counts b h (Ok x) e =
    let p = after (well_formed b) _ _ (sym e) in
    let same : layout b ≡ x = cc p.2 in
    subst Counted same (counted b h p.1)
counts b h (Err f) e = tt
