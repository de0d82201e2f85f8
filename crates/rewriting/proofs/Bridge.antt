-- Search and reduction against the theory: a search that finds nothing says that the load is standard, and a reduction that is answered is a
-- chain of steps to a standard load.
use Rattle.std.proofs.Common.{◌≡◌, ℕ, ◌+◌, Bool, true, false, List, [], ◌∷◌, Some, None, Ok, Err, Result, refl, ap, subst, inl, inr, arith}
use Rattle.std.proofs.lemmas.Bool.Decides.{not_from_Decides}
use Rattle.loads.specs.declared.Load.{Load}
use Rattle.loads.specs.Answers.{◌>>=◌}
use Rattle.loads.specs.Tests.{contains}
use Rattle.loads.specs.Exchange.{swapped}
use Rattle.loads.proofs.Deciding.{contains_decides, decides_false}
use Rattle.worksheet.specs.declared.rule.Rule.{Rule}
use Rattle.rewriting.specs.declared.reduce.StepFault.{StepFault}
use Rattle.rewriting.specs.Reducing.{fitting, search, sized, Way, onward}
use Rattle.rewriting.specs.Swaps.{equation_of, equations, In, Step, none, link, Reduces, Standard}
use Rattle.rewriting.specs.Theorems.{ReduceEnds, SearchNone}
use Rattle.rewriting.proofs.Searching.{search-none as none-fits, fitting-contains}
use Rattle.rewriting.proofs.Reducing.{sized_is, Run, rests, spends, passes, moves, runs}

-- a search that finds nothing
none-standard : (t : List Rule) (a : Load) → fitting t a ≡ None → Standard (equations t) a
none-standard [] a e = λ r m h. m
none-standard (s ∷ t) a e = go (contains a s.left) refl (none-standard t a)
  where
    go : (b : Bool) → contains a s.left ≡ b → (fitting t a ≡ None → Standard (equations t) a) → Standard (equations (s ∷ t)) a
    go true f ih r m h = let found = rw (f, fitting) at e in let z : ◌≡◌ {A = ℕ} 0 1 = cc in absurd (omega arith)
    go false f ih r (inl q) h = not_from_Decides _ (contains_decides a s.left) f (rw q at h)
    go false f ih r (inr m) h = ih (rw (f, fitting) at e) r m h

standard-none : (t : List Rule) (a : Load) (i : ℕ) → Standard (equations t) a → search i t a ≡ None
standard-none [] a i h = refl
standard-none (s ∷ t) a i h =
    rw (decides_false _ (contains_decides a s.left) (h (equation_of s) (inl refl)), search) (standard-none t a (i + 1) (λ r m. h r (inr m)))

pub search-none : SearchNone
search-none t a = (λ e. none-standard t a (none-fits t a 0 e), standard-none t a 0)

-- a search that finds a rule
fitting-held : (t : List Rule) (a : Load) (r : Rule) → fitting t a ≡ Some r → In (equation_of r) (equations t)
fitting-held [] a r e = let z : ◌≡◌ {A = ℕ} 0 1 = cc in absurd (omega arith)
fitting-held (s ∷ t) a r e = go (contains a s.left) refl (fitting-held t a r)
  where
    go : (b : Bool) → contains a s.left ≡ b → (fitting t a ≡ Some r → In (equation_of r) (equations t)) → In (equation_of r) (equations (s ∷ t))
    go true f ih = let found = rw (f, fitting) at e in let same : r ≡ s = cc in inl (ap equation_of same)
    go false f ih = inr (ih (rw (f, fitting) at e))

-- what an answer says of the load
abbrev Ends : List Rule → Load → Result Way StepFault → Type 0
Ends t a (Ok w) = Reduces (equations t) a w.end × Standard (equations t) w.end
Ends t a (Err e) = Unit {0}

-- one step before
onward-ends : (t : List Rule) (a b : Load) (line : ℕ) → Step (equations t) a b → (x : Result Way StepFault) → Ends t b x → Ends t a (x >>= λ w. Ok (onward line w))
onward-ends t a b line s (Ok w) h = (link s h.0, h.1)
onward-ends t a b line s (Err e) h = tt

-- the step that search and exchange make
step_made : (t : List Rule) (a y : Load) (r : Rule) → fitting t a ≡ Some r → sized (swapped a r.left r.right) ≡ Ok y → Step (equations t) a y
step_made t a y r e f = record {
  rule = equation_of r;
  held = fitting-held t a r e;
  applies = record { fits = (contains_decides a r.left).0 (fitting-contains t a r e); gives = sized_is (swapped a r.left r.right) y f };
}

-- every run is so
ends : {t : List Rule} {b : ℕ} {a : Load} {x : Result Way StepFault} → Run t b a x → Ends t a x
ends {t} {a = a} (rests e) = (none, none-standard t a e)
ends (spends e) = tt
ends (passes e f) = tt
ends {t} {a = a} (moves {y = y} {r = r} {x = x} e f h) = onward-ends t a y r.line (step_made t a y r e f) x (ends h)

pub reduce-ends : ReduceEnds
reduce-ends t b a w e = subst (Ends t a) e (ends (runs t b a))
