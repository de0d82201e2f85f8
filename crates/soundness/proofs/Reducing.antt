-- Reductions, as a relation, and the chains that they leave.
use Rattle.std.proofs.Common.{◌≡◌, ℕ, zero, suc, ◌≤◌, Bool, true, false, List, [], ◌∷◌, length, Some, None, Ok, Err, Option, Result, sym, refl, subst, arith}
use Rattle.std.specs.List.{AllByRecursion as All}
use Rattle.loads.specs.declared.Load.{Load}
use Rattle.loads.specs.Answers.{◌>>=◌}
use Rattle.loads.specs.Tests.{contains, fits}
use Rattle.loads.specs.Exchange.{swapped}
use Rattle.loads.proofs.Deciding.{contains_decides}
use Rattle.worksheet.specs.declared.equation.Equation.{Equation}
use Rattle.worksheet.specs.declared.rule.Rule.{Rule}
use Rattle.rewriting.specs.declared.reduce.StepFault.{StepFault}
use Rattle.rewriting.specs.declared.reduce.StepFault.TheVariants.{Spent, Overflow}
use Rattle.rewriting.specs.Reducing.{fitting, sized, Way, ended, onward, reduce}
use Rattle.rewriting.specs.Swaps.{equations, Reduces, Standard}
use Rattle.rewriting.proofs.Searching.{fitting-contains}
use Rattle.rewriting.proofs.Reducing.{reduce-none}
use Rattle.rewriting.proofs.Bridge.{reduce-ends}
use Rattle.tables.specs.Trails.{forward}
use Rattle.soundness.specs.Sheets.{Claimed}
use Rattle.soundness.proofs.Answering.{err_not_ok, ok_same, none_not_some, some_same, went, goes, checked, passes}
use Rattle.soundness.proofs.Following.{Follows, stay, pass}

-- steps by the first rule that fits, each to a load that fits, until no rule does; the trail has the rules' line numbers
pub data Reduced (t : List Rule) : Load → List ℕ → Load → Type 0 where
  rest : {a : Load} → fitting t a ≡ None → Reduced t a [] a
  move : {a : Load} {r : Rule} {ns : List ℕ} {b : Load} → fitting t a ≡ Some r → fits (swapped a r.left r.right) ≡ true
      → Reduced t (swapped a r.left r.right) ns b → Reduced t a (r.line ∷ ns) b

-- a load that is sized is the load, and fits
pub sized_so : (x y : Load) → sized x ≡ Ok y → (fits x ≡ true) × (x ≡ y)
sized_so x y e = let f = went _ _ _ e in (checked _ _ _ f.first, ok_same f.then)

-- an answered reduction, and the steps that it needs
abbrev pub Came : List Rule → ℕ → Load → Way → Type 0
Came t b a w = Reduced t a w.trail w.end × (length w.trail ≤ b)

pub reduces_so : (t : List Rule) (b : ℕ) (a : Load) (w : Way) → reduce t b a ≡ Ok w → Came t b a w
reduces_so t zero a w e = go (fitting t a) refl e
  where
    go : (o : Option Rule) → fitting t a ≡ o → ◌≡◌ {A = Result Way StepFault} (elim o [ None ↦ Ok (ended a) | Some r ↦ Err Spent ]) (Ok w) → Came t zero a w
    go None s e = subst (Came t zero a) (ok_same e) (rest s, omega arith)
    go (Some r) s e = absurd (err_not_ok e)
reduces_so t (suc b) a w e = go (fitting t a) refl (λ x v. reduces_so t b x v) e
  where
    go : (o : Option Rule) → fitting t a ≡ o → ((x : Load) (v : Way) → reduce t b x ≡ Ok v → Came t b x v)
        → ◌≡◌ {A = Result Way StepFault} (elim o [ None ↦ Ok (ended a) | Some r ↦ sized (swapped a r.left r.right) >>= λ y. reduce t b y >>= λ w. Ok (onward r.line w) ]) (Ok w)
        → Came t (suc b) a w
    go None s ih e = subst (Came t (suc b) a) (ok_same e) (rest s, omega arith)
    go (Some r) s ih e =
        let h = went _ _ _ e in
        let g = went _ _ _ h.then in
        let x = sized_so (swapped a r.left r.right) h.got h.first in
        let i = ih h.got g.got g.first in
        let on = subst (λ (y : Load). Reduced t y g.got.trail g.got.end) (sym x.1) i.0 in
        subst (Came t (suc b) a) (ok_same g.then) (move s x.0 on, omega arith)

-- a reduction is answered wherever the budget allows its steps
pub so_reduces : {t : List Rule} {a : Load} {ns : List ℕ} {s : Load} → Reduced t a ns s → (b : ℕ) → length ns ≤ b → reduce t b a ≡ Ok (record { end = s; trail = ns })
so_reduces {t} {a} (rest e) b h = reduce-none t a b e
so_reduces (move e f g) zero h = absurd (omega arith)
so_reduces {t} (move {a = a} {r = r} e f g) (suc b) h =
    rw (e, reduce) (goes _ (goes _ (passes Overflow f) refl) (goes _ (so_reduces g b (omega arith)) refl))

-- it is a chain of steps to a standard load
pub reduced_reduces : {t : List Rule} {a : Load} {ns : List ℕ} {s : Load} → Reduced t a ns s → Reduces (equations t) a s × Standard (equations t) s
reduced_reduces {t} {a} {ns} {s} h = reduce-ends t (length ns) a (record { end = s; trail = ns }) (so_reduces h (length ns) (omega arith))

-- no rule fits the end
pub reduced_ends : {t : List Rule} {a : Load} {ns : List ℕ} {s : Load} → Reduced t a ns s → fitting t s ≡ None
reduced_ends (rest e) = e
reduced_ends (move e f g) = reduced_ends g

-- the end fits
pub reduced_fits : {t : List Rule} {a : Load} {ns : List ℕ} {s : Load} → fits a ≡ true → Reduced t a ns s → fits s ≡ true
reduced_fits f (rest e) = f
reduced_fits f (move e g h) = reduced_fits g h

-- what holds of all rules holds of the one that fits
pub fitting_all : (P : Rule → Type 0) (t : List Rule) (a : Load) (r : Rule) → All P t → fitting t a ≡ Some r → P r
fitting_all P [] a r h e = absurd (none_not_some e)
fitting_all P (s ∷ t) a r h e = go (contains a s.left) e (fitting_all P t a r h.1)
  where
    go : (b : Bool) → elim b [ true ↦ Some s | false ↦ fitting t a ] ≡ Some r → (fitting t a ≡ Some r → P r) → P r
    go true e ih = rw (some_same e) at h.0
    go false e ih = ih e

-- no rule fits: no left load is contained
pub none_contained : (t : List Rule) (a : Load) → fitting t a ≡ None → All (λ (r : Rule). contains a r.left ≡ false) t
none_contained [] a e = tt
none_contained (r ∷ t) a e = let ih = none_contained t a in grind arith

-- the trail of a reduction, cited forward, leads along it
pub reduced_follows : {t : List Rule} {a : Load} {ns : List ℕ} {s : Load} (ls : List Equation) → All (Claimed ls) t → Reduced t a ns s → Follows ls (forward ns) a s
reduced_follows ls c (rest e) = stay
reduced_follows {t} ls c (move {a = a} {r = r} e f h) =
    pass (fitting_all (Claimed ls) t a r c e) (record { fits = (contains_decides a r.left).0 (fitting-contains t a r e); gives = refl }) f (reduced_follows ls c h)
