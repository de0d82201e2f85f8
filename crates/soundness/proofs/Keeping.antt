-- What holds of the table and the lines between rounds, and is kept by each of them.
use Rattle.std.proofs.Common.{◌≡◌, ℕ, ◌+◌, Bool, true, false, cond, List, [], ◌∷◌, ◌++◌, length, set, pos, Some, None, refl, subst, inl, inr}
use Rattle.std.specs.List.{AllByRecursion as All}
use Rattle.std.proofs.ByRecursion.{All-set, All-weaker, all_kept_by}
use Rattle.std.proofs.lemmas.Bool.{both_ways}
use Rattle.loads.specs.Tests.{contains, fits}
use Rattle.orders.specs.Laws.{Relation, Admissible, ExactlyOne, is_first, is_second, is_third}
use Rattle.worksheet.specs.declared.equation.Equation.{Equation}
use Rattle.worksheet.specs.declared.rule.Rule.{Rule}
use Rattle.worksheet.specs.Claims.{nth}
use Rattle.worksheet.specs.Derivations.{Derivation}
use Rattle.rewriting.specs.Swaps.{equation_of, equations, In}
use Rattle.rewriting.specs.Settled.{Falls}
use Rattle.rewriting.specs.Reducing.{fitting, Way}
use Rattle.rewriting.proofs.Uniqueness.{reduces_falls}
use Rattle.tables.specs.Placing.{without, enter}
use Rattle.questions.specs.Asking.{Parting, turned_parting}
use Rattle.completion.specs.Adding.{derived, oriented, rule_of}
use Rattle.completion.specs.Changing.{rederived}
use Rattle.soundness.specs.Sheets.{Small, lines, LinesReplay, Claimed}
use Rattle.soundness.proofs.Following.{Follows, pass, follows_back, nth_all, named_all}
use Rattle.soundness.proofs.Reducing.{Reduced, reduced_reduces, reduced_follows, none_contained}
use Rattle.soundness.proofs.Lines.{replays_push, lines_fit, whole_applies, last_claims, claimed_more}
use Rattle.soundness.proofs.Ordering.{Ordered, without-none, both_all, all_enter, ordered_without, ordered_enter, ordered_set}
use Rattle.soundness.proofs.Asking.{Forked}
use Rattle.soundness.proofs.Undoing.{undo-derived}

-- a rule's left load is above its right load
abbrev pub Drops : Relation → Rule → Type 0
Drops above r = above r.left r.right ≡ true

-- the lines replay, rules are what their lines claim and fall, and left loads rise and contain no other
pub record Kept (above : Relation) (book : List Equation) (t : List Rule) (added : List Derivation) : Type 0 where
  pub replay : LinesReplay book added
  pub claimed : All (Claimed (lines book added)) t
  pub falls : All (Drops above) t
  pub ordered : Ordered above t

-- a line that may be added as a rule
pub record Ready (above : Relation) (t : List Rule) (ls : List Equation) (d : Derivation) : Type 0 where
  pub leads : Follows ls d.chain d.claim.left d.claim.right
  pub small : fits d.claim.left ≡ true
  pub falls : above d.claim.left d.claim.right ≡ true
  pub rest : fitting t d.claim.left ≡ None

-- the rule of a parting, the higher end first, may be added
pub oriented_ready : (above : Relation) → Admissible above → (t : List Rule) (ls : List Equation) (b : ℕ) (p : Parting) → Forked t ls b p → Ready above t ls (derived (oriented above p))
oriented_ready above laws t ls b p f = go (above p.first.end p.second.end) refl
  where
    other : ExactlyOne (above p.first.end p.second.end ≡ true) (above p.second.end p.first.end ≡ true) (p.first.end ≡ p.second.end)
        → above p.first.end p.second.end ≡ false → above p.second.end p.first.end ≡ true
    other (is_first x _ _) e = absurd (both_ways _ e x)
    other (is_second _ y _) e = y
    other (is_third _ _ z) e = absurd (f.differ z)

    go : (d : Bool) → above p.first.end p.second.end ≡ d → Ready above t ls (derived (cond d p (turned_parting p)))
    go true e = record { leads = f.leads; small = f.small_first; falls = e; rest = f.rest-first }
    go false e = record {
      leads = subst (λ zs. Follows ls zs p.second.end p.first.end) (undo-derived p) (follows_back f.small_first f.leads);
      small = f.small_second;
      falls = other (laws.one p.first.end p.second.end) e;
      rest = f.rest-second;
    }

-- what holds of each rule as an equation holds of each equation of the table
pub in_all : (P : Equation → Type 0) (t : List Rule) → All (λ (r : Rule). P (equation_of r)) t → (e : Equation) → In e (equations t) → P e
in_all P [] h e m = absurd m
in_all P (r ∷ t) h e (inl q) = rw q h.0
in_all P (r ∷ t) h e (inr m) = in_all P t h.1 e m

pub falls_all : (above : Relation) (t : List Rule) → All (Drops above) t → Falls above (equations t)
falls_all above t h = in_all (λ (e : Equation). above e.left e.right ≡ true) t h

module _ (above : Relation) (laws : Admissible above) (book : List Equation) (t : List Rule) (added : List Derivation) (k : Kept above book t added) where
  -- the claims of the rules so far stand with one line more
  claimed_still : (d : Derivation) → All (Claimed (lines book (added ++ (d ∷ [])))) t
  claimed_still d = All-weaker (Claimed (lines book added)) (Claimed (lines book (added ++ (d ∷ [])))) (claimed_more book added d) t k.claimed

  -- a rule is added
  pub added_kept : (d : Derivation) → Ready above t (lines book added) d
      → Kept above book (enter above (rule_of d.claim (length book + length added + 1)) (without d.claim.left t)) (added ++ (d ∷ []))
  added_kept d r =
      let l = d.claim.left in
      let new = rule_of d.claim (length book + length added + 1) in
      let gone : (Rule → Type 0) → Type 0 = λ P. All P (without l t) in
      let keep : (P : Rule → Type 0) → All P t → gone P = λ P h. all_kept_by _ P t h in
      record {
        replay = replays_push book added d k.replay r.leads r.small;
        claimed = all_enter (Claimed (lines book (added ++ (d ∷ [])))) above new (without l t) (last_claims book added d) (keep (Claimed (lines book (added ++ (d ∷ [])))) (claimed_still d));
        falls = all_enter (Drops above) above new (without l t) r.falls (keep (Drops above) k.falls);
        ordered = ordered_enter above laws new (without l t)
            (both_all (λ (u : Rule). contains u.left l ≡ false) (λ (u : Rule). contains l u.left ≡ false) (without l t) (without-none l t)
            (keep (λ (u : Rule). contains l u.left ≡ false) (none_contained t l r.rest)))
            (ordered_without above l t k.ordered);
      }

  -- a right load is changed
  pub changed_kept : All Small book → (i : ℕ) (r : Rule) → nth t i ≡ Some r → (w : Way) → Reduced t r.right w.trail w.end
      → Kept above book (set t i (rule_of (rederived r w).claim (length book + length added + 1))) (added ++ (rederived r w ∷ []))
  changed_kept small i r n w d =
      let ls = lines book added in
      let new = rule_of (rederived r w).claim (length book + length added + 1) in
      let c = nth_all (Claimed ls) t i r k.claimed n in
      let f = named_all Small (λ e f. (f.1, f.0)) ls (pos r.line) (equation_of r) (lines_fit book added small k.replay) c in
      let leads : Follows ls (rederived r w).chain r.left w.end = pass c (whole_applies (equation_of r)) f.1 (reduced_follows ls k.claimed d) in
      let top = nth_all (Drops above) t i r k.falls n in
      let drop : above r.left w.end ≡ true = elim (reduces_falls above laws {table = equations t} (falls_all above t k.falls) (reduced_reduces d).0) [
        | inl e ↦ rw e at top
        | inr e ↦ laws.trans r.left r.right w.end top e
      ] in
      record {
        replay = replays_push book added (rederived r w) k.replay leads f.0;
        claimed = All-set (Claimed (lines book (added ++ (rederived r w ∷ [])))) t i new (last_claims book added (rederived r w)) (claimed_still (rederived r w));
        falls = All-set (Drops above) t i new drop k.falls;
        ordered = ordered_set above t i r new n refl k.ordered;
      }
