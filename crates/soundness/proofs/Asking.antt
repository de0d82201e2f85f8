-- Questions asked of a table: what an answered row of them says.
use Rattle.std.proofs.Common.{◌≡◌, ℕ, ◌+◌, ◌-◌, ◌≤◌, Bool, true, false, List, [], ◌∷◌, length, None, Ok, Result, sym, refl, ◌∙◌, subst, arith}
use Rattle.std.specs.List.{AllByRecursion as All}
use Rattle.std.proofs.lemmas.Bool.{false≢true}
use Rattle.loads.specs.Tests.{alike, fits}
use Rattle.loads.proofs.Deciding.{alike_decides}
use Rattle.worksheet.specs.declared.equation.Equation.{Equation}
use Rattle.worksheet.specs.declared.rule.Rule.{Rule}
use Rattle.rewriting.specs.declared.reduce.StepFault.{StepFault}
use Rattle.rewriting.specs.Reducing.{fitting}
use Rattle.questions.specs.declared.placed.Placed.{Placed}
use Rattle.questions.specs.declared.question.Question.{Question}
use Rattle.questions.specs.Topics.{Topic}
use Rattle.questions.specs.Questions.{form}
use Rattle.questions.specs.Asking.{Parting, Ending, met, apart, ending, ask, go_on, ask_all}
use Rattle.completion.specs.Adding.{between, derived}
use Rattle.soundness.specs.Sheets.{Claimed}
use Rattle.soundness.proofs.Answering.{ok_same, went, unmarked}
use Rattle.soundness.proofs.Following.{Follows, followed_by, follows_back}
use Rattle.soundness.proofs.Reducing.{Reduced, reduces_so, reduced_ends, reduced_fits, reduced_follows}

-- both loads of a question, reduced
pub record Tried (t : List Rule) (q : Question) (p : Parting) (b : ℕ) : Type 0 where
  pub of_it : p.question ≡ q
  pub came_first : Reduced t q.first p.first.trail p.first.end
  pub came_second : Reduced t q.second p.second.trail p.second.end
  pub counts : length p.first.trail + length p.second.trail + p.left ≡ b

-- an answered question
pub record Asked (t : List Rule) (b : ℕ) (q : Question) (o : Ending) : Type 0 where
  pub parting : Parting
  pub tried : Tried t q parting b
  pub is : o ≡ ending parting

pub ask_so : (t : List Rule) (b : ℕ) (q : Question) (o : Ending) → ask t b q ≡ Ok o → Asked t b q o
ask_so t b q o e =
    let f = went _ _ _ e in
    let g = went _ _ _ f.then in
    let x = reduces_so t b q.first f.got (unmarked _ _ _ f.first) in
    let y = reduces_so t (b - length f.got.trail) q.second g.got (unmarked _ _ _ g.first) in
    record {
      parting = record { question = q; first = f.got; second = g.got; left = b - length f.got.trail - length g.got.trail };
      tried = record { of_it = refl; came_first = x.0; came_second = y.0; counts = omega (arith, x.1, y.1) };
      is = sym (ok_same g.then);
    }

-- the chain of a question leads from its first load to its second, and both fit
pub record Bridged (ls : List Equation) (q : Question) : Type 0 where
  pub small_first : fits q.first ≡ true
  pub small_second : fits q.second ≡ true
  pub leads : Follows ls (between q.bridge) q.first q.second

-- two different standard loads with a chain from the one to the other
pub record Forked (t : List Rule) (ls : List Equation) (b : ℕ) (p : Parting) : Type 0 where
  pub leads : Follows ls (derived p).chain p.first.end p.second.end
  pub small_first : fits p.first.end ≡ true
  pub small_second : fits p.second.end ≡ true
  pub rest-first : fitting t p.first.end ≡ None
  pub rest-second : fitting t p.second.end ≡ None
  pub differ : ¬ (p.first.end ≡ p.second.end)
  pub within : p.left ≤ b

-- every topic's question ends in one load, in so many steps
pub data AllMet (t : List Rule) : List Topic → ℕ → Type 0 where
  no_more : AllMet t [] 0
  one_more : {k : Topic} {ks : List Topic} {n b : ℕ} (q : Question) (p : Parting) → form k ≡ Ok q → Tried t q p b → p.first.end ≡ p.second.end → AllMet t ks n
      → AllMet t (k ∷ ks) (length p.first.trail + length p.second.trail + n)

-- all met, and how many steps that took
pub record Meets (t : List Rule) (ks : List Topic) (b left : ℕ) : Type 0 where
  pub steps : ℕ
  pub all : AllMet t ks steps
  pub counts : steps + left ≡ b

-- what an ending says
abbrev pub Told : List Rule → List Equation → List Topic → ℕ → Ending → Type 0
Told t ls ks b (met left) = Meets t ks b left
Told t ls ks b (apart p) = Forked t ls b p

module _ (t : List Rule) (ls : List Equation) (claimed : All (Claimed ls) t) where
  -- a question whose loads end apart
  forked : (b : ℕ) (q : Question) (p : Parting) → Bridged ls q → Tried t q p b → alike p.first.end p.second.end ≡ false → Forked t ls b p
  forked b q p bridge w s =
      record {
        leads = rw w.of_it (followed_by (follows_back bridge.small_first (reduced_follows ls claimed w.came_first)) (followed_by bridge.leads (reduced_follows ls claimed w.came_second)));
        small_first = reduced_fits bridge.small_first w.came_first;
        small_second = reduced_fits bridge.small_second w.came_second;
        rest-first = reduced_ends w.came_first;
        rest-second = reduced_ends w.came_second;
        differ = λ e. false≢true (sym s ∙ (alike_decides p.first.end p.second.end).1 e);
        within = omega (arith, w.counts);
      }

  -- an ending of the rest is one of the whole, where the first question met
  later : (b l : ℕ) (k : Topic) (ks : List Topic) (q : Question) (p : Parting) → form k ≡ Ok q → Tried t q p b → p.left ≡ l → p.first.end ≡ p.second.end
      → (o : Ending) → Told t ls ks l o → Told t ls (k ∷ ks) b o
  later b l k ks q p f w i s (met left) m =
      record { steps = length p.first.trail + length p.second.trail + m.steps; all = one_more q p f w s m.all; counts = omega (arith, w.counts, m.counts) }
  later b l k ks q p f w i s (apart r) g = record {
    leads = g.leads;
    small_first = g.small_first;
    small_second = g.small_second;
    rest-first = g.rest-first;
    rest-second = g.rest-second;
    differ = g.differ;
    within = omega (arith, w.counts, g.within);
  }

  one_told : (b : ℕ) (k : Topic) (ks : List Topic) (q : Question) (p : Parting) → form k ≡ Ok q → Bridged ls q → Tried t q p b → (o : Ending)
      → ((l : ℕ) → ◌≡◌ {A = Result Ending (Placed StepFault)} (ask_all t l ks) (Ok o) → Told t ls ks l o)
      → (same : Bool) → alike p.first.end p.second.end ≡ same
      → ◌≡◌ {A = Result Ending (Placed StepFault)} (go_on (λ left. ask_all t left ks) (elim same [ true ↦ met p.left | false ↦ apart p ])) (Ok o) → Told t ls (k ∷ ks) b o
  one_told b k ks q p f bridge w o ih true s e = later b p.left k ks q p f w refl ((alike_decides p.first.end p.second.end).0 s) o (ih p.left e)
  one_told b k ks q p f bridge w o ih false s e = subst (Told t ls (k ∷ ks) b) (ok_same e) (forked b q p bridge w s)

  -- an answered row of questions, each of which has its chain
  pub all_told : (b : ℕ) (ks : List Topic) → All (λ (k : Topic). (q : Question) → form k ≡ Ok q → Bridged ls q) ks → (o : Ending) → ask_all t b ks ≡ Ok o → Told t ls ks b o
  all_told b [] h o e = subst (Told t ls [] b) (ok_same e) (record { steps = 0; all = no_more; counts = omega arith })
  all_told b (k ∷ ks) h o e =
      let f = went _ _ _ e in
      let g = went _ _ _ f.then in
      let a = ask_so t b f.got g.got g.first in
      one_told b k ks f.got a.parting f.first (h.0 f.got f.first) a.tried o (λ l d. all_told l ks h.1 o d) _ refl (rw a.is at g.then)
