-- What an adopted file comes to, and that a settled register's file is adopted.
use Rattle.std.proofs.Common.{◌≡◌, ℕ, ◌+◌, ◌-◌, ◌≤◌, List, map, length, ℤ, Ok, sym, refl, ap, ◌∙◌, subst, ap₂, arith}
use Rattle.std.specs.List.{AllByRecursion as All}
use Rattle.loads.specs.Answers.{marked}
use Rattle.orders.specs.Laws.{Relation, Admissible}
use Rattle.worksheet.specs.declared.equation.Equation.{Equation}
use Rattle.worksheet.specs.declared.line.Line.{Line}
use Rattle.worksheet.specs.declared.rule.Rule.{Rule}
use Rattle.worksheet.specs.Claims.{claims}
use Rattle.worksheet.specs.Derivations.{Derivation, derivations}
use Rattle.questions.specs.Topics.{Topic, topics}
use Rattle.questions.specs.Asking.{Ending, met, apart, ask_all}
use Rattle.completion.specs.States.{State}
use Rattle.soundness.specs.Sheets.{Small, lines, LinesReplay, Claimed}
use Rattle.soundness.proofs.Answering.{err_not_ok, ok_same, went, goes, unmarked, marks}
use Rattle.soundness.proofs.Lines.{lines_fit}
use Rattle.soundness.proofs.Asking.{Meets, Told, all_told}
use Rattle.soundness.proofs.Bridging.{topics-chained}
use Rattle.soundness.proofs.Ending.{Finished, settle-finished}
use Rattle.soundness.proofs.Meaning.{finished-sound}
use Rattle.swapfile.specs.Content.{Content, content_of}
use Rattle.adoption.specs.declared.fault.AdoptFault.TheVariants.{Worksheet, Table}
use Rattle.adoption.specs.declared.fault.TableFault.TheVariants.{Step}
use Rattle.adoption.specs.Worksheets.{own_equations, even_chains, lines_replay, worksheet_holds}
use Rattle.adoption.specs.Tables.{rules_claimed, rules_fall, table_reduced, rules_hold, one_load, all_meet, table_holds}
use Rattle.adoption.specs.Adopting.{state_of, adopt, line_of, all_chains, content_of_state}
use Rattle.adoption.specs.Theorems.{SmallLines, SettledBy, by_settle, by_adopt, AcceptedIsSound, SameRelation, WhatSettledIsAccepted, AdoptedIsWhatTheFileHas}
use Rattle.adoption.proofs.Sheets.{own_so, so_own, lines_so, so_lines}
use Rattle.adoption.proofs.Chains.{even_so, so_even, so_derived, same_claims, derived_small}
use Rattle.adoption.proofs.Tables.{claimed_so, so_claimed, fall_so, so_fall, table_so, so_table}
use Rattle.adoption.proofs.Asking.{so_asks}

-- every condition on a file holds, and so much of the budget is left
record Holds (above : Relation) (book : List Equation) (b : ℕ) (m : Content) (left : ℕ) : Type 0 where
  own : own_equations book m.equations ≡ Ok tt
  even : even_chains (length book + 1) m.lines (length m.chain) ≡ Ok tt
  replay : lines_replay book (derivations m.lines m.chain) ≡ Ok tt
  claimed : rules_claimed (claims book m.lines) m.rules ≡ Ok tt
  fall : rules_fall above m.rules ≡ Ok tt
  reduced : table_reduced above m.rules ≡ Ok tt
  meet : all_meet m.rules b book ≡ Ok left

-- an answered adopt
record Adopted (above : Relation) (book : List Equation) (b : ℕ) (m : Content) (x : ℕ × State) : Type 0 where
  left : ℕ
  holds : Holds above book b m left
  is : ◌≡◌ {A = ℕ × State} (b - left, state_of m) x

module _ (above : Relation) (book : List Equation) (b : ℕ) (m : Content) where
  adopt_so : (x : ℕ × State) → adopt above book b m ≡ Ok x → Adopted above book b m x
  adopt_so x h =
      let f = went (marked Worksheet (worksheet_holds book m.equations m.lines m.chain)) _ _ h in
      let g = went (marked Table (table_holds above book m.lines b m.rules)) _ _ f.then in
      let o = went (own_equations book m.equations) _ _ (unmarked _ (worksheet_holds book m.equations m.lines m.chain) _ f.first) in
      let e = went (even_chains (length book + 1) m.lines (length m.chain)) _ _ o.then in
      let q = went (rules_hold above (claims book m.lines) m.rules) _ _ (unmarked _ (table_holds above book m.lines b m.rules) _ g.first) in
      let c = went (rules_claimed (claims book m.lines) m.rules) _ _ q.first in
      let d = went (rules_fall above m.rules) _ _ c.then in
      record {
        left = g.got;
        holds = record { own = o.first; even = e.first; replay = e.then; claimed = c.first; fall = d.first; reduced = d.then; meet = q.then };
        is = ok_same g.then;
      }

  so_adopt : (left : ℕ) → Holds above book b m left → adopt above book b m ≡ Ok (b - left, state_of m)
  so_adopt left h =
      goes _ (marks Worksheet (goes _ h.own (goes _ h.even h.replay)))
      (goes _ (marks Table (goes _ (goes _ h.claimed (goes _ h.fall h.reduced)) h.meet)) refl)

-- all met
met_so : (t : List Rule) (ls : List Equation) (ks : List Topic) (b left : ℕ) (o : Ending) → Told t ls ks b o → one_load o ≡ Ok left → Meets t ks b left
met_so t ls ks b left (met l) w e = subst (Meets t ks b) (ok_same e) w
met_so t ls ks b left (apart p) w e = absurd (err_not_ok e)

-- conditions that hold make a finished state
holds-finished : (above : Relation) → Admissible above → (book : List Equation) → All Small book → (b left : ℕ) (m : Content) → SmallLines m.lines
    → Holds above book b m left → Finished above book (state_of m) (b - left)
holds-finished above laws book small b left m fit h =
    let t = m.rules in
    let ds = derivations m.lines m.chain in
    let replay : LinesReplay book ds = lines_so book ds tt (derived_small m.lines m.chain fit) h.replay in
    let claimed = subst (λ (ls : List Equation). All (Claimed ls) t) (sym (same_claims book m.lines m.chain)) (claimed_so (claims book m.lines) t tt h.claimed) in
    let r = table_so above t laws tt h.reduced in
    let f = went (marked Step (ask_all t b (topics book t))) one_load left h.meet in
    let told = all_told t (lines book ds) claimed b (topics book t) (topics-chained book _ t small (lines_fit book ds small replay) claimed) f.got (unmarked _ _ _ f.first) in
    let w = met_so t (lines book ds) (topics book t) b left f.got told f.then in
    record {
      kept = record { replay = replay; claimed = claimed; falls = fall_so above t tt h.fall; ordered = r.ordered };
      rights = r.rights;
      steps = w.steps;
      all = w.all;
      within = omega (arith, w.counts);
    }

pub adopt-finished : (above : Relation) → Admissible above → (book : List Equation) → All Small book → (budget steps : ℕ) (m : Content) → SmallLines m.lines → (s : State)
    → adopt above book budget m ≡ Ok (steps, s) → Finished above book s steps
adopt-finished above laws book small budget steps m fit s h =
    let a = adopt_so above book budget m (steps, s) h in
    subst (λ (x : ℕ × State). Finished above book x.1 x.0) a.is (holds-finished above laws book small budget a.left m fit a.holds)

-- what is finished meets the conditions
finished-holds : (above : Relation) (book : List Equation) (s : State) (n : ℕ) (z : Finished above book s n) (b : ℕ) → n ≤ b
    → Holds above book b (content_of_state book s) (b - z.steps)
finished-holds above book s n z b h =
    let t = s.table in
    let k = z.kept in
    let all : z.steps + (b - z.steps) ≡ b = omega (arith, z.within) in
    let same : lines book s.added ≡ claims book (map line_of s.added) =
    ap (lines book) (sym (so_derived s.added)) ∙ same_claims book (map line_of s.added) (all_chains s.added) in
    record {
      own = so_own book;
      even = so_even (length book + 1) s.added;
      replay = rw (so_derived s.added) (so_lines book s.added k.replay);
      claimed = so_claimed (claims book (map line_of s.added)) t (subst (λ (ls : List Equation). All (Claimed ls) t) same k.claimed);
      fall = so_fall above t k.falls;
      reduced = so_table above t (record { rights = z.rights; ordered = k.ordered });
      meet = goes _ (marks Step (subst (λ (c : ℕ). ask_all t c (topics book t) ≡ Ok (met (b - z.steps))) all (so_asks z.all (b - z.steps)))) refl;
    }

abbrev of_state : ℕ → State → ℕ × State
of_state n s = (n, s)

abbrev state : List Rule → List Derivation → State
state t ds = record { table = t; added = ds }

pub finished_adopts : (above above' : Relation) → SameRelation above above' → (book : List Equation) (s : State) (n : ℕ) (z : Finished above book s n)
    → (b : ℕ) → n ≤ b → adopt above' book b (content_of_state book s) ≡ Ok (z.steps, s)
finished_adopts above above' same book s n z b h =
    let one : above ≡ above' = λ i x y. same x y i in
    let steps : b - (b - z.steps) ≡ z.steps = omega (arith, z.within) in
    subst (λ (r : Relation). adopt r book b (content_of_state book s) ≡ Ok (z.steps, s)) one
    (so_adopt above book b (content_of_state book s) (b - z.steps) (finished-holds above book s n z b h)
    ∙ ap₂ (λ (k : ℕ) (ds : List Derivation). Ok (of_state k (state s.table ds))) steps (so_derived s.added))

pub accepted_is_sound : (above : Relation) → Admissible above → AcceptedIsSound above
accepted_is_sound above laws book small budget steps m fit s h = finished-sound above book s steps (adopt-finished above laws book small budget steps m fit s h)

pub settled_by-finished : (above : Relation) → Admissible above → (book : List Equation) → All Small book → (steps : ℕ) (s : State) → SettledBy above book steps s → Finished above book s steps
settled_by-finished above laws book small steps s (by_settle capacity budget h) = settle-finished above laws book small capacity budget steps s h
settled_by-finished above laws book small steps s (by_adopt budget m fit h) = adopt-finished above laws book small budget steps m fit s h

pub what_settled_is_accepted : (above above' : Relation) → Admissible above → SameRelation above above' → WhatSettledIsAccepted above above'
what_settled_is_accepted above above' laws same book small steps budget s by h =
    let z = settled_by-finished above laws book small steps s by in
    (z.steps, z.within, finished_adopts above above' same book s steps z budget h)

-- the file made up again
pub adopted_is_what_the_file_has : (above : Relation) → AdoptedIsWhatTheFileHas above
adopted_is_what_the_file_has above book budget steps m s h =
    let a = adopt_so above book budget m (steps, s) h in
    let own = own_so book m.equations tt a.holds.own in
    let r = even_so (length book + 1) m.lines m.chain tt a.holds.even in
    let again : content_of_state book (state_of m) ≡ m =
    ap (λ (es : List Equation). content_of es m.rules (map line_of (derivations m.lines m.chain)) (all_chains (derivations m.lines m.chain))) own
    ∙ ap₂ (λ (ls : List Line) (zs : List ℤ). content_of m.equations m.rules ls zs) r.lines r.chain in
    subst (λ (x : ℕ × State). content_of_state book x.1 ≡ m) a.is again
