-- One place more of each row that is checked.
use Rattle.std.proofs.Common.{◌≡◌, ℕ, ◌+◌, ◌-◌, ◌<◌, ◌≤◌, Bool, true, false, not, ◌&&◌, eqb, leb, List, [], ◌∷◌, ◌++◌, map, length, get_or, take, drop, ℤ, pos, is_some, Some, Ok, Err, Option, Result, sym, refl, ap, ◌∙◌, subst, ap₂, append_assoc, add-one, arith, length-append}
use lib.ListN.{length-map}
use Rattle.std.proofs.lemmas.List.{take_more, at_drop_more, at_drop_all, drop-drop, map_push}
use Rattle.std.proofs.lemmas.List.Sums.{sum_by-cons, sum_by-drop_more}
use Rattle.std.proofs.lemmas.Bool.{leb-true, false≢true}
use Rattle.loads.specs.declared.Load.{Load}
use Rattle.loads.specs.Answers.{◌>>=◌, check}
use Rattle.loads.specs.Tests.{contains, alike}
use Rattle.worksheet.specs.declared.equation.Equation.{Equation}
use Rattle.worksheet.specs.declared.line.Line.{Line}
use Rattle.worksheet.specs.declared.rule.Rule.{Rule}
use Rattle.worksheet.specs.Claims.{nth, claims, named}
use Rattle.worksheet.specs.Derivations.{Derivation, derivations, lengths}
use Rattle.worksheet.specs.Replay.{replay}
use Rattle.rewriting.specs.Reducing.{fitting, search}
use Rattle.soundness.proofs.Answering.{went, checked}
use Rattle.adoption.specs.declared.fault.WorksheetFault.{WorksheetFault}
use Rattle.adoption.specs.declared.fault.WorksheetFault.TheVariants.{TooHigh, TooLow, Elsewhere}
use Rattle.adoption.specs.declared.fault.TableFault.{TableFault}
use Rattle.adoption.specs.Worksheets.{even_chains, line_replays, lines_replay}
use Rattle.adoption.specs.Tables.{each, stated}

-- a rule more
module _ (test : ℕ → Rule → Bool) (fault : ℕ → TableFault) (t : List Rule) (i : ℕ) where
  pub each-end : length t ≤ i → each test fault i (drop i t) ≡ Ok tt
  each-end h = at_drop_all (each test fault i) t i h

  module _ (r : Rule) (h : i < length t) (read : r ≡ get_or t i r) where
    each_here : each test fault i (drop i t) ≡ each test fault i (r ∷ drop (i + 1) t)
    each_here = at_drop_more (each test fault i) t i r h ∙ ap (λ s. each test fault i (s ∷ drop (i + 1) t)) (sym read)

    pub each_stop : false ≡ test i r → each test fault i (drop i t) ≡ Err (fault (i + 1))
    each_stop e = each_here ∙ rw (← e)

    pub each_next : true ≡ test i r → each test fault i (drop i t) ≡ each test fault (i + 1) (drop (i + 1) t)
    each_next e = each_here ∙ rw (← e)

-- a rule whose line stands at a place is stated where its sides are those of the claim
pub stated_at : (r : Rule) (ls : List Equation) (k : ℕ) (e : Equation) → r.line ≡ k + 1 → nth ls k ≡ Some e
    → stated r (named ls (pos r.line)) ≡ (alike r.left e.left && alike r.right e.right)
stated_at r ls k e n h = rw (n, add-one) (rw h)

-- some rule fits where a place is found
pub search_finds : (i : ℕ) (t : List Rule) (a : Load) → is_some (search i t a) ≡ is_some (fitting t a)
search_finds i [] a = refl
search_finds i (r ∷ t) a = go (contains a r.left) (search_finds (i + 1) t a)
  where
    go : (b : Bool) → is_some (search (i + 1) t a) ≡ is_some (fitting t a)
        → is_some (elim b as (λ _. Option ℕ) [ true ↦ Some i | false ↦ search (i + 1) t a ]) ≡ is_some (elim b as (λ _. Option Rule) [ true ↦ Some r | false ↦ fitting t a ])
    go true ih = refl
    go false ih = ih

pub turned_test : (found none fits : Bool) → found ≡ not none → found ≡ fits → none ≡ not fits
turned_test true true fits e h = absurd (false≢true (sym e))
turned_test true false fits e h = ap not h
turned_test false true fits e h = ap not h
turned_test false false fits e h = absurd (false≢true e)

-- a line more takes its numbers
module _ (n : ℕ) (ls : List Line) (i left : ℕ) where
  pub even_end : length ls ≤ i → even_chains n (drop i ls) left ≡ check (eqb left 0) TooLow
  even_end h = at_drop_all (λ ks. even_chains n ks left) ls i h

  module _ (l : Line) (h : i < length ls) (read : l ≡ get_or ls i l) where
    even_here : even_chains n (drop i ls) left ≡ even_chains n (l ∷ drop (i + 1) ls) left
    even_here = at_drop_more (λ ks. even_chains n ks left) ls i l h ∙ ap (λ k. even_chains n (k ∷ drop (i + 1) ls) left) (sym read)

    pub even_stop : leb l.length left ≡ false → even_chains n (drop i ls) left ≡ Err (TooHigh n)
    even_stop e = even_here ∙ rw e

    pub even_next : leb l.length left ≡ true → even_chains n (drop i ls) left ≡ even_chains (n + 1) (drop (i + 1) ls) (left - l.length)
    even_next e = even_here ∙ rw e

-- lines that take all numbers have so many
pub even_lengths : (n : ℕ) (ls : List Line) (left : ℕ) (u : Unit {0}) → even_chains n ls left ≡ Ok u → lengths ls ≤ left
even_lengths n [] left u h = omega arith
even_lengths n (l ∷ ls) left u h =
    let f = went _ _ _ h in
    let k = leb-true l.length left (checked _ _ _ f.first) in
    let ih = even_lengths (n + 1) ls (left - l.length) u f.then in
    omega (arith, sum_by-cons (λ (x : Line). x.length) l ls)

-- what the lines from a place on take
pub lengths_next : (ls : List Line) (i : ℕ) (l : Line) → i < length ls → l ≡ get_or ls i l → lengths (drop i ls) ≡ l.length + lengths (drop (i + 1) ls)
lengths_next ls i l h read = sum_by-drop_more (λ (k : Line). k.length) ls i l h ∙ ap (λ (k : Line). k.length + lengths (drop (i + 1) ls)) (sym read)

-- the number of the line after others
claims-length : (book : List Equation) (before : List Line) → length (claims book before) ≡ length book + length before
claims-length book before = omega (arith, length-append book (map (λ (l : Line). l.claim) before), length-map before (λ (l : Line). l.claim))

-- how a line fails
module _ (book : List Equation) (before : List Line) (d : Derivation) where
  abbrev known : List Equation
  known = claims book before

  pub line_elsewhere : (b : Load) → replay known 1 d.chain d.claim.left ≡ Ok b → alike b d.claim.right ≡ false → line_replays known d ≡ Err (Elsewhere (length book + length before + 1))
  line_elsewhere b e s = rw (e, claims-length book before, s)

-- a line more replays
module _ (book : List Equation) (ls : List Line) (zs : List ℤ) (i start : ℕ) where
  -- what is left to replay
  abbrev pub replays_from : Result (Unit {0}) WorksheetFault
  replays_from = lines_replay (claims book (take i ls)) (derivations (drop i ls) (drop start zs))

  pub replays_end : length ls ≤ i → replays_from ≡ Ok tt
  replays_end h = at_drop_all (λ ks. lines_replay (claims book (take i ls)) (derivations ks (drop start zs))) ls i h

module _ (book : List Equation) (ls : List Line) (zs : List ℤ) (i start : ℕ) (l : Line) (h : i < length ls) (read : l ≡ get_or ls i l) where
  -- the line with its chain
  abbrev derived_line : Derivation
  derived_line = record { claim = l.claim; chain = take l.length (drop start zs) }

  claims_next : claims book (take i ls) ++ (l.claim ∷ []) ≡ claims book (take (i + 1) ls)
  claims_next =
      append_assoc book (map (λ (k : Line). k.claim) (take i ls)) (l.claim ∷ [])
      ∙ ap (λ es. book ++ es) (sym (map_push (λ (k : Line). k.claim) (take i ls) l) ∙ ap (λ (ks : List Line). map (λ (k : Line). k.claim) ks) (ap (λ (k : Line). take i ls ++ (k ∷ [])) read ∙ sym (take_more ls i l h)))

  replays_here : replays_from book ls zs i start ≡ (line_replays (claims book (take i ls)) derived_line >>= λ _. replays_from book ls zs (i + 1) (start + l.length))
  replays_here =
      at_drop_more (λ ks. lines_replay (claims book (take i ls)) (derivations ks (drop start zs))) ls i l h
      ∙ ap (λ (k : Line). lines_replay (claims book (take i ls)) (derivations (k ∷ drop (i + 1) ls) (drop start zs))) (sym read)
      ∙ ap₂ (λ (es : List Equation) (ys : List ℤ). line_replays (claims book (take i ls)) derived_line >>= λ _. lines_replay es (derivations (drop (i + 1) ls) ys))
      claims_next (drop-drop l.length start zs)

  -- as the code has it: n is the length of the chain
  module _ (n : ℕ) (long : n ≡ l.length) where
    abbrev as_read : Result (Unit {0}) WorksheetFault
    as_read = line_replays (claims book (take i ls)) (record { claim = l.claim; chain = take n (drop start zs) })

    replays_read : replays_from book ls zs i start ≡ (as_read >>= λ _. replays_from book ls zs (i + 1) (start + l.length))
    replays_read = subst (λ (m : ℕ). replays_from book ls zs i start ≡ (line_replays (claims book (take i ls)) (record { claim = l.claim; chain = take m (drop start zs) }) >>= λ _. replays_from book ls zs (i + 1) (start + l.length))) (sym long) replays_here

    pub replays_stop : (f : WorksheetFault) → Err f ≡ as_read → replays_from book ls zs i start ≡ Err f
    replays_stop f e = replays_read ∙ ap (λ (x : Result (Unit {0}) WorksheetFault). x >>= λ _. replays_from book ls zs (i + 1) (start + l.length)) (sym e)

    pub replays_next : (u : Unit {0}) → Ok u ≡ as_read → replays_from book ls zs i start ≡ replays_from book ls zs (i + 1) (start + l.length)
    replays_next u e = replays_read ∙ ap (λ (x : Result (Unit {0}) WorksheetFault). x >>= λ _. replays_from book ls zs (i + 1) (start + l.length)) (sym e)
