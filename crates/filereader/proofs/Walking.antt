-- Steps of going through a section.
use Rattle.std.proofs.Common.{◌≡◌, ℕ, zero, suc, ◌+◌, ◌-◌, ◌<◌, ◌≤◌, false, ◌⊎◌, List, [], ◌∷◌, map, length, Some, None, Ok, Err, Option, is_some, sym, refl, ap, ◌∙◌, inl, inr, arith}
use Rattle.std.specs.Option.{option_map}
use Rattle.std.proofs.lemmas.Bool.{le-leb, lt-leb, eq-eqb, ne_eqb, cases_lt}
use Rattle.loads.specs.Answers.{◌>>=◌}
use Rattle.worksheet.specs.Claims.{nth}
use Rattle.swapfile.specs.declared.fault.FileFault.TheVariants.{Record, ZeroCount}
use Rattle.swapfile.specs.declared.items.Found.{Found}
use Rattle.swapfile.specs.Sections.{Section, places_from, places, filled_from, filled, zero_free_in, zero_free, none_zero, values}
use Rattle.records.specs.Records.{found}
use Rattle.filereader.specs.Windows.{first_found, behind, rest}

module _ (size : List ℕ → ℕ → ℕ) (b : List ℕ) where
  -- the records from a byte on: none is left, the bytes do not hold the next one, or it is the first
  pub none_left : (n at : ℕ) → n ≡ 0 → places_from size b n at ≡ []
  unfolding places_from
  none_left n at e = rw e refl

  pub none-held : (n at : ℕ) → length b < at + size b at → places_from size b n at ≡ []
  unfolding places_from
  none-held zero at h = refl
  none-held (suc n) at h = rw (lt-leb _ _ h) refl

  pub one_more : (n at : ℕ) → 0 < n → at + size b at ≤ length b → places_from size b n at ≡ at ∷ places_from size b (n - 1) (at + size b at)
  unfolding places_from
  one_more n at some h =
      let e : n ≡ suc (n - 1) = omega arith in
      let less : suc (n - 1) - 1 ≡ n - 1 = omega arith in
      rw (e, le-leb _ _ h, less) refl

  -- a section that begins with a record is filled where what is behind it is; one with none is where nothing is left
  pub fill_more : (n at : ℕ) → 0 < n → at + size b at ≤ length b → filled_from size b (n - 1) (at + size b at) ≡ filled_from size b n at
  unfolding filled_from
  fill_more n at some h =
      let e : n ≡ suc (n - 1) = omega arith in
      let less : suc (n - 1) - 1 ≡ n - 1 = omega arith in
      rw (e, le-leb _ _ h, less) refl

  pub fill_full : (n at : ℕ) → n ≡ 0 → at ≡ length b → Ok tt ≡ filled_from size b n at
  unfolding filled_from
  fill_full n at none is = rw (none, eq-eqb _ _ is) refl

  pub fill_short : (n at : ℕ) → places_from size b n at ≡ [] → (n ≡ 0 → at ≡ length b → ⊥) → Err (Record at) ≡ filled_from size b n at
  unfolding places_from filled_from
  fill_short zero at none short = rw (ne_eqb _ _ (short refl)) refl
  fill_short (suc n) at none short = elim (cases_lt (length b) (at + size b at)) [
    | inl h ↦ rw (lt-leb _ _ h) refl
    | inr h ↦ let some = rw (le-leb _ _ h) at none in let z : ◌≡◌ {A = ℕ} 0 1 = cc in absurd (omega arith)
  ]

  -- one or the other
  one_or_none : (n at : ℕ) → (places_from size b n at ≡ []) ⊎ ((0 < n) × (at + size b at ≤ length b))
  one_or_none n at = elim (cases_lt 0 n) [
    | inl some ↦ elim (cases_lt (length b) (at + size b at)) [ inl h ↦ inl (none-held n at h) | inr h ↦ inr (some, h) ]
    | inr none ↦ inl (none_left n at (omega arith))
  ]

module _ (size : List ℕ → ℕ → ℕ) where
  -- a window moves on from s to t, and gives r
  module _ {I : Type 0} (item : List ℕ → ℕ → I) where
    abbrev pub Gives : Section → Option (Found I) → Section → Type 0
    Gives s r t = (r ≡ first_found size item s) × (t ≡ rest size s)

    pub gives_none : (s : Section) → places size s ≡ [] → (r : Option (Found I)) → r ≡ None → Gives s r s
    gives_none s none r is = (is ∙ ap (λ ps. option_map (found size item s.bytes) (nth ps 0)) (sym none), ap (λ ps. behind size s (nth ps 0)) (sym none))

    pub gives_some : (s : Section) (left : ℕ) → left + 1 ≡ s.count → s.start + size s.bytes s.start ≤ length s.bytes → (f : Found I) → f ≡ found size item s.bytes s.start → Gives s (Some f) (record { bytes = s.bytes; start = f.end; count = left })
    gives_some s left some room f is =
        let one = sym (one_more size s.bytes s.count s.start (omega arith) room) in
        let less : left ≡ s.count - 1 = omega arith in (
          ap Some is ∙ ap (λ ps. option_map (found size item s.bytes) (nth ps 0)) one,
          (λ i. record { bytes = s.bytes; start = (is i).end; count = less i }) ∙ ap (λ ps. behind size s (nth ps 0)) one,
        )

  -- from a section to what is behind its first record, of which h tells y
  pub record Went {Y : Type 0} (s t : Section) (h : ℕ → Y) (y : Y) : Type 0 where
    pub is : y ≡ h s.start
    pub places_are : places size s ≡ s.start ∷ places size t
    pub room : s.start + size s.bytes s.start ≤ length s.bytes
    pub some : 0 < s.count
    pub bytes : t.bytes ≡ s.bytes
    pub start : t.start ≡ s.start + size s.bytes s.start
    pub count : t.count + 1 ≡ s.count

  pub went : {Y : Type 0} (s t : Section) (h : ℕ → Y) (y : Y) → Some y ≡ option_map h (nth (places size s) 0) → t ≡ rest size s → Went s t h y
  went s t h y is goes = elim (one_or_none size s.bytes s.count s.start) [
    | inl none ↦
        let e : Some y ≡ None = is ∙ ap (λ ps. option_map h (nth ps 0)) none in
        let z : ◌≡◌ {A = ℕ} 0 1 = cc in
        absurd (omega arith)
    | inr some ↦
        let all = one_more size s.bytes s.count s.start some.0 some.1 in
        let e : Some y ≡ Some (h s.start) = is ∙ ap (λ ps. option_map h (nth ps 0)) all in
        let to : t ≡ behind size s (Some s.start) = goes ∙ ap (λ ps. behind size s (nth ps 0)) all in
        record {
          is = cc;
          places_are = all ∙ (λ i. s.start ∷ places size (sym to i));
          room = some.1;
          some = some.0;
          bytes = ap (λ (x : Section). x.bytes) to;
          start = ap (λ (x : Section). x.start) to;
          count = omega (arith, ap (λ (x : Section). x.count) to, some.0);
        }
  ]

  -- no record is left
  pub ended : {Y : Type 0} (s : Section) (h : ℕ → Y) → None ≡ option_map h (nth (places size s) 0) → places size s ≡ []
  ended s h is = elim (one_or_none size s.bytes s.count s.start) [
    | inl none ↦ none
    | inr some ↦
        let e = is ∙ ap (λ ps. option_map h (nth ps 0)) (one_more size s.bytes s.count s.start some.0 some.1) in
        let z : ◌≡◌ {A = ℕ} 0 1 = cc in
        absurd (omega arith)
  ]

-- the records behind the first fill their section as all do
pub fill_goes : (size : List ℕ → ℕ → ℕ) (s : Section) → filled size (rest size s) ≡ filled size s
fill_goes size s = elim (one_or_none size s.bytes s.count s.start) [
  | inl none ↦ ap (λ ps. filled size (behind size s (nth ps 0))) none
  | inr some ↦
      ap (λ ps. filled size (behind size s (nth ps 0))) (one_more size s.bytes s.count s.start some.0 some.1) ∙ fill_more size s.bytes s.count s.start some.0 some.1
]

-- where none was given, none is left
pub over : {I : Type 0} (size : List ℕ → ℕ → ℕ) (item : List ℕ → ℕ → I) (s t : Section) (r : Option (Found I)) → Gives size item s r t → false ≡ is_some r → places size t ≡ []
over size item s t None gives e =
    let none = ended size s (found size item s.bytes) gives.0 in
    let same : t ≡ s = gives.1 ∙ ap (λ ps. behind size s (nth ps 0)) none in
    ap (places size) same ∙ none
over size item s t (Some f) gives e = let z : ◌≡◌ {A = ℕ} 0 1 = cc in absurd (omega arith)

-- in the first record a count is 0, or there is one in those behind it or in none
module _ {Y : Type 0} (size : List ℕ → ℕ → ℕ) (zeros : List ℕ → ℕ → Option ℕ) (s t : Section) (h : ℕ → Y) (y : Y) (w : Went size s t h y) where
  zero_goes : zero_free size zeros s ≡ none_zero (zeros s.bytes s.start) >>= λ _. zero_free size zeros t
  unfolding zero_free_in
  zero_goes =
      ap (zero_free_in (zeros s.bytes)) w.places_are ∙ (λ i. none_zero (zeros s.bytes s.start) >>= λ _. zero_free_in (zeros (sym w.bytes i)) (places size t))

  pub zero_found : (place : ℕ) → Some place ≡ zeros s.bytes s.start → Err (ZeroCount place) ≡ zero_free size zeros s
  zero_found place e = ap (λ z. none_zero z >>= λ _. zero_free size zeros t) e ∙ sym zero_goes

  pub zero_behind : None ≡ zeros s.bytes s.start → zero_free size zeros t ≡ zero_free size zeros s
  zero_behind e = ap (λ z. none_zero z >>= λ _. zero_free size zeros t) e ∙ sym zero_goes

pub zero_none : (size : List ℕ → ℕ → ℕ) (zeros : List ℕ → ℕ → Option ℕ) (s : Section) → places size s ≡ [] → Ok tt ≡ zero_free size zeros s
unfolding zero_free_in
zero_none size zeros s none = ap (zero_free_in (zeros s.bytes)) (sym none)

-- the values that are left, one record on
pub values_step : {X : Type 0} (size : List ℕ → ℕ → ℕ) (value : List ℕ → ℕ → X) (s t : Section) (at : ℕ) → places size s ≡ at ∷ places size t → t.bytes ≡ s.bytes → values size value s ≡ value s.bytes at ∷ values size value t
values_step size value s t at e same = ap (map (value s.bytes)) e ∙ (λ i. value s.bytes at ∷ map (value (sym same i)) (places size t))
