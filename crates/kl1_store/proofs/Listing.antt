-- Lists of cells as words: after a growth, cut, and with other names.
use Rattle.std.proofs.Common.{◌≡◌, ℕ, zero, suc, ◌/◌, ◌%◌, ◌<◌, ◌≤◌, List, [], ◌∷◌, ◌++◌, length, length-append, length-take, get_or, take, drop, map, All, pos, ◌-ℤ◌, ◌^◌, refl, sym, ◌∙◌, ap, ap₂, subst, arith, ◌⊎◌, inl, inr}
use Rattle.std.proofs.lemmas.List.{take-map, get_or-map, length-take-le, length-map}
use Rattle.std.proofs.lemmas.List.Elements.{All-push, All-take}
use Rattle.std.proofs.lemmas.Bool.{cases_eq}
use Rattle.kl1_store.specs.declared.cell.Cell.{Cell}
use Rattle.kl1_store.specs.declared.cell.Cell.TheVariants.{Variable, Integer, Structure}
use Rattle.kl1_store.specs.Renames.{cell_renamed, mapped_from}
use Rattle.kl1_store.specs.Words.{unpacked, IsPacked, AreInOrder, AreWords, Packs, Splits, next_place}
use Rattle.kl1_store.proofs.Packing.{unpacked_variable, unpacked_structure, unpacked_small, unpacked_wide, map_unpacked_grown, all_packed_grown, next_same}
use Rattle.kl1_store.proofs.Ordering.{next_up, order_up, order_push, kept_packed}

-- a place of a cell is one of its word
pub place_inside : {N : Type 0} (words : List ℕ) (wide cells : List (Cell N)) (place : ℕ) → map (unpacked wide) words ≡ cells → place < length cells → place < length words
place_inside words wide cells place e lt = omega (arith, lt, ap length e, length-map words (unpacked wide))

-- ---- one cell more

pub words_pushed : {N : Type 0} (words : List ℕ) (old new : List (Cell N)) (memory words_capacity wide_capacity : ℕ) (x : Cell N) (w : ℕ) →
    AreWords words old memory words_capacity wide_capacity → Packs old new x w → length words < memory → AreWords (words ++ w ∷ []) new memory words_capacity wide_capacity
words_pushed words old new memory words_capacity wide_capacity x w h p lt =
    let Q : ℕ → Type 0 = λ n. AreInOrder 0 (words ++ w ∷ []) n in
    record {
      packed = All-push (IsPacked (length new)) words w (all_packed_grown old new words p.grown h.packed) p.packed;
      order = subst Q (sym p.next) (order_push 0 words (length old) w h.order p.place);
      held = omega (arith, length-append words (w ∷ []), lt);
      few = h.few;
      words_serve = h.words_serve;
      wide_serve = h.wide_serve;
    }

-- ---- the first cells alone

pub cut_wide : {N : Type 0} (words : List ℕ) (wide : List (Cell N)) (count place : ℕ) → Splits words count (length wide) place → length (take place wide) ≡ place
cut_wide words wide count place s = length-take-le place wide (order_up place (drop count words) (length wide) s.after)

pub words_cut : {N : Type 0} (words cut : List ℕ) (wide rest : List (Cell N)) (memory words_capacity wide_capacity count place : ℕ) →
    AreWords words wide memory words_capacity wide_capacity → Splits words count (length wide) place → cut ≡ take count words → rest ≡ take place wide → AreWords cut rest memory words_capacity wide_capacity
words_cut {N = N} words cut wide rest memory words_capacity wide_capacity count place h s e f =
    let size = cut_wide words wide count place s in
    let P : List ℕ → Type 0 = λ l. AreWords l rest memory words_capacity wide_capacity in
    let Q : List (Cell N) → Type 0 = λ l. AreWords (take count words) l memory words_capacity wide_capacity in
    let A : ℕ → Type 0 = λ n. All (IsPacked n) (take count words) in
    let O : ℕ → Type 0 = λ n. AreInOrder 0 (take count words) n in
    subst P (sym e) (subst Q (sym f) (record {
      packed = subst A (sym size) (kept_packed (length wide) 0 (take count words) place s.before (All-take (IsPacked (length wide)) count words h.packed));
      order = subst O (sym size) s.before;
      held = omega (arith, length-take count words, h.held);
      few = h.few;
      words_serve = h.words_serve;
      wide_serve = h.wide_serve;
    }))

pub cells_cut : {N : Type 0} (words cut : List ℕ) (wide rest : List (Cell N)) (count place : ℕ) →
    All (IsPacked (length wide)) words → Splits words count (length wide) place → cut ≡ take count words → rest ≡ take place wide → map (unpacked rest) cut ≡ take count (map (unpacked wide) words)
cells_cut {N = N} words cut wide rest count place packed s e f =
    let size = cut_wide words wide count place s in
    let A : ℕ → Type 0 = λ n. All (IsPacked n) (take count words) in
    let kept = subst A (sym size) (kept_packed (length wide) 0 (take count words) place s.before (All-take (IsPacked (length wide)) count words packed)) in
    let first : take (length (take place wide)) wide ≡ take place wide = ap (λ n. take n wide) size in
    ap (map (unpacked rest)) e
    ∙ (ap (λ l. map (unpacked l) (take count words)) f
    ∙ (sym (map_unpacked_grown (take place wide) wide (take count words) first kept)
    ∙ sym (take-map (unpacked wide) count words)))

-- ---- other names

before_one : {X : Type 0} (f : X → X) (n : ℕ) (xs : List X) (k : ℕ) (d : X) → k < n → get_or (mapped_from f n xs) k d ≡ get_or xs k d
before_one f zero xs k d h = absurd (omega arith)
before_one f (suc n) [] k d h = refl
before_one f (suc n) (x ∷ xs) zero d h = refl
before_one f (suc n) (x ∷ xs) (suc k) d h = before_one f n xs k d (omega arith)

since_one : {X : Type 0} (f : X → X) (n : ℕ) (xs : List X) (k : ℕ) (d : X) → n ≤ k → k < length xs → get_or (mapped_from f n xs) k d ≡ f (get_or xs k d)
since_one f zero xs k d h lt = get_or-map f xs k d d lt
since_one f (suc n) [] k d h lt = absurd (omega arith)
since_one f (suc n) (x ∷ xs) zero d h lt = absurd (omega arith)
since_one f (suc n) (x ∷ xs) (suc k) d h lt = since_one f n xs k d (omega arith) (omega arith)

-- a cell that stands beside the words, or is another one, without a name, whatever stands there
record StandsAlone (N : Type 0) (w : ℕ) : Type 0 where
  cell : Cell N
  is : (wide : List (Cell N)) → unpacked wide w ≡ cell
  unnamed : (g : N → N) → cell_renamed g cell ≡ cell

stands_where : {N : Type 0} (w : ℕ) → (w % 4 ≡ 2) ⊎ StandsAlone N w
stands_where {N = N} w = elim (cases_eq (w % 4) 0) [
  | inl a ↦ inr (record { cell = Variable (w / 4); is = λ wide. unpacked_variable wide w a; unnamed = λ g. refl })
  | inr a ↦ elim (cases_eq (w % 4) 1) [
    | inl b ↦ inr (record { cell = Structure (w / 4); is = λ wide. unpacked_structure wide w b; unnamed = λ g. refl })
    | inr b ↦ elim (cases_eq (w % 4) 3) [
      | inl c ↦ inr (record { cell = Integer (pos (w / 4) -ℤ pos (2 ^ 61)); is = λ wide. unpacked_small wide w c; unnamed = λ g. refl })
      | inr c ↦ inl (omega arith)
    ]
  ]
]

-- the word of a cell before a place stands for what it stood for
word_before : {N : Type 0} (g : N → N) (wide : List (Cell N)) (place w : ℕ) → (w % 4 ≡ 2 → w / 4 < place) → unpacked (mapped_from (cell_renamed g) place wide) w ≡ unpacked wide w
word_before {N = N} g wide place w low = by (stands_where w)
  where
    by : (w % 4 ≡ 2) ⊎ StandsAlone N w → unpacked (mapped_from (cell_renamed g) place wide) w ≡ unpacked wide w
    by (inl two) =
        unpacked_wide (mapped_from (cell_renamed g) place wide) w two
        ∙ (before_one (cell_renamed g) place wide (w / 4) (Variable 0) (low two) ∙ sym (unpacked_wide wide w two))
    by (inr x) = x.is (mapped_from (cell_renamed g) place wide) ∙ sym (x.is wide)

-- and from a place on for that with another name
word_since : {N : Type 0} (g : N → N) (wide : List (Cell N)) (place w : ℕ) → (w % 4 ≡ 2 → (place ≤ w / 4) × (w / 4 < length wide)) → unpacked (mapped_from (cell_renamed g) place wide) w ≡ cell_renamed g (unpacked wide w)
word_since {N = N} g wide place w high = by (stands_where w)
  where
    by : (w % 4 ≡ 2) ⊎ StandsAlone N w → unpacked (mapped_from (cell_renamed g) place wide) w ≡ cell_renamed g (unpacked wide w)
    by (inl two) =
        unpacked_wide (mapped_from (cell_renamed g) place wide) w two
        ∙ (since_one (cell_renamed g) place wide (w / 4) (Variable 0) (high two).0 (high two).1 ∙ ap (cell_renamed g) (sym (unpacked_wide wide w two)))
    by (inr x) = x.is (mapped_from (cell_renamed g) place wide) ∙ (sym (x.unnamed g) ∙ ap (cell_renamed g) (sym (x.is wide)))

words_since : {N : Type 0} (g : N → N) (wide : List (Cell N)) (place p : ℕ) (ws : List ℕ) (q : ℕ) → AreInOrder p ws q → place ≤ p → q ≤ length wide →
    map (unpacked (mapped_from (cell_renamed g) place wide)) ws ≡ map (cell_renamed g) (map (unpacked wide) ws)
words_since g wide place p [] q h le fits = refl
words_since {N = N} g wide place p (w ∷ ws) q h le fits =
    let up = order_up (next_place p w) ws q h.1 in
    let one = word_since g wide place w (λ two. (omega (arith, h.0 two), omega (arith, h.0 two, next_same p w two, up))) in
    let rest = words_since g wide place (next_place p w) ws q h.1 (omega (arith, next_up p w)) fits in
    ap₂ (λ (x : Cell N) (xs : List (Cell N)). x ∷ xs) one rest

words_mapped : {N : Type 0} (g : N → N) (wide : List (Cell N)) (place p : ℕ) (ws : List ℕ) (n q : ℕ) → AreInOrder p (take n ws) place → AreInOrder place (drop n ws) q → q ≤ length wide →
    map (unpacked (mapped_from (cell_renamed g) place wide)) ws ≡ mapped_from (cell_renamed g) n (map (unpacked wide) ws)
words_mapped g wide place p ws zero q h k fits = words_since g wide place place ws q k (omega arith) fits
words_mapped g wide place p [] (suc n) q h k fits = refl
words_mapped {N = N} g wide place p (w ∷ ws) (suc n) q h k fits =
    let up = order_up (next_place p w) (take n ws) place h.1 in
    let one = word_before g wide place w (λ two. omega (arith, h.0 two, next_same p w two, up)) in
    let rest = words_mapped g wide place (next_place p w) ws n q h.1 k fits in
    ap₂ (λ (x : Cell N) (xs : List (Cell N)). x ∷ xs) one rest

-- cells whose words stay and beside which other names stand
pub cells_renamed : {N : Type 0} (g : N → N) (words : List ℕ) (wide new : List (Cell N)) (first place : ℕ) →
    Splits words first (length wide) place → new ≡ mapped_from (cell_renamed g) place wide → map (unpacked new) words ≡ mapped_from (cell_renamed g) first (map (unpacked wide) words)
cells_renamed g words wide new first place s e =
    ap (λ l. map (unpacked l) words) e ∙ words_mapped g wide place 0 words first (length wide) s.before s.after (omega arith)

pub words_renamed : {N : Type 0} (words : List ℕ) (wide new : List (Cell N)) (memory words_capacity wide_capacity : ℕ) →
    AreWords words wide memory words_capacity wide_capacity → length new ≡ length wide → AreWords words new memory words_capacity wide_capacity
words_renamed words wide new memory words_capacity wide_capacity h e =
    let A : ℕ → Type 0 = λ n. All (IsPacked n) words in
    let O : ℕ → Type 0 = λ n. AreInOrder 0 words n in
    record { packed = subst A (sym e) h.packed; order = subst O (sym e) h.order; held = h.held; few = h.few; words_serve = h.words_serve; wide_serve = h.wide_serve }
