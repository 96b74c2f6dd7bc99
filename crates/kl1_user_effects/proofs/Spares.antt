-- A reading of names, some of which are new, by the spare numbers of these.
use Rattle.kl1_user_effects.proofs.Words.{◌≡◌, ℕ, suc, ◌<◌, ◌^◌, if◌then◌else◌, List, [], ◌∷◌, length, map, get_or, refl, sym, ap, ap₂, ◌∙◌, subst, inl, inr, arith, bytes_eq, AllByRecursion, eq-eqb, ne_eqb, map-map, CellName, Known, number_by, AreNames, option_cases, IsNameList, Reading, Fits, marked_reading, marked_fits, reading_of, reading_fits, AreSmall, AreNumbersOf, ReadsDraft, swapped, swapped_one, swapped_all, read_exchanged, IsSpared, AreSpared}
use Rattle.std.proofs.Common.{None}
use Rattle.kl1_user_effects.proofs.Swapping.{text_test, swap_first, swap_other, retold, retold_fits, exchange_fits, one_first, one_other}
use Rattle.kl1_user_effects.proofs.Exchanged.{small_by, is_known, is_small}

-- ---- numbers of names have 32 bits

-- each of these numbers has 32 bits
abbrev pub AreShort : List CellName → Type 0
AreShort cs = AllByRecursion (λ c. c.number < 2 ^ 32) cs

pub numbers_short : (ks : List Known) (ts : List (List ℕ)) (ns : List CellName) → AreNames ks → AreSmall ks → AreNumbersOf ks ts ns → AreShort ns
numbers_short ks ts [] names small are = tt
numbers_short ks [] (n ∷ ns) names small are = (let e = are (marked_reading 1 ks) (marked_fits 1 ks (omega arith) names) in absurd (cc))
numbers_short ks (t ∷ ts) (n ∷ ns) names small are = (
  is_small ks n.number small (is_known ks n names (λ f g a b. let p : f n ∷ map f ns ≡ t ∷ ts = are f a in let q : g n ∷ map g ns ≡ t ∷ ts = are g b in cc)),
  numbers_short ks ts ns names small (λ f fits. let e : f n ∷ map f ns ≡ t ∷ ts = are f fits in cc),
)

-- ---- names that are given once

-- a name is none of these
abbrev IsOther : List ℕ → List (List ℕ) → Type 0
IsOther t us = AllByRecursion (λ u. u ≡ t → ⊥) us

-- each name is given once
abbrev pub AreOnce : List (List ℕ) → Type 0
AreOnce [] = Unit {0}
AreOnce (t ∷ ts) = IsOther t ts × AreOnce ts

other_by : (t : List ℕ) (us : List (List ℕ)) → ((i : ℕ) → i < length us → get_or us i [] ≡ t → ⊥) → IsOther t us
other_by t [] h = tt
other_by t (u ∷ us) h = (h 0 (omega arith), other_by t us (λ i lt e. h (suc i) (omega (arith, lt)) e))

once_by : (ts : List (List ℕ)) → ((i j : ℕ) → i < length ts → j < length ts → get_or ts i [] ≡ get_or ts j [] → i ≡ j) → AreOnce ts
once_by [] h = tt
once_by (t ∷ ts) h = (
  other_by t ts (λ i lt e. let same = h (suc i) 0 (omega (arith, lt)) (omega arith) e in omega (arith, same)),
  once_by ts (λ i j a b e. let same = h (suc i) (suc j) (omega (arith, a)) (omega (arith, b)) e in omega (arith, same)),
)

pub names_once : (ts : List (List ℕ)) → IsNameList ts → AreOnce ts
names_once ts list = once_by ts (λ i j a b e. list.once i j a b e)

-- ---- numbers that are exchanged for spare ones

-- a reading fits names, and reads these numbers as texts
pub record ReadsSpares (names : List Known) (ts : List (List ℕ)) (ss : List CellName) (f : Reading) : Type 0 where
  pub fits : Fits names f
  pub reads : map f ss ≡ ts

module _ (names : List Known) (f : Reading) (small : AreSmall names) (fits : Fits names f) where
  -- numbers of two names are two, be they spare ones or not
  apart : (p q : ℕ) (s r : CellName) (t u : List ℕ) → p < q → IsSpared names p t s → IsSpared names q u r → (u ≡ t → ⊥) → r ≡ s → ⊥
  apart p q s r t u lt (inl a) (inl b) ne e = ne (sym (fits.texts u r.number b) ∙ ap f e ∙ fits.texts t s.number a)
  apart p q s r t u lt (inl a) (inr b) ne e = let low = small_by names t s.number small a in let is = b.1 in let m = ap (λ (c : CellName). c.number) e in omega (arith, low, is, m)
  apart p q s r t u lt (inr a) (inl b) ne e = let low = small_by names u r.number small b in let is = a.1 in let m = ap (λ (c : CellName). c.number) e in omega (arith, low, is, m)
  apart p q s r t u lt (inr a) (inr b) ne e = let is = a.1 in let at = b.1 in let m = ap (λ (c : CellName). c.number) e in omega (arith, is, at, m, lt)

  -- a number of 32 bits that is read as a text is none of those of another
  not_its : (q : ℕ) (n r : CellName) (t u : List ℕ) → f n ≡ t → n.number < 2 ^ 32 → IsSpared names q u r → (u ≡ t → ⊥) → n ≡ r → ⊥
  not_its q n r t u here low (inl b) ne e = ne (sym (fits.texts u r.number b) ∙ ap f (sym e) ∙ here)
  not_its q n r t u here low (inr b) ne e = let is = b.1 in let m = ap (λ (c : CellName). c.number) e in omega (arith, low, is, m)

  -- it stays if others are exchanged
  stays : (place : ℕ) (n : CellName) (t : List ℕ) (ts : List (List ℕ)) (ss ns : List CellName) → f n ≡ t → n.number < 2 ^ 32 → AreSpared names place ts ss → map f ns ≡ ts → IsOther t ts → swapped_all ss ns n ≡ n
  stays place n t [] [] ns here low a e o = refl
  stays place n t (u ∷ ts) (s ∷ ss) [] here low a e o = refl
  stays place n t (u ∷ ts) (s ∷ ss) (m ∷ ns) here low a e o =
      let first : f m ≡ u = cc in
      let rest : map f ns ≡ ts = cc in
      ap (swapped_all ss ns) (one_other s m n (not_its place n s t u here low a.0 o.0) (λ q. o.0 (sym first ∙ ap f (sym q) ∙ here)))
      ∙ stays (suc place) n t ts ss ns here low a.1 rest o.1
  stays place n t _ _ ns here low a e o = absurd a

  -- and so do the numbers of later names
  later_stay : (first place : ℕ) (s n : CellName) (t : List ℕ) (ts : List (List ℕ)) (ss : List CellName) → (f n ≡ t) × (n.number < 2 ^ 32) → IsSpared names first t s → first < place → AreSpared names place ts ss → IsOther t ts → map (swapped_one s n) ss ≡ ss
  later_stay first place s n t [] [] here own lt a o = refl
  later_stay first place s n t (u ∷ ts) (r ∷ ss) here own lt a o =
      ap₂ (λ (x : CellName) (xs : List CellName). x ∷ xs)
      (one_other s n r (apart first place s r t u lt own a.0 o.0) (λ e. not_its place n r t u here.0 here.1 a.0 o.0 (sym e)))
      (later_stay first (suc place) s n t ts ss here own (omega (arith, lt)) a.1 o.1)
  later_stay first place s n t _ _ here own lt a o = absurd a

  -- the reading by the spare numbers
  reads_all : (place : ℕ) (ts : List (List ℕ)) (ss ns : List CellName) → AreSpared names place ts ss → map f ns ≡ ts → AreShort ns → AreOnce ts → ReadsSpares names ts ss (read_exchanged ss ns f)
  reads_all place [] [] ns a e low once = record { fits = fits; reads = refl }
  reads_all place (t ∷ ts) (s ∷ ss) [] a e low once = absurd (cc)
  reads_all place (t ∷ ts) (s ∷ ss) (n ∷ ns) a e low once =
      let here : f n ≡ t = cc in
      let rest : map f ns ≡ ts = cc in
      let g = read_exchanged ss ns f in
      let later : ReadsSpares names ts ss g = reads_all (suc place) ts ss ns a.1 rest low.1 once.1 in
      let there : g n ≡ t = ap f (stays (suc place) n t ts ss ns here low.0 a.1 rest once.0) ∙ here in
      record {
        fits = by_name a.0 here g there later.fits;
        reads =
            ap₂ (λ (x : List ℕ) (xs : List (List ℕ)). x ∷ xs) (ap g (one_first s n) ∙ there)
            (sym (map-map g (swapped_one s n) ss) ∙ ap (map g) (later_stay place (suc place) s n t ts ss (here, low.0) a.0 (omega arith) a.1 once.0) ∙ later.reads);
      }
    where
      by_name : IsSpared names place t s → f n ≡ t → (g : Reading) → g n ≡ t → Fits names g → Fits names (λ c. g (swapped_one s n c))
      by_name (inl known) here g there fit =
          subst (λ b. Fits names (λ c. g (if b then c else swapped s n c))) (sym (eq-eqb s.number n.number (ap (λ (c : CellName). c.number) (fits.reads.once s n (fits.texts t s.number known ∙ sym here))))) fit
      by_name (inr new) here g there fit =
          let short = low.0 in
          let is = new.1 in
          subst (λ b. Fits names (λ c. g (if b then c else swapped s n c))) (sym (ne_eqb s.number n.number (λ q. omega (arith, short, is, q))))
          (exchange_fits names t s n g new.0 (λ u m was q. let small_one = small_by names u m small was in omega (arith, small_one, is, q)) there fit)
  reads_all place _ _ ns a e low once = absurd a

  -- a reading by which a number is another text reads the numbers of later names as before
  later_read : (first place : ℕ) (s : CellName) (t : List ℕ) (ts : List (List ℕ)) (ss : List CellName) → IsSpared names first t s → first < place → AreSpared names place ts ss → map f ss ≡ ts → IsOther t ts → map (retold (f s) t f) ss ≡ ts
  later_read first place s t [] [] own lt a e o = refl
  later_read first place s t (u ∷ ts) (r ∷ ss) own lt a e o =
      let here : f r ≡ u = cc in
      let rest : map f ss ≡ ts = cc in
      ap₂ (λ (x : List ℕ) (xs : List (List ℕ)). x ∷ xs)
      (swap_other bytes_eq text_test (f s) t (f r) (λ q. apart first place s r t u lt own a.0 o.0 (fits.reads.once r s q)) (λ q. o.0 (sym here ∙ q)) ∙ here)
      (later_read first (suc place) s t ts ss own (omega (arith, lt)) a.1 rest o.1)
  later_read first place s t _ _ own lt a e o = absurd a

-- the reading by the spare numbers does, if the other reads the numbers that came as these texts
pub reads_spares : (names : List Known) (f : Reading) (place : ℕ) (ts : List (List ℕ)) (ss ns : List CellName) → AreSmall names → Fits names f → AreSpared names place ts ss → map f ns ≡ ts → AreShort ns → AreOnce ts → ReadsSpares names ts ss (read_exchanged ss ns f)
reads_spares names f place ts ss ns small fits a e low once = reads_all names f small fits place ts ss ns a e low once

-- ---- a draft

drafted : (names : List Known) → AreNames names → AreSmall names → (place : ℕ) (ts : List (List ℕ)) (ss : List CellName) → AreSpared names place ts ss → AreOnce ts → ReadsDraft names ts ss
drafted names one small place [] [] a once = record { reading = reading_of names; fits = reading_fits names one; reads = refl }
drafted names one small place (t ∷ ts) (s ∷ ss) a once = by_name a.0 (drafted names one small (suc place) ts ss a.1 once.1)
  where
    by_name : IsSpared names place t s → ReadsDraft names ts ss → ReadsDraft names (t ∷ ts) (s ∷ ss)
    by_name (inl known) d = record { reading = d.reading; fits = d.fits; reads = ap₂ (λ (x : List ℕ) (xs : List (List ℕ)). x ∷ xs) (d.fits.texts t s.number known) d.reads }
    by_name (inr new) d =
        let f = d.reading in
        let unread : number_by names (f s) ≡ None = elim (option_cases (number_by names (f s))) [
          | inl none ↦ none
          | inr some ↦
              let low = small_by names (f s) some.0 small some.1 in
              let same = ap (λ (c : CellName). c.number) (d.fits.reads.once (record { number = some.0 }) s (d.fits.texts (f s) some.0 some.1)) in
              let is = new.1 in
              absurd (omega (arith, low, same, is))
        ] in
        record {
          reading = retold (f s) t f;
          fits = retold_fits names (f s) t f unread new.0 d.fits;
          reads = ap₂ (λ (x : List ℕ) (xs : List (List ℕ)). x ∷ xs) (swap_first bytes_eq text_test (f s) t) (later_read names f small d.fits place (suc place) s t ts ss (inr new) (omega arith) a.1 d.reads once.0);
        }
drafted names one small place _ _ a once = absurd a

-- numbers of names, of which those of new ones are spare, are read as these by a reading of the names that are known
pub spared_draft : (names : List Known) (texts : List (List ℕ)) (row : List CellName) → IsNameList texts → AreNames names → AreSmall names → AreSpared names 0 texts row → ReadsDraft names texts row
spared_draft names texts row list one small a = drafted names one small 0 texts row a (names_once texts list)
