-- Readings by which a spare number stands for a name that another number has, and goals that are read as the same.
use Rattle.kl1_user_effects.proofs.Words.{◌≡◌, ℕ, ◌<◌, ◌==◌, ◌^◌, ◌⊎◌, List, [], ◌∷◌, ◌++◌, map, sym, ap, ap₂, ◌∙◌, subst, inl, inr, arith, bytes_eq, Option, Some, None, option_map, cases_Bool, bytes_eq-Decides, map-append, Control, control_of, shoen_at, place_of, built_in_of, place-below, CellName, Known, number_in, number_by, Adds, option_cases, adds_one, still_known, Hook, Held, Goal, Shoen, shoen_in, contents, Program, HangsOnEach, Reading, Fits, Means, meaning, task_with, goal_with, shoen_with, texts_of, AreSmall, spare, control_with, task_clause, awaited_by_task, AreSettled, TaskDoes, exchanged, AreNames, IsSome, built_in_at, eqb-true, marked_fits, marked_reading, place_found, refl, text_by, text_in}
use Rattle.kl1_model.specs.State as model
use Rattle.kl1_user_effects.proofs.Swapping.{same_name, number_test, swap_first, exchange_fits}
use Rattle.kl1_user_effects.proofs.KnownTexts.{not_known}
use Rattle.kl1_user_effects.proofs.States.{found_in}

-- ---- a name that is new, by the spare number

-- names, and after them a text by the spare number
abbrev pub with_spare : List Known → List ℕ → List Known
with_spare names text = names ++ record { text = text; number = record { number = 2 ^ 32 } } ∷ []

small_in : (names : List Known) (t : List ℕ) (n : ℕ) → AreSmall names → number_in names t ≡ Some n → n < 2 ^ 32
small_in [] t n a e = absurd (cc)
small_in (k ∷ names) t n a e = elim (cases_Bool (bytes_eq k.text t)) [
  | inl same ↦ let found : Some k.number.number ≡ Some n = rw same at e in let is : k.number.number ≡ n = cc in let low = a.0 in omega (arith, is, low)
  | inr other ↦ small_in names t n a.1 (rw other at e)
]

-- the number of a name that is known has 32 bits
pub small_by : (names : List Known) (t : List ℕ) (n : ℕ) → AreSmall names → number_by names t ≡ Some n → n < 2 ^ 32
small_by names t n a e = elim (option_cases (built_in_of t)) [
  | inl none ↦ small_in names t n a (rw none at e)
  | inr some ↦ let found : Some (place_of some.0) ≡ Some n = rw some.1 at e in let is : place_of some.0 ≡ n = cc in let low = place-below some.0 in omega (arith, is, low)
]

spare_adds : (names : List Known) (text : List ℕ) → number_by names text ≡ None → Adds names text (record { number = 2 ^ 32 }) (with_spare names text)
spare_adds names text new = let n = not_known names text new in adds_one names text (record { number = 2 ^ 32 }) n.0 n.1

-- the texts of names with one after them
pub spare_texts : (names : List Known) (text : List ℕ) → texts_of (with_spare names text) ≡ texts_of names ++ text ∷ []
spare_texts names text = map-append (λ (k : Known). k.text) names (record { text = text; number = record { number = 2 ^ 32 } } ∷ [])

-- a reading that fits them fits the names before
pub spare_fits : (names : List Known) (text : List ℕ) → number_by names text ≡ None → (g : Reading) → Fits (with_spare names text) g → Fits names g
spare_fits names text new g fits = record {
  reads = fits.reads;
  texts = λ t n e. fits.texts t n (still_known names text (record { number = 2 ^ 32 }) (with_spare names text) (spare_adds names text new) t n e);
}

-- it reads the spare number as the text
pub spare_reads : (names : List Known) (text : List ℕ) → number_by names text ≡ None → (g : Reading) → Fits (with_spare names text) g → g spare ≡ text
spare_reads names text new g fits = fits.texts text (2 ^ 32) ((spare_adds names text new).number)

-- a name is found among names and one more if it was, or is that one
more_by_text : (ks : List Known) (k : Known) (t : List ℕ) (n : ℕ) → number_in (ks ++ k ∷ []) t ≡ Some n → (number_in ks t ≡ Some n) ⊎ ((k.text ≡ t) × (k.number.number ≡ n))
more_by_text [] k t n e = elim (cases_Bool (bytes_eq k.text t)) [
  | inl same ↦ inr ((bytes_eq-Decides k.text t).0 same, (let found : Some k.number.number ≡ Some n = rw same at e in cc))
  | inr other ↦ let none : None ≡ Some n = rw other at e in cc
]
more_by_text (x ∷ ks) k t n e = elim (cases_Bool (bytes_eq x.text t)) [
  | inl same ↦ inl (rw same (rw same at e))
  | inr other ↦ elim (more_by_text ks k t n (rw other at e)) [ inl was ↦ inl (rw other was) | inr is ↦ inr is ]
]

-- and so is one that is known
by_text : (ks : List Known) (k : Known) (t : List ℕ) (n : ℕ) → number_by (ks ++ k ∷ []) t ≡ Some n → (number_by ks t ≡ Some n) ⊎ ((k.text ≡ t) × (k.number.number ≡ n))
by_text ks k t n e = elim (option_cases (built_in_of t)) [
  | inl none ↦ elim (more_by_text ks k t n (rw none at e)) [ inl was ↦ inl (rw none was) | inr is ↦ inr is ]
  | inr some ↦ inl (rw some.1 (rw some.1 at e))
]

-- a reading that reads a number as a text that is new fits the text by the spare number, when the two are exchanged
pub exchanged_fits : (names : List Known) (text : List ℕ) (k : CellName) (f : Reading) → AreSmall names → number_by names text ≡ None → f k ≡ text → Fits names f → Fits (with_spare names text) (exchanged spare k f)
exchanged_fits names text k f small new reads fits =
    let before = exchange_fits names text spare k f new (λ u m was e. let low = small_by names u m small was in omega (arith, e, low)) reads fits in
    record {
      reads = before.reads;
      texts = λ t n e. elim (by_text names (record { text = text; number = record { number = 2 ^ 32 } }) t n e) [
        | inl was ↦ before.texts t n was
        | inr is ↦ ap (exchanged spare k f) (same_name (record { number = n }) spare (sym is.1)) ∙ ap f (swap_first (λ (m j : CellName). m.number == j.number) number_test spare k) ∙ reads ∙ is.0
      ];
    }

-- ---- goals that are read as the same

-- what stands at the front of a shoen's control stream, by what the shoens are
abbrev front_of : Option model.Shoen → Option Control
front_of o = option_map (λ (h : model.Shoen). control_of h.control) o

control_read : (t : Means) (ss : List (Shoen CellName)) (n : ℕ) → control_with t ss n ≡ front_of (shoen_at n (map (shoen_with t) ss))
control_read t ss n = rw (found_in t n ss) (elim (option_cases (shoen_in n ss)) [ inl none ↦ rw none | inr some ↦ rw some.1 ])

-- goals that are settled for one reading are for another by which they and the shoens are the same
pub settled_alike : (f g : Reading) (hooks : List Hook) (h k : Held CellName) (program : Program) (ss : List (Shoen CellName)) (gs : List (Goal CellName)) → map (shoen_with (meaning f h)) ss ≡ map (shoen_with (meaning g k)) ss → map (goal_with (meaning f h)) gs ≡ map (goal_with (meaning g k)) gs →
    AreSettled f hooks h program ss gs → AreSettled g hooks k program ss gs
settled_alike f g hooks h k program ss [] shoens goals s = tt
settled_alike f g hooks h k program ss (x ∷ gs) shoens goals s =
    let ms = contents program.loaded in
    let first : goal_with (meaning f h) x ≡ goal_with (meaning g k) x = cc in
    let rest : map (goal_with (meaning f h)) gs ≡ map (goal_with (meaning g k)) gs = cc in
    let front : control_with (meaning f h) ss x.shoen ≡ control_with (meaning g k) ss x.shoen =
    control_read (meaning f h) ss x.shoen ∙ ap (λ (hs : List model.Shoen). front_of (shoen_at x.shoen hs)) shoens ∙ sym (control_read (meaning g k) ss x.shoen) in
    let task : task_with (meaning f h) x.task ≡ task_with (meaning g k) x.task = ap (λ (y : model.Goal). y.task) first in (
      record { standing = s.0.standing ∙ ap₂ (task_clause program.rules ms) front task; does = subst (λ t. TaskDoes program.rules t x.standing) task s.0.does; hung = subst (HangsOnEach hooks x.number) (ap₂ (awaited_by_task program.rules ms) front task) s.0.hung },
      settled_alike f g hooks h k program ss gs shoens rest s.1,
    )

-- ---- numbers that a seat knows

-- a number that is the same for all readings is known
pub is_known : (ks : List Known) (c : CellName) → AreNames ks → ((f g : Reading) → Fits ks f → Fits ks g → f c ≡ g c) → IsSome (text_by ks c.number)
is_known ks c names same =
    let e = same (marked_reading 1 ks) (marked_reading 2 ks) (marked_fits 1 ks (omega arith) names) (marked_fits 2 ks (omega arith) names) in
    elim (option_cases (text_by ks c.number)) [
      | inl none ↦ let marks : 1 ∷ c.number ∷ [] ≡ 2 ∷ c.number ∷ [] = rw none at e in absurd (cc)
      | inr some ↦ rw some.1 refl
    ]

in_names : (ks : List Known) (n : ℕ) (t : List ℕ) → AreSmall ks → text_in ks n ≡ Some t → n < 2 ^ 32
in_names [] n t small e = cc
in_names (k ∷ ks) n t small e = elim (cases_Bool (k.number.number == n)) [
  | inl same ↦ subst (λ m. m < 2 ^ 32) (eqb-true k.number.number n same) small.0
  | inr other ↦ in_names ks n t small.1 (rw other at e)
]

-- a number that is known has 32 bits
pub is_small : (ks : List Known) (n : ℕ) → AreSmall ks → IsSome (text_by ks n) → n < 2 ^ 32
is_small ks n small some = elim (option_cases (built_in_at n)) [
  | inl none ↦ elim (option_cases (text_in ks n)) [
    | inl nothing ↦ cc (rw (none, nothing) at some)
    | inr found ↦ in_names ks n found.0 small found.1
  ]
  | inr found ↦ let is = place_found n found.0 found.1 in let low = place-below found.0 in omega (arith, is, low)
]

-- a number is read as its text
pub read_as : (ks : List Known) (c : CellName) (t : List ℕ) (f : Reading) → AreNames ks → text_by ks c.number ≡ Some t → Fits ks f → f c ≡ t
read_as ks c t f names e fits = fits.texts t c.number (names.forth t c.number e)
