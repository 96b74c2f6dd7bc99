-- Lists each of whose elements changes.
use Rattle.kl1_user_effects.proofs.Words.{◌≡◌, ◌||◌, Bool, false, List, [], ◌∷◌, ◌++◌, map, refl, ap, ap₂, inl, inr, filter, find, option_map, unwrap_or, AllByRecursion, list_any, cases_Bool, None, Option, Some}

-- two changes of elements that come to what two others do
pub maps_both : {A B C D : Type 0} (f : B → D) (g : A → B) (j : C → D) (k : A → C) → ((x : A) → f (g x) ≡ j (k x)) → (xs : List A) → map f (map g xs) ≡ map j (map k xs)
maps_both f g j k e [] = refl
maps_both f g j k e (x ∷ xs) = ap₂ (λ y ys. y ∷ ys) (e x) (maps_both f g j k e xs)

-- two changes that are the same at each element
pub maps_as : {A B : Type 0} (f g : A → B) → ((x : A) → f x ≡ g x) → (xs : List A) → map f xs ≡ map g xs
maps_as f g e [] = refl
maps_as f g e (x ∷ xs) = ap₂ (λ y ys. y ∷ ys) (e x) (maps_as f g e xs)

-- elements that pass a test after a change, if just those pass another before it
pub filter_by : {A B : Type 0} (k : A → B) (p : B → Bool) (q : A → Bool) (xs : List A) → AllByRecursion (λ x. p (k x) ≡ q x) xs → filter p (map k xs) ≡ map k (filter q xs)
filter_by k p q [] e = refl
filter_by k p q (x ∷ xs) e = elim (cases_Bool (q x)) [
  | inl y ↦ rw (e.0, y) (ap (λ ys. k x ∷ ys) (filter_by k p q xs e.1))
  | inr y ↦ rw (e.0, y) (filter_by k p q xs e.1)
]

-- the first of them
pub find_by : {A B : Type 0} (k : A → B) (p : B → Bool) (q : A → Bool) → ((x : A) → p (k x) ≡ q x) → (xs : List A) → find p (map k xs) ≡ option_map k (find q xs)
find_by k p q e [] = refl
find_by k p q e (x ∷ xs) = elim (cases_Bool (q x)) [ inl y ↦ rw (e x, y) | inr y ↦ rw (e x, y) (find_by k p q e xs) ]

-- whether one does
pub any_by : {A B : Type 0} (k : A → B) (p : B → Bool) (q : A → Bool) → ((x : A) → p (k x) ≡ q x) → (xs : List A) → list_any p (map k xs) ≡ list_any q xs
any_by k p q e [] = refl
any_by k p q e (x ∷ xs) = ap₂ (λ b c. b || c) (e x) (any_by k p q e xs)

-- what holds of each element
pub all_of : {A : Type 0} (P : A → Type 0) → ((x : A) → P x) → (xs : List A) → AllByRecursion P xs
all_of P e [] = tt
all_of P e (x ∷ xs) = (e x, all_of P e xs)

pub all_append : {A : Type 0} (P : A → Type 0) (xs ys : List A) → AllByRecursion P xs → AllByRecursion P ys → AllByRecursion P (xs ++ ys)
all_append P [] ys a b = b
all_append P (x ∷ xs) ys a b = (a.0, all_append P xs ys a.1 b)

pub all_filter : {A : Type 0} (P : A → Type 0) (p : A → Bool) (xs : List A) → AllByRecursion P xs → AllByRecursion P (filter p xs)
all_filter P p [] a = tt
all_filter P p (x ∷ xs) a = elim (cases_Bool (p x)) [ inl y ↦ rw y (a.0, all_filter P p xs a.1) | inr y ↦ rw y (all_filter P p xs a.1) ]

pub all_then : {A : Type 0} (P Q : A → Type 0) → ((x : A) → P x → Q x) → (xs : List A) → AllByRecursion P xs → AllByRecursion Q xs
all_then P Q e [] a = tt
all_then P Q e (x ∷ xs) a = (e x a.0, all_then P Q e xs a.1)

-- elements that pass a test after a change, if each passes it as it passes another before
pub filter_each : {A B : Type 0} (k : A → B) (p : B → Bool) (q : A → Bool) → ((x : A) → p (k x) ≡ q x) → (xs : List A) → filter p (map k xs) ≡ map k (filter q xs)
filter_each k p q e xs = filter_by k p q xs (all_of (λ x. p (k x) ≡ q x) e xs)

-- a test of the first of them, if there is one
pub found_by : {A B : Type 0} (k : A → B) (p r : B → Bool) (q s : A → Bool) → ((x : A) → p (k x) ≡ q x) → ((x : A) → r (k x) ≡ s x) → (xs : List A) → unwrap_or (option_map r (find p (map k xs))) false ≡ unwrap_or (option_map s (find q xs)) false
found_by k p r q s e d [] = refl
found_by k p r q s e d (x ∷ xs) = elim (cases_Bool (q x)) [ inl y ↦ rw (e x, y) (d x) | inr y ↦ rw (e x, y) (found_by k p r q s e d xs) ]

-- a test of what may be there, after a change and before
pub held_by : {A B : Type 0} (k : A → B) (p : B → Bool) (q : A → Bool) → ((x : A) → p (k x) ≡ q x) → (o : Option A) → unwrap_or (option_map p (option_map k o)) false ≡ unwrap_or (option_map q o) false
held_by k p q e None = refl
held_by k p q e (Some x) = e x
