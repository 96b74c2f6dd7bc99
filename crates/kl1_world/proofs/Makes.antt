-- Accounts made one after another, each with the next seat.
use Rattle.std.proofs.Common.{◌≡◌, ℕ, zero, suc, ◌<◌, ◌≤◌, ◌+◌, List, [], ◌∷◌, ◌++◌, refl, sym, ap, ◌∙◌, subst, length, get_or, inl, inr, arith}
use Rattle.std.specs.Prelude.{slice_get, Some}
use Rattle.std.proofs.lemmas.Option.{same_Some, none-some}
use Rattle.std.proofs.lemmas.List.{length-append, length-map, map-append}
use Rattle.std.proofs.lemmas.Bool.{cases_lt}
use Rattle.kl1_model.specs.declared.rules.Rules.{Rules}
use Rattle.kl1_model.specs.Rules.{limits_of}
use Rattle.kl1_atoms.specs.declared.known.Known.{Known}
use Rattle.kl1_codes.specs.Numbered.{ArePlaced}
use Rattle.kl1_model_server.specs.Journal.{fresh_kept}
use Rattle.kl1_journal.specs.Keeping.{Reading, Held, kept_of}
use Rattle.kl1_world.specs.Seating.{AreSeated, AreNewSeats}
use Rattle.kl1_world.specs.Worlds.{account_in}
use Rattle.kl1_world.proofs.Seated.{accounts_of}

-- seats that are left, of which the first stands at this place
abbrev pub AreSeatsFrom : {T S : Type 0} → (T → S → Type 0) → (S → (ℕ × ℕ) × ℕ) → (S → List Known) → Rules → T → ℕ → List S → Type 0
AreSeatsFrom {T} {S} is_of place knows rules names n seats = (k : ℕ) (x : S) → slice_get seats k ≡ Some x → is_of names x × ((place x).1 ≡ n + k) × (knows x ≡ []) × ((limits_of rules).names ≤ (place x).0.1)

-- the accounts made so far are fresh
abbrev pub AreFreshSo : Rules → List Held → List (List ℕ) → Type 0
AreFreshSo rules accounts names = (u : ℕ) (f : Reading) → u < length accounts → kept_of f (account_in accounts u) ≡ fresh_kept rules (get_or names u [])

pub seats_from : {T S : Type 0} (is_of : T → S → Type 0) (place : S → (ℕ × ℕ) × ℕ) (knows : S → List Known) (rules : Rules) (names : T) (seats : List S) → AreNewSeats is_of place knows rules names seats → AreSeatsFrom is_of place knows rules names 0 seats
seats_from is_of place knows rules names seats h k x e = let a = h k x e in (a.0, a.1 ∙ omega arith, a.2, a.3)

pub seats_left : {T S : Type 0} (is_of : T → S → Type 0) (place : S → (ℕ × ℕ) × ℕ) (knows : S → List Known) (rules : Rules) (names : T) (n : ℕ) (s : S) (seats : List S) → AreSeatsFrom is_of place knows rules names n (s ∷ seats) → AreSeatsFrom is_of place knows rules names (n + 1) seats
seats_left is_of place knows rules names n s seats h k x e = let a = h (suc k) x e in (a.0, a.1 ∙ omega arith, a.2, a.3)

push_front : {X : Type 0} (xs : List X) (x : X) (k : ℕ) → k < length xs → slice_get (xs ++ x ∷ []) k ≡ slice_get xs k
push_front [] x k less = absurd (omega (arith, less))
push_front (y ∷ ys) x zero less = refl
push_front (y ∷ ys) x (suc k) less = push_front ys x k (omega (arith, less))

push_last : {X : Type 0} (xs : List X) (x y : X) (k : ℕ) → length xs ≤ k → slice_get (xs ++ x ∷ []) k ≡ Some y → (k ≡ length xs) × (x ≡ y)
push_last [] x y zero less e = (refl, same_Some x y e)
push_last [] x y (suc k) less e = absurd (none-some y e)
push_last (z ∷ zs) x y zero less e = absurd (omega (arith, less))
push_last (z ∷ zs) x y (suc k) less e = let h = push_last zs x y k (omega (arith, less)) e in (ap suc h.0, h.1)

-- one account more, with the next seat
pub seated_more : {T S : Type 0} (is_of : T → S → Type 0) (place : S → (ℕ × ℕ) × ℕ) (has : ℕ × ℕ → Type 0) (names : T) (xs : List (S × Held)) (x : S × Held) →
    AreSeated is_of place has names xs → is_of names x.0 → (place x.0).1 ≡ length xs → ArePlaced has x.1.0.modules → (limits_of x.1.0.rules).names ≤ (place x.0).0.1 → AreSeated is_of place has names (xs ++ x ∷ [])
seated_more is_of place has names xs x h of at placed room k y e = elim (cases_lt k (length xs)) [
  | inl less ↦ h k y (sym (push_front xs x k less) ∙ e)
  | inr more ↦
      let last = push_last xs x y k more e in
      subst (λ z. is_of names z.0 × ((place z.0).1 ≡ k) × ArePlaced has z.1.0.modules × ((limits_of z.1.0.rules).names ≤ (place z.0).0.1)) last.1 (of, at ∙ sym last.0, placed, room)
]

get_front : (us : List Held) (a : Held) (u : ℕ) → u < length us → account_in (us ++ a ∷ []) u ≡ account_in us u
get_front [] a u less = absurd (omega (arith, less))
get_front (b ∷ us) a zero less = refl
get_front (b ∷ us) a (suc u) less = get_front us a u (omega (arith, less))

get_last : (us : List Held) (a : Held) (u : ℕ) → u ≡ length us → account_in (us ++ a ∷ []) u ≡ a
get_last us a u is = subst (λ n. account_in (us ++ a ∷ []) n ≡ a) (sym is) (here us a)
  where
    here : (us : List Held) (a : Held) → account_in (us ++ a ∷ []) (length us) ≡ a
    here [] a = refl
    here (b ∷ us) a = here us a

pub fresh_more : (rules : Rules) (us : List Held) (a : Held) (names : List (List ℕ)) → AreFreshSo rules us names → ((f : Reading) → kept_of f a ≡ fresh_kept rules (get_or names (length us) [])) → AreFreshSo rules (us ++ a ∷ []) names
fresh_more rules us a names h is u f less = elim (cases_lt u (length us)) [
  | inl front ↦ ap (kept_of f) (get_front us a u front) ∙ h u f front
  | inr more ↦
      let last : u ≡ length us = let e = length-append us (a ∷ []) in omega (arith, e, less, more) in
      ap (kept_of f) (get_last us a u last) ∙ is f ∙ ap (λ n. fresh_kept rules (get_or names n [])) (sym last)
]

-- no account is made yet
pub seated_none : {T S : Type 0} (is_of : T → S → Type 0) (place : S → (ℕ × ℕ) × ℕ) (has : ℕ × ℕ → Type 0) (names : T) (xs : List (S × Held)) → xs ≡ [] → AreSeated is_of place has names xs
seated_none {T} {S} is_of place has names xs none = subst (λ (zs : List (S × Held)). AreSeated is_of place has names zs) (sym none) (λ k x e. absurd (none-some x e))

pub fresh_none : {S : Type 0} (rules : Rules) (xs : List (S × Held)) (names : List (List ℕ)) → xs ≡ [] → AreFreshSo rules (accounts_of xs) names
fresh_none {S} rules xs names none = subst (λ (zs : List (S × Held)). AreFreshSo rules (accounts_of zs) names) (sym none) (λ u f less. absurd (omega (arith, less)))

pub seats_all : {T S : Type 0} (is_of : T → S → Type 0) (place : S → (ℕ × ℕ) × ℕ) (knows : S → List Known) (rules : Rules) (names : T) (n : ℕ) (seats rest : List S) → n ≡ 0 → rest ≡ seats → AreNewSeats is_of place knows rules names seats → AreSeatsFrom is_of place knows rules names n rest
seats_all {T} {S} is_of place knows rules names n seats rest zero_is same h =
    subst (λ m. AreSeatsFrom is_of place knows rules names m rest) (sym zero_is) (subst (λ (zs : List S). AreSeatsFrom is_of place knows rules names 0 zs) (sym same) (seats_from is_of place knows rules names seats h))

-- one account more
pub fresh_next : {S : Type 0} (rules : Rules) (xs ys : List (S × Held)) (x : S × Held) (names : List (List ℕ)) (name : List ℕ) → ys ≡ xs ++ x ∷ [] → AreFreshSo rules (accounts_of xs) names → ((f : Reading) → kept_of f x.1 ≡ fresh_kept rules name) → name ≡ get_or names (length xs) [] → AreFreshSo rules (accounts_of ys) names
fresh_next {S} rules xs ys x names name is h made name_is =
    let all : accounts_of ys ≡ accounts_of xs ++ x.1 ∷ [] = ap accounts_of is ∙ map-append (λ (z : S × Held). z.1) xs (x ∷ []) in
    subst (λ us. AreFreshSo rules us names) (sym all)
    (fresh_more rules (accounts_of xs) x.1 names h (λ f. made f ∙ ap (fresh_kept rules) (name_is ∙ ap (λ n. get_or names n []) (sym (length-map xs (λ (z : S × Held). z.1))))))

-- an element within a list is the same whatever stands for those beyond
pub same_within : {X : Type 0} (xs : List X) (n : ℕ) (a b : X) → n < length xs → get_or xs n a ≡ get_or xs n b
same_within [] n a b less = absurd (omega (arith, less))
same_within (x ∷ xs) zero a b less = refl
same_within (x ∷ xs) (suc n) a b less = same_within xs n a b (omega (arith, less))
