-- Rows of places, each with a text or free.
use Rattle.std.proofs.Common.{◌≡◌, ◌≢◌, ℕ, zero, suc, ◌+◌, ◌-◌, ◌*◌, ◌<◌, ◌≤◌, ◌⊎◌, List, [], ◌∷◌, ◌++◌, length, Option, Some, None, replicate, take, slice_get, slice_set, IsTrue, refl, sym, ap, ◌∙◌, subst, inl, inr, arith}
use Rattle.std.proofs.lemmas.Bool.{cases_eq}
use Rattle.std.proofs.lemmas.List.{length-set}
use Rattle.std.proofs.lemmas.Option.{slice_get_within}
use Rattle.std.proofs.Math.ListN.{length-append}
use Rattle.kl1_model.specs.declared.limits.TheConstants.{FIRST_NUMBER, MOST_NAMES}
use Rattle.kl1_model.specs.Text.{is_text}
use Rattle.kl1_text.specs.BuiltIns.{built_in_of}
use Rattle.kl1_atoms.specs.declared.known.Known.{Known}
use Rattle.kl1_atoms.specs.Names.{IsTable, StandIn, PublishesWithin}
use Rattle.kl1_atoms.specs.Plain.{StandsAt, IsSeatOf, Held}
use Rattle.kl1_atoms.specs.Knowing.{stand_more, stand_on, publishes_none, publishes_one}

-- what a written place holds
set_same : {X : Type 0} (xs : List X) (i : ℕ) (x : X) → i < length xs → slice_get (slice_set xs i x) i ≡ Some x
set_same [] i x h = absurd (omega arith)
set_same (y ∷ xs) zero x h = refl
set_same (y ∷ xs) (suc i) x h = set_same xs i x (omega arith)

-- what another place holds
set_other : {X : Type 0} (xs : List X) (i j : ℕ) (x : X) → (j ≡ i → ⊥) → slice_get (slice_set xs i x) j ≡ slice_get xs j
set_other [] i j x h = refl
set_other (y ∷ xs) zero zero x h = absurd (h refl)
set_other (y ∷ xs) zero (suc j) x h = refl
set_other (y ∷ xs) (suc i) zero x h = refl
set_other (y ∷ xs) (suc i) (suc j) x h = set_other xs i j x (λ e. h (ap suc e))

-- an element of a list with one more: one of the list's, or the one more
pub pushed : {X : Type 0} (xs : List X) (x : X) (k : ℕ) (y : X) → slice_get (xs ++ x ∷ []) k ≡ Some y → (slice_get xs k ≡ Some y) ⊎ ((k ≡ length xs) × (x ≡ y))
pushed [] x zero y e = inr (refl, cc)
pushed [] x (suc k) y e = cc
pushed (z ∷ xs) x zero y e = inl e
pushed (z ∷ xs) x (suc k) y e = elim (pushed xs x k y e) [ inl was ↦ inl was | inr is ↦ inr (ap suc is.0, is.1) ]

-- each element of a list of one element alone
pub all_same : {X : Type 0} (n : ℕ) (x : X) (i : ℕ) → i < n → slice_get (replicate n x) i ≡ Some x
all_same zero x i below = absurd (omega arith)
all_same (suc n) x zero below = refl
all_same (suc n) x (suc i) below = all_same n x i (omega arith)

-- nothing, filled up with one element
pub filled : {X : Type 0} (xs : List X) (n k : ℕ) (x : X) → xs ≡ [] → k ≡ 0 → take n xs ++ replicate (n - k) x ≡ replicate n x
filled [] zero k x e z = let m : zero - k ≡ zero = omega arith in rw m refl
filled [] (suc n) k x e z = let m : suc n - k ≡ suc n = omega arith in rw m refl
filled (y ∷ xs) n k x e z = cc

-- what a place holds is one
one_held : (o : Option (Option (List ℕ))) (t u : List ℕ) → o ≡ Some (Some t) → o ≡ Some (Some u) → t ≡ u
one_held o t u p q = let e : Some (Some t) ≡ Some (Some u) = sym p ∙ q in cc

-- a free place holds nothing
free_holds_nothing : (o : Option (Option (List ℕ))) (t : List ℕ) → o ≡ Some None → o ≡ Some (Some t) → ⊥
free_holds_nothing o t p q = let e : Some None ≡ Some (Some t) = sym p ∙ q in cc

-- seats of a table whose places are all free
pub new_seat : (places : List (Option (List ℕ))) (accounts k : ℕ) → length places ≡ MOST_NAMES * accounts → ((i : ℕ) → i < MOST_NAMES * accounts → slice_get places i ≡ Some None) → k < accounts → IsSeatOf places k 0 []
new_seat places accounts k size free within = record {
  table = record {
    names = λ t n at. absurd (nothing t n at);
    not_built_in = λ t n at. absurd (nothing t n at);
    from_64 = λ t n at. at.0;
    one_text = λ t u n at by. absurd (nothing t n at);
    one_number = λ t m n at by. absurd (nothing t m at);
  };
  row = omega arith;
  used_up = omega arith;
  free = λ j low high. free (MOST_NAMES * k + j) (omega arith);
  there = record { by_text = λ t n e. cc; by_number = λ t n e. cc };
} where
  nothing : (t : List ℕ) (n : ℕ) → StandsAt places n t → ⊥
  nothing t n at =
      let inside : n - FIRST_NUMBER < length places = slice_get_within places (n - FIRST_NUMBER) (Some t) at.1 in
      free_holds_nothing (slice_get places (n - FIRST_NUMBER)) t (free (n - FIRST_NUMBER) (omega arith)) at.1

-- what stands in a row after a write to a free place: what stood there, or the text written
module _ (places : List (Option (List ℕ))) (place : ℕ) (t : List ℕ) (free : slice_get places place ≡ Some None) where
  stood : (u : List ℕ) (n : ℕ) → StandsAt places n u → StandsAt (slice_set places place (Some t)) n u
  stood u n at = (at.0, set_other places place (n - FIRST_NUMBER) (Some t) (λ e. free_holds_nothing (slice_get places place) u free (subst (λ i. slice_get places i ≡ Some (Some u)) e at.1)) ∙ at.1)

  stands : (u : List ℕ) (n : ℕ) → StandsAt (slice_set places place (Some t)) n u → StandsAt places n u ⊎ ((n - FIRST_NUMBER ≡ place) × (t ≡ u) × (FIRST_NUMBER ≤ n))
  stands u n at =
      elim (cases_eq (n - FIRST_NUMBER) place) [
        | inl same ↦
            let here : slice_get (slice_set places place (Some t)) (n - FIRST_NUMBER) ≡ Some (Some t) = rw same (set_same places place (Some t) (slice_get_within places place None free)) in
            inr (same, one_held (slice_get (slice_set places place (Some t)) (n - FIRST_NUMBER)) t u here at.1, at.0)
        | inr other ↦ inl (at.0, sym (set_other places place (n - FIRST_NUMBER) (Some t) other) ∙ at.1)
      ]

  module _ (name : IsTrue (is_text t)) (own : built_in_of t ≡ None) (new : (i : ℕ) → slice_get places i ≢ Some (Some t)) (table : IsTable (StandsAt places)) where
    -- the table after the write
    written : IsTable (StandsAt (slice_set places place (Some t)))
    written = record {
      names = λ u n at. elim (stands u n at) [ inl was ↦ table.names u n was | inr is ↦ subst (λ v. IsTrue (is_text v)) is.1 name ];
      not_built_in = λ u n at. elim (stands u n at) [ inl was ↦ table.not_built_in u n was | inr is ↦ subst (λ v. built_in_of v ≡ None) is.1 own ];
      from_64 = λ u n at. at.0;
      one_text = λ u v n at by. one_held (slice_get (slice_set places place (Some t)) (n - FIRST_NUMBER)) u v at.1 by.1;
      one_number = λ u m n at by. elim (stands u m at) [
        | inl was ↦ elim (stands u n by) [
          | inl were ↦ table.one_number u m n was were
          | inr is ↦ absurd (new (m - FIRST_NUMBER) (rw is.1 was.1))
        ]
        | inr is ↦ elim (stands u n by) [
          | inl were ↦ absurd (new (n - FIRST_NUMBER) (rw is.1 were.1))
          | inr are ↦ omega arith
        ]
      ];
    }

-- one more pair is known
longer : (ks : List Known) (k : Known) → length (ks ++ k ∷ []) ≡ length ks + 1
longer ks k = simp length-append

-- the seat of a look-up, after it
pub seat_after : (old new : List (Option (List ℕ))) (account used_old used_new place : ℕ) (t : List ℕ) (k : Known) (known : List Known) → IsSeatOf old account used_old known → length known < MOST_NAMES
    → IsTrue (is_text t) → built_in_of t ≡ None → Held old new account used_old used_new place t → k.text ≡ t → k.number.number ≡ FIRST_NUMBER + place → IsSeatOf new account used_new (known ++ k ∷ [])
seat_after old new account used_old used_new place t k known seat few name own held text number =
    let here : StandsAt new k.number.number k.text =
    (omega arith, rw text (subst (λ i. slice_get new i ≡ Some (Some t)) (let i : place ≡ k.number.number - FIRST_NUMBER = omega arith in i) held.there))
    in
    elim held.change [
      | inl same ↦
          let e : old ≡ new = sym same.0 in
          record {
            table = subst (λ ps. IsTable (StandsAt ps)) e seat.table;
            row = subst (λ ps. MOST_NAMES * account + MOST_NAMES ≤ length ps) e seat.row;
            used_up = rw longer (let u = seat.used_up in let s = same.1 in omega arith);
            free = λ j low high. subst (λ ps. slice_get ps (MOST_NAMES * account + j) ≡ Some None) e (seat.free j (let s = same.1 in omega arith) high);
            there = stand_more (StandsAt new) known k (subst (λ ps. StandIn (StandsAt ps) known) e seat.there) here;
          }
      | inr put ↦
          let free : slice_get old place ≡ Some None = rw put.0 (seat.free used_old (omega arith) (let u = seat.used_up in omega arith)) in
          let e : slice_set old place (Some t) ≡ new = sym put.2 in
          record {
            table = subst (λ ps. IsTable (StandsAt ps)) e (written old place t free name own put.3 seat.table);
            row = subst (λ ps. MOST_NAMES * account + MOST_NAMES ≤ length ps) e (rw length-set seat.row);
            used_up = rw longer (let u = seat.used_up in let s = put.1 in omega arith);
            free = λ j low high.
                let other : MOST_NAMES * account + j ≡ place → ⊥ = λ is. let p = put.0 in let s = put.1 in absurd (omega arith) in
                subst (λ ps. slice_get ps (MOST_NAMES * account + j) ≡ Some None) e (set_other old place (MOST_NAMES * account + j) (Some t) other ∙ seat.free j (let s = put.1 in omega arith) high);
            there = stand_more (StandsAt new) known k (subst (λ ps. StandIn (StandsAt ps) known) e (stand_on (StandsAt old) (StandsAt (slice_set old place (Some t))) known (stood old place t free) seat.there)) here;
          }
    ]

-- a place is taken only if the text is known anew
pub held_publishes : (old new : List (Option (List ℕ))) (account used_old used_new place : ℕ) (t : List ℕ) (known : List Known) (k : Known) → Held old new account used_old used_new place t → PublishesWithin used_old used_new known (known ++ k ∷ [])
held_publishes old new account used_old used_new place t known k held =
    elim held.change [
      | inl same ↦ publishes_none used_old used_new known (known ++ k ∷ []) same.1 (rw longer (omega arith))
      | inr put ↦ subst (λ u. PublishesWithin used_old u known (known ++ k ∷ [])) (sym put.1) (publishes_one used_old known k)
    ]

-- another account's seat, after it
pub other_seat_after : (old new : List (Option (List ℕ))) (account used_old used_new place : ℕ) (t : List ℕ) (known : List Known) → IsSeatOf old account used_old known → length known < MOST_NAMES
    → IsTrue (is_text t) → built_in_of t ≡ None → Held old new account used_old used_new place t
    → (other used : ℕ) (others : List Known) → other ≢ account → IsSeatOf old other used others → IsSeatOf new other used others
other_seat_after old new account used_old used_new place t known seat few name own held other used others differ its =
    elim held.change [
      | inl same ↦ subst (λ ps. IsSeatOf ps other used others) (sym same.0) its
      | inr put ↦
          let free : slice_get old place ≡ Some None = rw put.0 (seat.free used_old (omega arith) (let u = seat.used_up in omega arith)) in
          let in_row : used_old < MOST_NAMES = (let u = seat.used_up in omega arith) in
          subst (λ ps. IsSeatOf ps other used others) (sym put.2)
          (let after : IsSeatOf (slice_set old place (Some t)) other used others = record {
            table = written old place t free name own put.3 seat.table;
            row = rw length-set its.row;
            used_up = its.used_up;
            free = λ j low high.
                let apart : MOST_NAMES * other + j ≡ place → ⊥ = λ is. let p = put.0 in differ (omega arith) in
                set_other old place (MOST_NAMES * other + j) (Some t) apart ∙ its.free j low high;
            there = stand_on (StandsAt old) (StandsAt (slice_set old place (Some t))) others (stood old place t free) its.there;
          } in after)
    ]
