-- Names that are known, as numbers and as texts.
use Rattle.std.proofs.Common.{◌≡◌, ℕ, ◌+◌, ◌<◌, ◌≤◌, ◌==◌, ◌⊎◌, List, [], ◌∷◌, ◌++◌, length, Option, Some, None, IsTrue, IsSome, is_some, nat_le, bytes_eq, slice_get, refl, sym, ap, ◌∙◌, subst, inl, inr, arith}
use Rattle.std.proofs.lemmas.Bool.{cases_Bool, cases_eq, false≢true, eqb-true, eq-eqb, both_ways, and_parts}
use Rattle.std.proofs.lemmas.Option.{slice_get_past}
use Rattle.std.proofs.Math.ListN.{length-append}
use Rattle.std.proofs.lemmas.Slice.Eq.{bytes_eq-Decides}
use Rattle.kl1_model.specs.declared.limits.TheConstants.{FIRST_NUMBER, MOST_NAME_BYTES}
use Rattle.kl1_model.specs.Text.{is_text, text_of, built_ins, is_name_byte}
use Rattle.kl1_text.specs.declared.atom_no.AtomNo.{AtomNo}
use Rattle.kl1_text.specs.BuiltIns.{place_of, built_in_at, built_in_of}
use Rattle.kl1_atoms.specs.declared.known.Known.{Known}
use Rattle.std.specs.List.{list_all}
use Rattle.kl1_text.proofs.Words.{name_byte_bounds}
use Rattle.kl1_text.specs.Reading.{Reads}
use Rattle.kl1_text.proofs.BuiltInLaws.{at_place, of_text, built_ins_are_texts, text_found, place_found}
use Rattle.kl1_atoms.specs.Names.{number_in, text_in, number_by, text_by, Adds, AreNames, IsTable, StandIn, reading, PublishesWithin}

-- what an option holds
some_is : (m n : ℕ) → Some m ≡ Some n → m ≡ n
some_is m n e = cc

-- what an option holds, of texts
text_is : (t u : List ℕ) → Some t ≡ Some u → t ≡ u
text_is t u e = cc

-- a known text's number has a text
numbered : (ks : List Known) (t : List ℕ) (n : ℕ) → number_in ks t ≡ Some n → (u : List ℕ) × (text_in ks n ≡ Some u)
numbered [] t n e = cc
numbered (k ∷ ks) t n e = elim (cases_Bool (k.number.number == n)) [
  | inl same ↦ (k.text, rw same refl)
  | inr other ↦ elim (cases_Bool (bytes_eq k.text t)) [
    | inl is ↦ let found : Some k.number.number ≡ Some n = rw is at e in absurd (both_ways (k.number.number == n) other (eq-eqb k.number.number n (some_is k.number.number n found)))
    | inr not ↦ let rest = numbered ks t n (rw not at e) in (rest.0, rw other rest.1)
  ]
]

-- a known number's text has a number
texted : (ks : List Known) (t : List ℕ) (n : ℕ) → text_in ks n ≡ Some t → (m : ℕ) × (number_in ks t ≡ Some m)
texted [] t n e = cc
texted (k ∷ ks) t n e = elim (cases_Bool (bytes_eq k.text t)) [
  | inl same ↦ (k.number.number, rw same refl)
  | inr other ↦ elim (cases_Bool (k.number.number == n)) [
    | inl is ↦ let found : Some k.text ≡ Some t = rw is at e in absurd (both_ways (bytes_eq k.text t) other ((bytes_eq-Decides k.text t).1 (text_is k.text t found)))
    | inr not ↦ let rest = texted ks t n (rw not at e) in (rest.0, rw other rest.1)
  ]
]

-- one more pair, seen by text
one_more_text : (ks : List Known) (k : Known) (t : List ℕ) (n : ℕ) → number_in (ks ++ k ∷ []) t ≡ Some n → (number_in ks t ≡ Some n) ⊎ ((k.text ≡ t) × (k.number.number ≡ n))
one_more_text [] k t n e = elim (cases_Bool (bytes_eq k.text t)) [
  | inl same ↦ inr ((bytes_eq-Decides k.text t).0 same, some_is k.number.number n (rw same at e))
  | inr other ↦ let none : None ≡ Some n = rw other at e in cc
]
one_more_text (x ∷ ks) k t n e = elim (cases_Bool (bytes_eq x.text t)) [
  | inl same ↦ inl (rw same (rw same at e))
  | inr other ↦ elim (one_more_text ks k t n (rw other at e)) [ inl was ↦ inl (rw other was) | inr is ↦ inr is ]
]

-- one more pair, seen by number
one_more_number : (ks : List Known) (k : Known) (t : List ℕ) (n : ℕ) → text_in (ks ++ k ∷ []) n ≡ Some t → (text_in ks n ≡ Some t) ⊎ ((k.text ≡ t) × (k.number.number ≡ n))
one_more_number [] k t n e = elim (cases_Bool (k.number.number == n)) [
  | inl same ↦ inr (text_is k.text t (rw same at e), eqb-true k.number.number n same)
  | inr other ↦ let none : None ≡ Some t = rw other at e in cc
]
one_more_number (x ∷ ks) k t n e = elim (cases_Bool (x.number.number == n)) [
  | inl same ↦ inl (rw same (rw same at e))
  | inr other ↦ elim (one_more_number ks k t n (rw other at e)) [ inl was ↦ inl (rw other was) | inr is ↦ inr is ]
]

-- an option is empty or holds something
pub option_cases : {X : Type 0} (o : Option X) → (o ≡ None) ⊎ ((x : X) × (o ≡ Some x))
option_cases None = inl refl
option_cases (Some x) = inr (x, refl)

-- no built-in name stands from 64 on
none_from_64 : (n : ℕ) → FIRST_NUMBER ≤ n → built_in_at n ≡ None
none_from_64 n h = slice_get_past built_ins n (omega arith)

-- what stands in a table is one to one
pub are_names : (at : ℕ → List ℕ → Type 0) (ks : List Known) → IsTable at → StandIn at ks → AreNames ks
are_names at ks table stand = record {
  texts = λ t n e. elim (option_cases (built_in_of t)) [
    | inl none ↦ table.names t n (stand.by_text t n (rw none at e))
    | inr some ↦ subst (λ u. IsTrue (is_text u)) (text_found t some.0 some.1) (built_ins_are_texts some.0)
  ];
  back = λ t n e. elim (option_cases (built_in_of t)) [
    | inl none ↦
        let found : number_in ks t ≡ Some n = rw none at e in
        let here = stand.by_text t n found in
        let other = numbered ks t n found in
        rw (none_from_64 n (table.from_64 t n here)) (other.1 ∙ ap (λ u. Some u) (table.one_text other.0 t n (stand.by_number other.0 n other.1) here))
    | inr some ↦
        let found : Some (place_of some.0) ≡ Some n = rw some.1 at e in
        let is : place_of some.0 ≡ n = some_is (place_of some.0) n found in
        rw (← is, at_place some.0) (ap (λ u. Some u) (text_found t some.0 some.1))
  ];
  forth = λ t n e. elim (option_cases (built_in_at n)) [
    | inl none ↦
        let found : text_in ks n ≡ Some t = rw none at e in
        let here = stand.by_number t n found in
        let other = texted ks t n found in
        rw (table.not_built_in t n here) (other.1 ∙ ap (λ m. Some m) (table.one_number t other.0 n (stand.by_text t other.0 other.1) here))
    | inr some ↦
        let found : Some (text_of some.0) ≡ Some t = rw some.1 at e in
        let is : text_of some.0 ≡ t = text_is (text_of some.0) t found in
        rw (← is, of_text some.0) (ap (λ m. Some m) (place_found n some.0 some.1))
  ];
}

-- one pair more that stands in the table
pub stand_more : (at : ℕ → List ℕ → Type 0) (ks : List Known) (k : Known) → StandIn at ks → at k.number.number k.text → StandIn at (ks ++ k ∷ [])
stand_more at ks k stand here = record {
  by_text = λ t n e. elim (one_more_text ks k t n e) [ inl was ↦ stand.by_text t n was | inr is ↦ subst (λ u. at n u) is.0 (subst (λ m. at m k.text) is.1 here) ];
  by_number = λ t n e. elim (one_more_number ks k t n e) [ inl was ↦ stand.by_number t n was | inr is ↦ subst (λ u. at n u) is.0 (subst (λ m. at m k.text) is.1 here) ];
}

-- what stands in a table stands in one that has more
pub stand_on : (at by : ℕ → List ℕ → Type 0) (ks : List Known) → ((t : List ℕ) (n : ℕ) → at n t → by n t) → StandIn at ks → StandIn by ks
stand_on at by ks more stand = record { by_text = λ t n e. more t n (stand.by_text t n e); by_number = λ t n e. more t n (stand.by_number t n e) }

-- a text that isn't among names is found as the last pair
pub number_in-last : (ks : List Known) (k : Known) → number_in ks k.text ≡ None → number_in (ks ++ k ∷ []) k.text ≡ Some k.number.number
number_in-last [] k e = rw ((bytes_eq-Decides k.text k.text).1 refl) refl
number_in-last (x ∷ ks) k e = elim (cases_Bool (bytes_eq x.text k.text)) [
  | inl same ↦ let some : Some x.number.number ≡ None = rw same at e in cc
  | inr other ↦ rw other (number_in-last ks k (rw other at e))
]

-- a look-up of a text that is known adds nothing
pub adds_nothing : (ks : List Known) (t : List ℕ) (a : AtomNo) → number_by ks t ≡ Some a.number → Adds ks t a ks
adds_nothing ks t a e = record { known = rw e refl; number = e }

-- a look-up of a text that isn't known adds its pair
pub adds_one : (ks : List Known) (t : List ℕ) (a : AtomNo) → built_in_of t ≡ None → number_in ks t ≡ None → Adds ks t a (ks ++ record { text = t; number = a } ∷ [])
adds_one ks t a none new = record { known = rw (none, new) refl; number = rw none (number_in-last ks record { text = t; number = a } new) }

-- a text is no mark
no_mark : (mark n : ℕ) (t : List ℕ) → mark < 32 → IsTrue (is_text t) → t ≡ mark ∷ n ∷ [] → ⊥
no_mark mark n t low name e =
    let all = (and_parts (nat_le (length t) MOST_NAME_BYTES) (list_all is_name_byte t) name).1 in
    let byte = (and_parts (is_name_byte mark) (list_all is_name_byte (n ∷ [])) (rw e at all)).0 in
    let bounds = name_byte_bounds mark byte in
    absurd (omega arith)

-- the second of two
second_is : (mark m n : ℕ) → mark ∷ m ∷ [] ≡ mark ∷ n ∷ [] → m ≡ n
second_is mark m n e = cc

-- numbers of one text are one
same_number : (mark : ℕ) (ks : List Known) (a b : AtomNo) → mark < 32 → AreNames ks → reading mark ks a ≡ reading mark ks b → a.number ≡ b.number
same_number mark ks a b low names e = elim (option_cases (text_by ks a.number)) [
  | inl no_a ↦ elim (option_cases (text_by ks b.number)) [
    | inl no_b ↦ second_is mark a.number b.number (rw (no_a, no_b) at e)
    | inr is_b ↦
        let same : mark ∷ a.number ∷ [] ≡ is_b.0 = rw (no_a, is_b.1) at e in
        absurd (no_mark mark a.number is_b.0 low (names.texts is_b.0 b.number (names.forth is_b.0 b.number is_b.1)) (sym same))
  ]
  | inr is_a ↦ elim (option_cases (text_by ks b.number)) [
    | inl no_b ↦
        let same : is_a.0 ≡ mark ∷ b.number ∷ [] = rw (is_a.1, no_b) at e in
        absurd (no_mark mark b.number is_a.0 low (names.texts is_a.0 a.number (names.forth is_a.0 a.number is_a.1)) same)
    | inr is_b ↦
        let same : is_a.0 ≡ is_b.0 = rw (is_a.1, is_b.1) at e in
        some_is a.number b.number (sym (names.forth is_a.0 a.number is_a.1) ∙ ap (number_by ks) same ∙ names.forth is_b.0 b.number is_b.1)
  ]
]

-- names read by their numbers are a reading of names
pub is_reading : (mark : ℕ) (ks : List Known) → mark < 32 → AreNames ks → Reads (λ b. record { number = place_of b }) (reading mark ks)
is_reading mark ks low names =
    let number_of : ℕ → AtomNo = λ n. record { number = n } in record { once = λ a b e. ap number_of (same_number mark ks a b low names e); texts = λ b. rw (at_place b) refl }

-- a look-up adds one name at most
pub few_more : (old : List Known) (t : List ℕ) (a : AtomNo) (new : List Known) → Adds old t a new → length new ≤ length old + 1
few_more old t a new adds = elim (cases_Bool (is_some (number_by old t))) [
  | inl known ↦ rw (adds.known, known) (omega arith)
  | inr other ↦ rw (adds.known, other) (simp length-append (omega arith))
]

-- a seat that published no name, and knows no fewer
pub publishes_none : (before after : ℕ) (old new : List Known) → after ≡ before → length old ≤ length new → PublishesWithin before after old new
publishes_none before after old new same more = record { more = omega arith; within = omega arith }

-- a seat that published the name that it knows anew
pub publishes_one : (before : ℕ) (old : List Known) (k : Known) → PublishesWithin before (before + 1) old (old ++ k ∷ [])
publishes_one before old k = record { more = omega arith; within = simp length-append (omega arith) }

-- a seat that published no name, and knows what it knew
pub publishes_same : (before : ℕ) (old : List Known) → PublishesWithin before before old old
publishes_same before old = record { more = omega arith; within = omega arith }

-- publishing only while more is known, and then again
pub publishes_then : (first mid last : ℕ) (old now new : List Known) → PublishesWithin first mid old now → PublishesWithin mid last now new → PublishesWithin first last old new
publishes_then first mid last old now new one two = record { more = (let a = one.more in let b = two.more in omega arith); within = (let a = one.within in let b = two.within in omega arith) }

-- a seat that knows what it knew has published no name
pub publishes_nothing : (before after : ℕ) (old new : List Known) → PublishesWithin before after old new → new ≡ old → after ≡ before
publishes_nothing before after old new within same = let a = within.more in let b = within.within in let c = ap (λ (ks : List Known). length ks) same in omega arith

-- a number that a look-up answered is known
pub number_known : (old : List Known) (t : List ℕ) (a : AtomNo) (new : List Known) → AreNames new → Adds old t a new → IsSome (text_by new a.number)
number_known old t a new names adds = rw (names.back t a.number adds.number) refl

-- no names are one to one
pub no_names : AreNames []
no_names =
    let nowhere : ℕ → List ℕ → Type 0 = λ n t. ⊥ in
    are_names nowhere []
    (let table : IsTable nowhere = record {
      names = λ t n at. absurd at;
      not_built_in = λ t n at. absurd at;
      from_64 = λ t n at. absurd at;
      one_text = λ t u n at by. absurd at;
      one_number = λ t m n at by. absurd at;
    } in table)
    (let stand : StandIn nowhere [] = record { by_text = λ t n e. cc; by_number = λ t n e. cc } in stand)

-- what was known by a number still is with one pair more
number_in-kept : (ks : List Known) (k : Known) (t : List ℕ) (n : ℕ) → number_in ks t ≡ Some n → number_in (ks ++ k ∷ []) t ≡ Some n
number_in-kept [] k t n e = cc
number_in-kept (x ∷ ks) k t n e = elim (cases_Bool (bytes_eq x.text t)) [
  | inl same ↦ rw same (rw same at e)
  | inr other ↦ rw other (number_in-kept ks k t n (rw other at e))
]

-- a number that was known by a text still is with one pair more, also if the text is a built-in name
number_by-kept : (ks : List Known) (k : Known) (t : List ℕ) (n : ℕ) → number_by ks t ≡ Some n → number_by (ks ++ k ∷ []) t ≡ Some n
number_by-kept ks k t n e = elim (option_cases (built_in_of t)) [
  | inl none ↦ rw none (number_in-kept ks k t n (rw none at e))
  | inr some ↦ rw some.1 (rw some.1 at e)
]

-- a look-up leaves what was known
pub still_known : (old : List Known) (t : List ℕ) (a : AtomNo) (new : List Known) → Adds old t a new → (u : List ℕ) (n : ℕ) → number_by old u ≡ Some n → number_by new u ≡ Some n
still_known old t a new adds u n e = elim (cases_Bool (is_some (number_by old t))) [
  | inl known ↦ rw (adds.known, known) e
  | inr other ↦ rw (adds.known, other) (number_by-kept old record { text = t; number = a } u n e)
]

-- each of the first texts of a list is known
abbrev pub KnowsFirst : List Known → List (List ℕ) → ℕ → Type 0
KnowsFirst ks ts i = (k : ℕ) (t : List ℕ) → k < i → slice_get ts k ≡ Some t → IsSome (number_by ks t)

-- a look-up leaves what was known, and the text that was looked up is known too
pub knows_first-more : (old : List Known) (t : List ℕ) (a : AtomNo) (new : List Known) (ts : List (List ℕ)) (i : ℕ) → Adds old t a new → slice_get ts i ≡ Some t → KnowsFirst old ts i → KnowsFirst new ts (i + 1)
knows_first-more old t a new ts i adds here known = λ k u below e. elim (cases_eq k i) [
  | inl same ↦
      let is : Some u ≡ Some t = sym e ∙ ap (slice_get ts) same ∙ here in
      let text : u ≡ t = cc in
      rw (text, adds.number) refl
  | inr other ↦ elim (option_cases (number_by old u)) [
    | inl none ↦ absurd (false≢true (rw none at (known k u (omega arith) e)))
    | inr some ↦ rw (still_known old t a new adds u some.0 some.1) refl
  ]
]

-- a look-up leaves what was known of the first texts of a list
pub knows_first-kept : (old : List Known) (t : List ℕ) (a : AtomNo) (new : List Known) (ts : List (List ℕ)) (i : ℕ) → Adds old t a new → KnowsFirst old ts i → KnowsFirst new ts i
knows_first-kept old t a new ts i adds known = λ k u below e. elim (option_cases (number_by old u)) [
  | inl none ↦ absurd (false≢true (rw none at (known k u below e)))
  | inr some ↦ rw (still_known old t a new adds u some.0 some.1) refl
]
