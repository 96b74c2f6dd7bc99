-- The texts of names that are known, and lists of texts put to them.
use Rattle.kl1_user_effects.proofs.Words.{◌≡◌, ℕ, ◌+◌, ◌<◌, ◌≤◌, Bool, true, false, cond, ◌||◌, List, [], ◌∷◌, ◌++◌, length, take, get_or, is_some, bytes_eq, refl, sym, ap, ◌∙◌, inl, inr, arith, length-append, length-take, drop, list_any, cases_Bool, or_cases, take_more, get_or-take, get_or_default, map-append, length-map, take-append-drop, list_any-append, bytes_eq-Decides, AtomNo, built_in_of, Known, number_in, number_by, added, option_cases, is_of_language, with_text, with_texts, IsNameList, all_grow, with_none, with_more, with_one, with_both, found_in_language, missed_in_language, texts_of, Contains-from_any, or_from, or_parts, CellName, Held, IsMadeIn, Made, Module, Numbered, State, Turns, add-one, false_from_ne_true, false≢true, keeps_names, length_push, names_of_module, nat_le, nat_lt, option_map, or-true, with_name, with_names, worked, AreKnown, HashMap, bytes_eq_comm, insert_entry, insert_entry-new, known_of, lookup, map, subst}
use Rattle.std.proofs.Common.{Option, Some, None}
use Rattle.kl1_user_effects.proofs.Lists.{all_append}

-- texts compared either way
pub comm : (t u : List ℕ) → bytes_eq t u ≡ bytes_eq u t
comm t u = bytes_eq_comm t u (bytes_eq t u) (bytes_eq u t) refl refl

-- ---- entries of a map

-- the number of a text among names is the one that stands under it
pub looked_up : (es : List (List ℕ × AtomNo)) (t : List ℕ) → option_map (λ (a : AtomNo). a.number) (lookup (bytes_eq t) es) ≡ number_in (map known_of es) t
looked_up [] t = refl
looked_up (e ∷ es) t = elim (cases_Bool (bytes_eq t e.0)) [
  | inl same ↦ rw (same, comm e.0 t, same) refl
  | inr other ↦ rw (other, comm e.0 t, other) (looked_up es t)
]

-- a text without a number has no entry
pub no_entry : (es : List (List ℕ × AtomNo)) (t : List ℕ) → number_in (map known_of es) t ≡ None → lookup (bytes_eq t) es ≡ None
no_entry es t e = by (lookup (bytes_eq t) es) (looked_up es t ∙ e)
  where
    by : (o : Option AtomNo) → option_map (λ (a : AtomNo). a.number) o ≡ None → o ≡ None
    by None h = refl
    by (Some a) h = absurd (cc)

-- ---- a text that isn't known

-- a text without a number is neither built in nor among the names
pub not_known : (ks : List Known) (t : List ℕ) → number_by ks t ≡ None → (built_in_of t ≡ None) × (number_in ks t ≡ None)
not_known ks t e = elim (option_cases (built_in_of t)) [
  | inl none ↦ (none, rw none at e)
  | inr some ↦ let found : Some _ ≡ None = rw some.1 at e in absurd (cc)
]

-- the number of a text that isn't built in is what stands under it
pub number_is : (es : List (List ℕ × AtomNo)) (ks : List Known) (t : List ℕ) (o : Option AtomNo) → built_in_of t ≡ None → map known_of es ≡ ks → lookup (bytes_eq t) es ≡ o → option_map (λ (a : AtomNo). a.number) o ≡ number_by ks t
number_is es ks t o none is e =
    rw none (ap (λ (p : Option AtomNo). option_map (λ (a : AtomNo). a.number) p) (sym e) ∙ looked_up es t ∙ ap (λ (l : List Known). number_in l t) is)

-- if a look-up finds nothing, the text isn't known
pub found_none : (o : Option CellName) (ks : List Known) (t : List ℕ) → option_map (λ (c : CellName). c.number) o ≡ number_by ks t → is_some o ≡ false → number_by ks t ≡ None
found_none None ks t e h = sym e
found_none (Some c) ks t e h = absurd (false≢true (sym h))

-- what is added if the text isn't known
pub added_new : (ks : List Known) (t : List ℕ) (a : AtomNo) → number_by ks t ≡ None → added ks t a ≡ ks ++ record { text = t; number = a } ∷ []
added_new ks t a e = rw e refl

-- an entry put after others
module _ {S : Type 0} (m : HashMap (List ℕ) AtomNo S) (ks : List Known) (t : List ℕ) (a : AtomNo) (is : map known_of m.entries ≡ ks) (new : number_by ks t ≡ None) (es : List (List ℕ × AtomNo)) (e : es ≡ insert_entry bytes_eq m.entries t a) where
  entries_are : es ≡ m.entries ++ (t, a) ∷ []
  entries_are = e ∙ insert_entry-new bytes_eq m t a (no_entry m.entries t (ap (λ (l : List Known). number_in l t) is ∙ (not_known ks t new).1))

  pub put_known : AreKnown m.entries → AreKnown es
  put_known k = subst (λ (l : List (List ℕ × AtomNo)). AreKnown l) (sym entries_are) (all_append (λ (x : List ℕ × AtomNo). built_in_of x.0 ≡ None) m.entries ((t, a) ∷ []) k ((not_known ks t new).0, tt))

  pub put_names : map known_of es ≡ added ks t a
  put_names =
      ap (map known_of) entries_are
      ∙ map-append known_of m.entries ((t, a) ∷ [])
      ∙ ap (λ (l : List Known). l ++ record { text = t; number = a } ∷ []) is
      ∙ sym (added_new ks t a new)

-- if a look-up finds a number, the text is known by it
pub found_some : (o : Option CellName) (ks : List Known) (t : List ℕ) → option_map (λ (c : CellName). c.number) o ≡ number_by ks t → is_some o ≡ true → (n : ℕ) × (number_by ks t ≡ Some n)
found_some None ks t e h = absurd (false≢true h)
found_some (Some c) ks t e h = (c.number, sym e)

-- ---- names of a language and of a module

-- a text that is a name of the language changes nothing
pub in_language : (names : List (List ℕ)) (text : List ℕ) → is_of_language text ≡ true → with_text names text ≡ names
unfolding with_text is_of_language
in_language names text e = ap (λ (v : Bool). cond (v || list_any (bytes_eq text) names) names (names ++ text ∷ [])) e

-- a text that is among names changes nothing
pub among : (names : List (List ℕ)) (text : List ℕ) → list_any (bytes_eq text) names ≡ true → with_text names text ≡ names
unfolding with_text is_of_language
among names text e = rw (e, or-true (is_of_language text))

-- a text that is neither comes after the others
pub not_there : (names : List (List ℕ)) (text : List ℕ) → is_of_language text ≡ false → list_any (bytes_eq text) names ≡ false → with_text names text ≡ names ++ text ∷ []
unfolding with_text is_of_language
not_there names text p e = rw (p, e)

-- what is among names stays among them if others are put
pub still_among : (q : List ℕ → Bool) (names more : List (List ℕ)) → list_any q names ≡ true → list_any q (with_texts names more) ≡ true
still_among q names more e =
    let g = all_grow names more in
    ap (list_any q) g.is ∙ (list_any-append q names g.added ∙ ap (λ b. b || list_any q g.added) e)

-- a text after others is among them
last_among : (names : List (List ℕ)) (text : List ℕ) → list_any (bytes_eq text) (names ++ text ∷ []) ≡ true
last_among names text =
    list_any-append (bytes_eq text) names (text ∷ [])
    ∙ (ap (λ b. list_any (bytes_eq text) names || (b || false)) ((bytes_eq-Decides text text).1 refl) ∙ or-true (list_any (bytes_eq text) names))

put_among : (names : List (List ℕ)) (text : List ℕ) (b : Bool) → is_of_language text ≡ false → list_any (bytes_eq text) names ≡ b → list_any (bytes_eq text) (with_text names text) ≡ true
put_among names text true p e = ap (list_any (bytes_eq text)) (among names text e) ∙ e
put_among names text false p e = ap (list_any (bytes_eq text)) (not_there names text p e) ∙ last_among names text

-- a text among others is among names to which these are put
then_among : (names seen : List (List ℕ)) (text : List ℕ) → is_of_language text ≡ false → list_any (bytes_eq text) seen ≡ true → list_any (bytes_eq text) (with_texts names seen) ≡ true
then_among names [] text p e = absurd (false≢true e)
then_among names (y ∷ seen) text p e =
    ap (list_any (bytes_eq text)) (with_more names y seen)
    ∙ elim (or_cases (bytes_eq text y) (list_any (bytes_eq text) seen) e) [
      | inl h ↦
          let same : text ≡ y = (bytes_eq-Decides text y).0 h in
          let here : list_any (bytes_eq text) (with_text names y) ≡ true = ap (λ z. list_any (bytes_eq text) (with_text names z)) (sym same) ∙ put_among names text (list_any (bytes_eq text) names) p refl in
          still_among (bytes_eq text) (with_text names y) seen here
      | inr h ↦ then_among (with_text names y) seen text p h
    ]

one_twice : (names seen : List (List ℕ)) (text : List ℕ) (b c : Bool) → is_of_language text ≡ b → list_any (bytes_eq text) seen ≡ c → with_texts names (with_text seen text) ≡ with_text (with_texts names seen) text
one_twice names seen text true c p e = ap (with_texts names) (in_language seen text p) ∙ sym (in_language (with_texts names seen) text p)
one_twice names seen text false true p e = ap (with_texts names) (among seen text e) ∙ sym (among (with_texts names seen) text (then_among names seen text p e))
one_twice names seen text false false p e = ap (with_texts names) (not_there seen text p e) ∙ (with_both names seen (text ∷ []) ∙ with_one (with_texts names seen) text)

-- names that were put together before are put like one after another
pub twice : (names seen texts : List (List ℕ)) → with_texts names (with_texts seen texts) ≡ with_texts (with_texts names seen) texts
twice names seen [] = ap (with_texts names) (with_none seen) ∙ sym (with_none (with_texts names seen))
twice names seen (x ∷ xs) =
    ap (with_texts names) (with_more seen x xs)
    ∙ (twice names (with_text seen x) xs
    ∙ (ap (λ zs. with_texts zs xs) (one_twice names seen x (is_of_language x) (list_any (bytes_eq x) seen) refl refl) ∙ sym (with_more (with_texts names seen) x xs)))

-- the names of a module are those of its list
pub of_module : (names : List (List ℕ)) (m : Module) → with_texts names (with_names [] (names_of_module m)) ≡ with_names names (names_of_module m)
unfolding with_texts
of_module names m = twice names [] (names_of_module m)

-- names added to others and then to these, or after the others to these
pub collected : (names others more : List (List ℕ)) → with_names names (with_names others more) ≡ with_names (with_names names others) more
unfolding with_texts
collected names others more = twice names others more

-- ---- texts of names that are known

-- a text has a number among names if it is one of their texts
pub known_text : (ks : List Known) (t : List ℕ) → is_some (number_in ks t) ≡ list_any (bytes_eq t) (texts_of ks)
known_text [] t = refl
known_text (k ∷ ks) t = elim (cases_Bool (bytes_eq k.text t)) [
  | inl same ↦ rw (same, comm t k.text, same) refl
  | inr other ↦ rw (other, comm t k.text, other) (known_text ks t)
]

-- a text that isn't known is no text of the names
pub no_text : (ks : List Known) (t : List ℕ) → number_by ks t ≡ None → (is_of_language t ≡ false) × (list_any (bytes_eq t) (texts_of ks) ≡ false)
no_text ks t e =
    let n = not_known ks t e in
    (missed_in_language t n.0, sym (known_text ks t) ∙ ap (λ (o : Option ℕ). is_some o) n.1)

-- a text is known if it is of the language or among the names
known_is : (ks : List Known) (t : List ℕ) → is_some (number_by ks t) ≡ (is_of_language t || list_any (bytes_eq t) (texts_of ks))
known_is ks t = elim (option_cases (built_in_of t)) [
  | inl none ↦ rw (none, missed_in_language t none) (known_text ks t)
  | inr some ↦ rw (some.1, (found_in_language t some.0 some.1).1)
]

-- a known text put to the names and others changes nothing
pub put_known_text : (ks : List Known) (seen : List (List ℕ)) (t : List ℕ) (n : ℕ) → number_by ks t ≡ Some n → with_text (with_texts (texts_of ks) seen) t ≡ with_texts (texts_of ks) seen
put_known_text ks seen t n e = elim (or_cases (is_of_language t) (list_any (bytes_eq t) (texts_of ks)) (sym (known_is ks t) ∙ ap (λ (o : Option ℕ). is_some o) e)) [
  | inl language ↦ in_language (with_texts (texts_of ks) seen) t language
  | inr there ↦ among (with_texts (texts_of ks) seen) t (still_among (bytes_eq t) (texts_of ks) seen there)
]

-- the texts of names with one put to them if it is new
pub texts_added : (ks : List Known) (t : List ℕ) (a : AtomNo) → texts_of (added ks t a) ≡ with_text (texts_of ks) t
unfolding with_text is_of_language
texts_added ks t a = elim (cases_Bool (is_some (number_by ks t))) [
  | inl old ↦ rw (old, sym (known_is ks t) ∙ old)
  | inr new ↦ rw (new, sym (known_is ks t) ∙ new) (map-append (λ (k : Known). k.text) ks (record { text = t; number = a } ∷ []))
]

-- one text more of a list
pub next_take : (texts : List (List ℕ)) (i : ℕ) (t : List ℕ) → i < length texts → t ≡ get_or texts i t → take (i + 1) texts ≡ take i texts ++ t ∷ []
next_take texts i t within is = take_more texts i t within ∙ ap (λ (x : List ℕ). take i texts ++ x ∷ []) (sym is)

pub next_text : (first texts : List (List ℕ)) (i : ℕ) (t : List ℕ) → i < length texts → t ≡ get_or texts i t → with_texts first (take (i + 1) texts) ≡ with_text (with_texts first (take i texts)) t
next_text first texts i t within is =
    ap (with_texts first) (next_take texts i t within is)
    ∙ (with_both first (take i texts) (t ∷ []) ∙ with_one (with_texts first (take i texts)) t)

-- in a list of names a text isn't among those before it
pub not_before : (texts : List (List ℕ)) (i : ℕ) (t : List ℕ) → IsNameList texts → i < length texts → t ≡ get_or texts i t → list_any (bytes_eq t) (take i texts) ≡ false
not_before texts i t list within is = false_from_ne_true (list_any (bytes_eq t) (take i texts)) (λ there.
    let r = Contains-from_any {eq = bytes_eq} (λ x y. (bytes_eq-Decides x y).0) t (take i texts) there in
    let h = r.1 in
    let low : r.0 < i = omega (arith, length-take i texts) in
    let same : get_or (take i texts) r.0 [] ≡ t = get_or_default (take i texts) r.0 [] t h ∙ r.2 in
    let e : get_or texts r.0 [] ≡ get_or texts i [] = sym (get_or-take i texts r.0 [] low) ∙ same ∙ is ∙ get_or_default texts i t [] within in
    let once : r.0 ≡ i = list.once r.0 i (omega arith) within e in
    omega arith)

-- what is among neither names nor others isn't among names to which these are put
none_of_both : (q : List ℕ → Bool) (first seen : List (List ℕ)) → list_any q first ≡ false → list_any q seen ≡ false → list_any q (with_texts first seen) ≡ false
unfolding with_text is_of_language
none_of_both q first [] a b = ap (list_any q) (with_none first) ∙ a
none_of_both q first (y ∷ seen) a b =
    let parts = or_parts (q y) (list_any q seen) b in
    ap (list_any q) (with_more first y seen) ∙ none_of_both q (with_text first y) seen (by_case parts.0 (is_of_language y || list_any (bytes_eq y) first)) parts.1
  where
    by_case : q y ≡ false → (c : Bool) → list_any q (cond c first (first ++ y ∷ [])) ≡ false
    by_case e true = a
    by_case e false = list_any-append q first (y ∷ []) ∙ or_from (list_any q first) (list_any q (y ∷ [])) a (or_from (q y) false e refl)

-- a text that isn't known, and isn't among those seen, comes after both
pub put_new_text : (ks : List Known) (seen : List (List ℕ)) (t : List ℕ) → number_by ks t ≡ None → list_any (bytes_eq t) seen ≡ false → with_text (with_texts (texts_of ks) seen) t ≡ with_texts (texts_of ks) seen ++ t ∷ []
put_new_text ks seen t e new =
    let n = no_text ks t e in
    not_there (with_texts (texts_of ks) seen) t n.0 (none_of_both (bytes_eq t) (texts_of ks) seen n.1 new)

-- names that are put never become fewer
pub put_more : (first texts : List (List ℕ)) (i : ℕ) → length (with_texts first (take i texts)) ≤ length (with_texts first texts)
put_more first texts i =
    let whole : with_texts first texts ≡ with_texts (with_texts first (take i texts)) (drop i texts) =
    ap (with_texts first) (sym (take-append-drop i texts)) ∙ with_both first (take i texts) (drop i texts) in
    let g = all_grow (with_texts first (take i texts)) (drop i texts) in
    let l : length (with_texts first texts) ≡ length (with_texts first (take i texts)) + length g.added = ap length whole ∙ ap length g.is ∙ length-append (with_texts first (take i texts)) g.added in
    omega arith

-- a text that is new is counted
pub counted_new : (ks : List Known) (texts : List (List ℕ)) (i count : ℕ) (t : List ℕ) → IsNameList texts → i < length texts → t ≡ get_or texts i t → number_by ks t ≡ None → length (with_texts (texts_of ks) (take i texts)) ≡ length ks + count → length (with_texts (texts_of ks) (take (i + 1) texts)) ≡ length ks + (count + 1)
counted_new ks texts i count t list within is new so_far =
    let more : length (with_texts (texts_of ks) (take (i + 1) texts)) ≡ length (with_texts (texts_of ks) (take i texts)) + 1 =
    ap length (next_text (texts_of ks) texts i t within is ∙ put_new_text ks (take i texts) t new (not_before texts i t list within is))
    ∙ length-append (with_texts (texts_of ks) (take i texts)) (t ∷ []) in
    omega arith

-- and one that is known isn't
pub counted_known : (ks : List Known) (texts : List (List ℕ)) (i count n : ℕ) (t : List ℕ) → i < length texts → t ≡ get_or texts i t → number_by ks t ≡ Some n → length (with_texts (texts_of ks) (take i texts)) ≡ length ks + count → length (with_texts (texts_of ks) (take (i + 1) texts)) ≡ length ks + count
counted_known ks texts i count n t within is known so_far =
    ap length (next_text (texts_of ks) texts i t within is ∙ put_known_text ks (take i texts) t n known) ∙ so_far

pub counted_first : (ks : List Known) → length (with_texts (texts_of ks) []) ≡ length ks + 0
counted_first ks =
    let first : length (with_texts (texts_of ks) []) ≡ length ks = ap length (with_none (texts_of ks)) ∙ length-map ks (λ (k : Known). k.text) in
    omega arith

-- ---- names that goals spell

-- a name that is known is no name more
pub known_named : (known : List Known) (text : List ℕ) (n : ℕ) → number_by known text ≡ Some n → with_name (texts_of known) text ≡ texts_of known
unfolding with_text with_texts
known_named known text n e = put_known_text known [] text n e

-- one that isn't comes after the others
pub new_named : (known : List Known) (text : List ℕ) → number_by known text ≡ None → with_name (texts_of known) text ≡ texts_of known ++ text ∷ []
unfolding with_text
new_named known text e = let n = no_text known text e in not_there (texts_of known) text n.0 n.1

-- a text is used as a name
pub named_turns : (ms : List Numbered) (h : Held CellName) (w : Made) (text : List ℕ) (names : List (List ℕ)) → IsMadeIn h w → with_name w.names text ≡ names → Turns ms (λ f s. record s { names = with_name s.names text }) h h w (record w { names = names })
named_turns ms h w text names i e = record {
  inside = record { some = i.some; goals = i.goals; shoens = i.shoens; owned = i.owned };
  states = λ f knows s. ap (λ (ns : List (List ℕ)). let z : State = record (worked f s h w) { names = ns } in z) e;
}

-- ---- whether there is room for a name

pub room_known : (most : ℕ) (known : List Known) (text : List ℕ) (o : Option CellName) (v : CellName) (len : ℕ) → option_map (λ (c : CellName). c.number) o ≡ number_by known text → o ≡ Some v → len ≡ length known → nat_le len most ≡ keeps_names most known text
room_known most known text o v len number is len_is =
    let e : number_by known text ≡ Some v.number = sym number ∙ ap (option_map (λ (c : CellName). c.number)) is in
    ap (λ n. nat_le n most) (len_is ∙ sym (length-map known (λ (k : Known). k.text)))
    ∙ ap (λ (l : List (List ℕ)). nat_le (length l) most) (sym (known_named known text v.number e))

pub room_new : (most : ℕ) (known : List Known) (text : List ℕ) (o : Option CellName) (len : ℕ) → option_map (λ (c : CellName). c.number) o ≡ number_by known text → o ≡ None → len ≡ length known → nat_lt len most ≡ keeps_names most known text
room_new most known text o len number is len_is =
    let e : number_by known text ≡ None = sym number ∙ ap (option_map (λ (c : CellName). c.number)) is in
    ap (λ n. nat_le n most) (sym (add-one len))
    ∙ ap (λ n. nat_le (n + 1) most) (len_is ∙ sym (length-map known (λ (k : Known). k.text)))
    ∙ ap (λ n. nat_le n most) (sym (length_push (texts_of known) text))
    ∙ ap (λ (l : List (List ℕ)). nat_le (length l) most) (sym (new_named known text e))
