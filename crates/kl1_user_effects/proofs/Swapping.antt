-- Many numbers that stand for one another, two by two, as one renaming, and the numbers that it can change.
use Rattle.kl1_user_effects.proofs.Words.{◌≡◌, ℕ, zero, suc, ◌+◌, ◌<◌, ◌≤◌, ◌==◌, false, List, [], ◌∷◌, ◌++◌, length, map, take, get_or, refl, sym, ap, ap₂, ◌∙◌, arith, subst, inl, inr, add-one, Contains, IsPermutation, IsNonDecreasing, MatchResult, is_ok, cases_lt, cases_Bool, get_or_default, append-nil, append_assoc, Contains-append_left, Contains-append_right, Contains-permutation, CellName, Cell, Atom, Binding, Held, Shape, cell_renamed, shape_renamed, binding_renamed, held_renamed, swapped_one, swapped_all, pair_of, touched, IsRowOf, held_exchanged, AreSpared, IsIn, IsSpared, Known, Reading, Structure, length-map, read_exchanged, term_of, term_of-renamed, Bool, BuiltIn, Fits, bytes_eq, bytes_eq-Decides, eq-eqb, eqb-true, exchanged, number_by, of_text, place_of, swapped, text_of, true, if◌then◌else◌}
use Rattle.std.specs.Prelude.{Result, Ok, Err}
use Rattle.std.proofs.lemmas.List.{length-take}
use Rattle.kl1_user_effects.proofs.KnownTexts.{next_take}
use Rattle.std.proofs.Common.{Some, None}

-- a test of whether two things are one
pub record IsTest {A : Type 0} (eq : A → A → Bool) : Type 0 where
  pub same : (x : A) → eq x x ≡ true
  pub one : (x y : A) → eq x y ≡ true → x ≡ y

-- a thing, if one stands for another and that for this
abbrev pub swap : {A : Type 0} → (A → A → Bool) → A → A → A → A
swap eq a b x = if eq x a then b else if eq x b then a else x

module _ {A : Type 0} (eq : A → A → Bool) (t : IsTest eq) (a b : A) where
  pub swap_first : swap eq a b a ≡ b
  swap_first = rw (t.same a)

  pub swap_second : swap eq a b b ≡ a
  swap_second = elim (cases_Bool (eq b a)) [ inl q ↦ rw q (t.one b a q) | inr q ↦ rw (q, t.same b) ]

  differs : (x y : A) → (x ≡ y → ⊥) → eq x y ≡ false
  differs x y other = elim (cases_Bool (eq x y)) [ inl q ↦ absurd (other (t.one x y q)) | inr q ↦ q ]

  pub swap_other : (x : A) → (x ≡ a → ⊥) → (x ≡ b → ⊥) → swap eq a b x ≡ x
  swap_other x p q = rw (differs x a p, differs x b q)

  pub swap_back : (x : A) → swap eq a b (swap eq a b x) ≡ x
  swap_back x = elim (cases_Bool (eq x a)) [
    | inl p ↦ subst (λ y. swap eq a b (swap eq a b y) ≡ y) (sym (t.one x a p)) (ap (swap eq a b) swap_first ∙ swap_second)
    | inr p ↦ elim (cases_Bool (eq x b)) [
      | inl q ↦ subst (λ y. swap eq a b (swap eq a b y) ≡ y) (sym (t.one x b q)) (ap (swap eq a b) swap_second ∙ swap_first)
      | inr q ↦ let is : swap eq a b x ≡ x = rw (p, q) in ap (swap eq a b) is ∙ is
    ]
  ]

-- ---- texts

pub text_test : IsTest bytes_eq
text_test = record { same = λ x. (bytes_eq-Decides x x).1 refl; one = λ x y. (bytes_eq-Decides x y).0 }

-- a reading that reads each of two texts as the other
abbrev pub retold : List ℕ → List ℕ → Reading → Reading
retold s t f c = swap bytes_eq s t (f c)

-- the number of a built-in name is known
built_known : (ks : List Known) (b : BuiltIn) → number_by ks (text_of b) ≡ Some (place_of b)
built_known ks b = rw (of_text b)

-- if neither is known, it reads names as well
pub retold_fits : (ks : List Known) (s t : List ℕ) (f : Reading) → number_by ks s ≡ None → number_by ks t ≡ None → Fits ks f → Fits ks (retold s t f)
retold_fits ks s t f old new fits = record {
  reads = record {
    once = λ a b e. fits.reads.once a b (sym (swap_back bytes_eq text_test s t (f a)) ∙ ap (swap bytes_eq s t) e ∙ swap_back bytes_eq text_test s t (f b));
    texts = λ b. ap (swap bytes_eq s t) (fits.reads.texts b) ∙ stays (text_of b) (place_of b) (built_known ks b);
  };
  texts = λ u n e. ap (swap bytes_eq s t) (fits.texts u n e) ∙ stays u n e;
}
  where
    stays : (u : List ℕ) (n : ℕ) → number_by ks u ≡ Some n → swap bytes_eq s t u ≡ u
    stays u n e =
        swap_other bytes_eq text_test s t u
        (λ q. let found : Some n ≡ None = sym e ∙ ap (number_by ks) q ∙ old in cc)
        (λ q. let found : Some n ≡ None = sym e ∙ ap (number_by ks) q ∙ new in cc)

-- ---- numbers

pub same_name : (m n : CellName) → m.number ≡ n.number → m ≡ n
same_name m n e = ap (λ x. let c : CellName = record { number = x } in c) e

pub number_test : IsTest (λ (m n : CellName). m.number == n.number)
number_test = record { same = λ x. eq-eqb x.number x.number refl; one = λ x y e. same_name x y (eqb-true x.number y.number e) }

pub number_other : (a b n : CellName) → (n ≡ a → ⊥) → (n ≡ b → ⊥) → swapped a b n ≡ n
number_other a b n p q = swap_other (λ (m k : CellName). m.number == k.number) number_test a b n p q

pub one_first : (a b : CellName) → swapped_one a b a ≡ b
one_first a b = elim (cases_Bool (a.number == b.number)) [ inl q ↦ rw q (same_name a b (eqb-true a.number b.number q)) | inr q ↦ rw (q, eq-eqb a.number a.number refl) ]

pub one_other : (a b n : CellName) → (n ≡ a → ⊥) → (n ≡ b → ⊥) → swapped_one a b n ≡ n
one_other a b n x y = elim (cases_Bool (a.number == b.number)) [ inl q ↦ rw q | inr q ↦ rw q (number_other a b n x y) ]

-- a reading that reads a number as a text that is new fits names still when the number and one that isn't known are exchanged
pub exchange_fits : (ks : List Known) (t : List ℕ) (s n : CellName) (f : Reading) → number_by ks t ≡ None → ((u : List ℕ) (m : ℕ) → number_by ks u ≡ Some m → m ≡ s.number → ⊥) → f n ≡ t → Fits ks f → Fits ks (exchanged s n f)
exchange_fits ks t s n f new apart reads fits = record {
  reads = record { once = λ a b e. sym (back a) ∙ ap (swapped s n) (fits.reads.once (swapped s n a) (swapped s n b) e) ∙ back b; texts = λ b. stays (text_of b) (place_of b) (built_known ks b) };
  texts = stays;
}
  where
    back : (c : CellName) → swapped s n (swapped s n c) ≡ c
    back c = swap_back (λ (m k : CellName). m.number == k.number) number_test s n c

    stays : (u : List ℕ) (m : ℕ) → number_by ks u ≡ Some m → f (swapped s n (record { number = m })) ≡ u
    stays u m e =
        let own = fits.texts u m e in
        ap f (number_other s n (record { number = m })
        (λ q. apart u m e (ap (λ (c : CellName). c.number) q))
        (λ q. let found : Some m ≡ None = sym e ∙ ap (number_by ks) (sym own ∙ ap f q ∙ reads) ∙ new in cc)) ∙ own

-- ---- many numbers that stand for one another

-- ---- a renaming that changes nothing

map_same : {A : Type 0} (g : A → A) (l : List A) → ((x : A) → g x ≡ x) → map g l ≡ l
map_same g [] e = refl
map_same g (x ∷ xs) e = ap₂ (λ y ys. y ∷ ys) (e x) (map_same g xs e)

cell_same : (g : CellName → CellName) → ((n : CellName) → g n ≡ n) → (x : Cell CellName) → cell_renamed g x ≡ x
cell_same g e (Atom a) = let f : CellName → Cell CellName = λ n. Atom n in ap f (e a)
cell_same g e _ = refl

pub held_same : (g : CellName → CellName) → ((n : CellName) → g n ≡ n) → (h : Held CellName) → held_renamed g h ≡ h
held_same g e h =
    let make : List (Shape CellName) → List (Binding CellName) → Held CellName = λ ss bs. record { variables = h.variables; structures = ss; bindings = bs } in
    let shape : CellName → List (Cell CellName) → Shape CellName = λ n xs. record { name = n; arguments = xs } in
    let cells = cell_same g e in
    let shapes : (s : Shape CellName) → shape_renamed g s ≡ s = λ s. ap₂ shape (e s.name) (map_same (cell_renamed g) s.arguments cells) in
    let bindings : (b : Binding CellName) → binding_renamed g b ≡ b = λ b. let bind : Cell CellName → Binding CellName = λ x. record { variable = b.variable; value = x } in ap bind (cells b.value) in
    ap₂ make (map_same (shape_renamed g) h.structures shapes) (map_same (binding_renamed g) h.bindings bindings)

-- ---- many exchanges

-- one exchange more
pub swapped_more : (ss ns : List CellName) (i : ℕ) (c d e : CellName) → i < length ss → length ns ≡ length ss → swapped_one (get_or ss i d) (get_or ns i e) (swapped_all (take i ss) (take i ns) c) ≡ swapped_all (take (suc i) ss) (take (suc i) ns) c
swapped_more (t ∷ ss) (m ∷ ns) zero c d e w l = refl
swapped_more (t ∷ ss) (m ∷ ns) (suc i) c d e w l = swapped_more ss ns i (swapped_one t m c) d e (omega (arith, w)) (omega (arith, l))
swapped_more _ _ i c d e w l = absurd (omega (arith, w, l))

-- ---- numbers that no exchange changes

touched_more : (ss ns : List CellName) (i : ℕ) (d e : CellName) → i < length ss → length ns ≡ length ss → touched (take (suc i) ss) (take (suc i) ns) ≡ touched (take i ss) (take i ns) ++ pair_of (get_or ss i d) (get_or ns i e)
touched_more (s ∷ ss) (n ∷ ns) zero d e w l = append-nil (pair_of s n)
touched_more (s ∷ ss) (n ∷ ns) (suc i) d e w l =
    ap (λ r. pair_of s n ++ r) (touched_more ss ns i d e (omega (arith, w)) (omega (arith, l)))
    ∙ sym (append_assoc (pair_of s n) (touched (take i ss) (take i ns)) (pair_of (get_or ss i d) (get_or ns i e)))
touched_more _ _ i d e w l = absurd (omega (arith, w, l))

-- a turn of a loop: one pair more
pub touched_next : (ss ns : List CellName) (i : ℕ) (d e : CellName) (row now : List ℕ) → i < length ss → length ns ≡ length ss → row ≡ touched (take i ss) (take i ns) → now ≡ row ++ pair_of (get_or ss i d) (get_or ns i e) → now ≡ touched (take (i + 1) ss) (take (i + 1) ns)
touched_next ss ns i d e row now w l is pushed =
    pushed
    ∙ ap (λ r. r ++ pair_of (get_or ss i d) (get_or ns i e)) is
    ∙ sym (ap (λ m. touched (take m ss) (take m ns)) (add-one i) ∙ touched_more ss ns i d e w l)

-- a number that isn't one of two, if they are two
not_one : (s n c : CellName) → (Contains (pair_of s n) c.number → ⊥) → swapped_one s n c ≡ c
not_one s n c none = elim (cases_Bool (s.number == n.number)) [
  | inl q ↦ rw q
  | inr q ↦
      let apart : Contains (s.number ∷ n.number ∷ []) c.number → ⊥ = rw q at none in
      one_other s n c (λ e. apart (0, omega arith, sym (ap (λ (x : CellName). x.number) e))) (λ e. apart (1, omega arith, sym (ap (λ (x : CellName). x.number) e)))
]

-- what isn't among the numbers that can change stays
untouched : (ss ns : List CellName) (c : CellName) → (Contains (touched ss ns) c.number → ⊥) → swapped_all ss ns c ≡ c
untouched (s ∷ ss) (n ∷ ns) c h =
    ap (swapped_all ss ns) (not_one s n c (λ t. h (Contains-append_left (pair_of s n) (touched ss ns) c.number t)))
    ∙ untouched ss ns c (λ t. h (Contains-append_right (pair_of s n) (touched ss ns) c.number t))
untouched _ _ c h = refl

-- nor does what isn't in a row of them
pub not_in_row : (ss ns : List CellName) (row : List ℕ) (c : CellName) → IsRowOf ss ns row → (Contains row c.number → ⊥) → c ≡ swapped_all ss ns c
not_in_row ss ns row c r none = sym (untouched ss ns c (r.others c.number none))

-- if no number can change, nothing that is held does
pub none_exchanged : (ss ns : List CellName) (row : List ℕ) (h : Held CellName) → length row ≡ 0 → IsRowOf ss ns row → h ≡ held_exchanged ss ns h
none_exchanged ss ns row h empty r =
    let absent : (n : ℕ) → Contains row n → ⊥ = λ n t. omega (arith, t.1, empty) in
    sym (held_same (swapped_all ss ns) (λ c. sym (not_in_row ss ns row c r (absent c.number))) h)

-- numbers in order, of what they were in
pub row_sorted : (ss ns : List CellName) (given sorted : List ℕ) → given ≡ touched ss ns → IsPermutation given sorted → IsNonDecreasing sorted → IsRowOf ss ns sorted
row_sorted ss ns given sorted is moved up =
    let all : (n : ℕ) → Contains (touched ss ns) n → Contains sorted n = subst (λ l. (n : ℕ) → Contains l n → Contains sorted n) is (λ n t. Contains-permutation given sorted n moved t) in
    record { rises = λ i j a b. up i j 0 a b; others = λ n none t. none (all n t) }

-- ---- a search among them

-- a number that wasn't found isn't there
pub not_found : (xs : List ℕ) (x : ℕ) (r : Result ℕ ℕ) → MatchResult r (λ i. (i < length xs) × (get_or xs i 0 ≡ x)) (λ i. (i ≤ length xs) × ((k : ℕ) → k < i → get_or xs k 0 < x) × ((k : ℕ) → i ≤ k → k < length xs → x < get_or xs k 0)) →
    is_ok r ≡ false → Contains xs x → ⊥
not_found xs x (Ok i) m e c = absurd (cc)
not_found xs x (Err i) m e c =
    let at : get_or xs c.0 0 ≡ x = get_or_default xs c.0 0 x c.1 ∙ c.2 in
    elim (cases_lt c.0 i) [ inl a ↦ omega (arith, at, m.1 c.0 a) | inr a ↦ omega (arith, at, m.2 c.0 a c.1) ]

-- ---- sizes stay

pub exchanged_variables : (ss ns : List CellName) (h : Held CellName) → (held_exchanged ss ns h).variables ≡ h.variables
exchanged_variables ss ns h = refl

-- a cell of a store is of one of the same sizes
pub in_same : (ss ns : List CellName) (h : Held CellName) (x : Cell CellName) → IsIn h x → IsIn (held_exchanged ss ns h) x
in_same ss ns h (Structure n) i = omega (arith, i, length-map h.structures (shape_renamed (swapped_all ss ns)))
in_same ss ns h _ i = i

-- ---- what cells mean

-- a cell that is no atom
abbrev pub IsNoAtom : Cell CellName → Type 0
IsNoAtom (Atom a) = ⊥
IsNoAtom _ = Unit {0}

cell_stays : (g : CellName → CellName) (x : Cell CellName) → IsNoAtom x → cell_renamed g x ≡ x
cell_stays g (Atom a) n = absurd n
cell_stays g _ n = refl

pub no_atom_means : (f : Reading) (ss ns : List CellName) (h : Held CellName) (x : Cell CellName) → IsNoAtom x → term_of f (held_exchanged ss ns h) x ≡ term_of (read_exchanged ss ns f) h x
no_atom_means f ss ns h x n = ap (term_of f (held_exchanged ss ns h)) (sym (cell_stays (swapped_all ss ns) x n)) ∙ term_of-renamed f (swapped_all ss ns) h x

-- ---- rows with spare numbers

-- one name more
spared_push : (names : List Known) (place n : ℕ) (ts : List (List ℕ)) (cs : List CellName) (t : List ℕ) (c : CellName) → AreSpared names place ts cs → n ≡ place + length ts → IsSpared names n t c → AreSpared names place (ts ++ t ∷ []) (cs ++ c ∷ [])
spared_push names place n [] [] t c a e s = (let is : n ≡ place = omega (arith, e) in subst (λ m. IsSpared names m t c) is s, tt)
spared_push names place n (u ∷ ts) (d ∷ cs) t c a e s = (a.0, spared_push names (suc place) n ts cs t c a.1 (omega (arith, e)) s)
spared_push names place n _ _ t c a e s = absurd a

-- there are as many numbers as names
pub spared_count : (names : List Known) (place : ℕ) (ts : List (List ℕ)) (cs : List CellName) → AreSpared names place ts cs → length cs ≡ length ts
spared_count names place [] [] a = refl
spared_count names place (t ∷ ts) (c ∷ cs) a = ap suc (spared_count names (suc place) ts cs a.1)
spared_count names place _ _ a = absurd a

-- a turn of a loop over the names
pub spared_next : (names : List Known) (texts : List (List ℕ)) (i : ℕ) (row : List CellName) (t : List ℕ) (c : CellName) → i < length texts → t ≡ get_or texts i t → IsSpared names i t c → AreSpared names 0 (take i texts) row → AreSpared names 0 (take (i + 1) texts) (row ++ c ∷ [])
spared_next names texts i row t c within is one all =
    subst (λ ts. AreSpared names 0 ts (row ++ c ∷ [])) (sym (next_take texts i t within is)) (spared_push names 0 i (take i texts) row t c all (omega (arith, within, length-take i texts)) one)
