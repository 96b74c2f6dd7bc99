-- Patterns beside walked cells.
use Rattle.std.proofs.Common.{◌≡◌, ℕ, zero, suc, ◌+◌, ◌<◌, ◌≤◌, arith, inl, inr, take, drop, append_assoc, ◌==◌, ◌&&◌, Bool, true, false, List, [], ◌∷◌, ◌++◌, length, length-append, length-drop, refl, sym, ap, ◌∙◌, subst, ℤ}
use Rattle.std.specs.Prelude.{Some, slice_get, bytes_eq}
use Rattle.std.specs.Ordering.{int_eq}
use Rattle.std.proofs.lemmas.List.{append-nil, map-append, drop_all, length-take-le}
use Rattle.std.proofs.lemmas.Slice.Eq.{bytes_eq-Decides}
use Rattle.std.proofs.lemmas.Bool.{ne_eqb, eq-eqb, cond-true, cond-false, false_from_ne_true, and_left, and_right, and_from}
use Rattle.std.proofs.lemmas.Bool.Decides.{Decides-int_eq}
use Rattle.kl1_model.specs.declared.built_in.BuiltIn.{BuiltIn}
use Rattle.kl1_model.specs.Term.{Term, variable, integer, atom, structure, Terms, none, more, count_of}
use Rattle.kl1_model.specs.Answer.{Answer, yes, no, known}
use Rattle.kl1_model.specs.Match.{with_answer, match_pattern, match_patterns}
use Rattle.kl1_text.specs.Reading.{Reads}
use Rattle.kl1_store.specs.declared.cell.Cell.{Cell}
use Rattle.kl1_store.specs.declared.cell.Cell.TheVariants.{Variable, Integer, Atom, Structure}
use Rattle.kl1_store.specs.Held.{Held, IsIn, IsWalked, arguments_of}
use Rattle.kl1_store.specs.Meaning.{term_of, terms_of}
use Rattle.kl1_store.specs.Places.{all_arguments}
use Rattle.kl1_store.specs.Sound.{IsFormed}
use Rattle.kl1_store.proofs.Terms.{term_of-Integer, term_of-Atom, term_of-Structure, term_of-unbound}
use Rattle.kl1_store.proofs.Meetings.{named, count_of-terms_of}
use Rattle.kl1_model.specs.code.TermCode.{NodeCode, nodes_of, nodes_of_all}
use Rattle.kl1_match.specs.declared.place.Place.{Place}
use Rattle.kl1_match.specs.Instances.{AreThere, replacement_of, replacements_of}
use Rattle.kl1_match.specs.declared.span.Span.{Span}
use Rattle.kl1_match.specs.Spans.{span_cells, cells_behind, cells_left, IsSpan, AreSpans}
use Rattle.kl1_match.specs.Matching.{joined, IsOpened, Stays, Begins, GoesInto}
use Rattle.kl1_match.specs.Verdicts.{arguments_of_goal}

pub at_variable : {N : Type 0} (f : N → List ℕ) (h : Held N) (x : Cell N) (v : ℕ) → x ≡ Variable v → IsWalked h x → term_of f h x ≡ variable v
at_variable {N = N} f h x v e walked = let W : Cell N → Type 0 = λ c. IsWalked h c in ap (term_of f h) e ∙ term_of-unbound f h v (subst W e walked)

pub at_integer : {N : Type 0} (f : N → List ℕ) (h : Held N) (x : Cell N) (i : ℤ) → x ≡ Integer i → term_of f h x ≡ integer i
at_integer f h x i e = ap (term_of f h) e ∙ term_of-Integer f h i

pub at_atom : {N : Type 0} (f : N → List ℕ) (h : Held N) (x : Cell N) (a : N) → x ≡ Atom a → term_of f h x ≡ atom (f a)
at_atom f h x a e = ap (term_of f h) e ∙ term_of-Atom f h a

-- a structure with some name
pub record IsStructure (t : Term) : Type 0 where
  pub name : List ℕ
  pub arguments : Terms
  pub is : t ≡ structure name arguments

pub at_structure : {N : Type 0} (f : N → List ℕ) (h : Held N) (x : Cell N) (s : ℕ) → IsFormed h → x ≡ Structure s → IsIn h x → IsStructure (term_of f h x)
at_structure {N = N} f h x s p e inside =
    let I : Cell N → Type 0 = λ c. IsIn h c in
    let r = named h s (subst I e inside) in
    record { name = f r.0; arguments = terms_of f h (arguments_of h s); is = ap (term_of f h) e ∙ term_of-Structure f h s r.0 p r.1 }

pub names_same : {N : Type 0} (f : N → List ℕ) (a b : N) → a ≡ b → bytes_eq (f a) (f b) ≡ true
names_same f a b e = (bytes_eq-Decides (f a) (f b)).1 (ap f e)

pub names_differ : {N : Type 0} (built : BuiltIn → N) (f : N → List ℕ) (a b : N) → Reads built f → (a ≡ b → ⊥) → bytes_eq (f a) (f b) ≡ false
names_differ built f a b reads ne = false_from_ne_true (bytes_eq (f a) (f b)) (λ e. ne (reads.once a b ((bytes_eq-Decides (f a) (f b)).0 e)))

pub integers_agree : (i j : ℤ) → i ≡ j → match_pattern (integer i) (integer j) ≡ with_answer yes
integers_agree i j e = ap (λ b. with_answer (known b)) ((Decides-int_eq i j).1 e)

pub integers_clash : (i j : ℤ) → (i ≡ j → ⊥) → match_pattern (integer i) (integer j) ≡ with_answer no
integers_clash i j ne = ap (λ b. with_answer (known b)) (false_from_ne_true (int_eq i j) (λ e. ne ((Decides-int_eq i j).0 e)))

-- a structure as a pattern beside what is no structure
pub stays : {N : Type 0} (built : BuiltIn → N) (h : Held N) (name : N) (count : ℕ) (x : Cell N) (cells : List (Cell N)) (outcome : _) →
    ((f : N → List ℕ) → Reads built f → (ps : Terms) → count_of ps ≡ count → match_pattern (structure (f name) ps) (term_of f h x) ≡ with_answer outcome) → Stays built h name count x cells cells outcome
stays built h name count x cells outcome matched = record { cells_are = refl; matched = matched }

both_same : (b : Bool) (m n : ℕ) → b ≡ true → m ≡ n → (b && m == n) ≡ true
both_same b m n e same = and_from b (m == n) e (eq-eqb m n same)

pub terms_of-joined : {N : Type 0} (f : N → List ℕ) (h : Held N) (xs ys : List (Cell N)) → terms_of f h (xs ++ ys) ≡ joined (terms_of f h xs) (terms_of f h ys)
unfolding terms_of
terms_of-joined f h [] ys = refl
terms_of-joined f h (x ∷ xs) ys = ap (more (term_of f h x)) (terms_of-joined f h xs ys)

pub opened : {N : Type 0} (f : N → List ℕ) (h : Held N) (name called : N) (count s : ℕ) (x : Cell N) (cells now : List (Cell N)) →
    IsFormed h → x ≡ Structure s → slice_get h.structures s ≡ Some (record { name = called; arguments = arguments_of h s }) →
    length (arguments_of h s) ≡ count → name ≡ called → now ≡ arguments_of h s ++ cells → IsOpened f h name count (term_of f h x) cells now
opened {N = N} f h name called count s x cells now p e at counted same is =
    let us = terms_of f h (arguments_of h s) in
    let number : count_of us ≡ count = count_of-terms_of f h (arguments_of h s) ∙ counted in
    record {
      arguments = us;
      counted = number;
      matched = λ ps c.
          ap (match_pattern (structure (f name) ps)) (ap (term_of f h) e ∙ term_of-Structure f h s called p at)
          ∙ cond-true (bytes_eq (f name) (f called) && count_of ps == count_of us) (match_patterns ps us) (with_answer no)
          (both_same (bytes_eq (f name) (f called)) (count_of ps) (count_of us) (names_same f name called same) (c ∙ sym number));
      cells_are = ap (terms_of f h) is ∙ terms_of-joined f h (arguments_of h s) cells;
    }

pub name_clashes : {N : Type 0} (built : BuiltIn → N) (f : N → List ℕ) (h : Held N) (name called : N) (s : ℕ) (x : Cell N) (ps : Terms) → Reads built f →
    IsFormed h → x ≡ Structure s → slice_get h.structures s ≡ Some (record { name = called; arguments = arguments_of h s }) →
    (name ≡ called → ⊥) → match_pattern (structure (f name) ps) (term_of f h x) ≡ with_answer no
name_clashes built f h name called s x ps reads p e at ne =
    let us = terms_of f h (arguments_of h s) in
    ap (match_pattern (structure (f name) ps)) (ap (term_of f h) e ∙ term_of-Structure f h s called p at)
    ∙ cond-false (bytes_eq (f name) (f called) && count_of ps == count_of us) (match_patterns ps us) (with_answer no)
    (and_left (bytes_eq (f name) (f called)) (count_of ps == count_of us) (names_differ built f name called reads ne))

pub count_clashes : {N : Type 0} (f : N → List ℕ) (h : Held N) (name called : N) (count s : ℕ) (x : Cell N) (ps : Terms) → count_of ps ≡ count →
    IsFormed h → x ≡ Structure s → slice_get h.structures s ≡ Some (record { name = called; arguments = arguments_of h s }) →
    (length (arguments_of h s) ≡ count → ⊥) → match_pattern (structure (f name) ps) (term_of f h x) ≡ with_answer no
count_clashes f h name called count s x ps counted p e at ne =
    let us = terms_of f h (arguments_of h s) in
    ap (match_pattern (structure (f name) ps)) (ap (term_of f h) e ∙ term_of-Structure f h s called p at)
    ∙ cond-false (bytes_eq (f name) (f called) && count_of ps == count_of us) (match_patterns ps us) (with_answer no)
    (and_right (bytes_eq (f name) (f called)) (count_of ps == count_of us) (ne_eqb (count_of ps) (count_of us) (λ q. ne (sym (count_of-terms_of f h (arguments_of h s)) ∙ sym q ∙ counted))))

-- ---- the arguments of a goal

some_same : {A : Type 0} {x y : A} → Some x ≡ Some y → x ≡ y
some_same p = cc

at_next : {A : Type 0} (xs : List A) (next end : ℕ) (x : A) → next < end → slice_get xs next ≡ Some x → drop next (take end xs) ≡ x ∷ drop (suc next) (take end xs)
at_next [] next end x lt e = absurd (cc)
at_next (y ∷ xs) next zero x lt e = absurd (omega (arith, lt))
at_next (y ∷ xs) zero (suc end) x lt e = ap (λ z. z ∷ take end xs) (some_same e)
at_next (y ∷ xs) (suc next) (suc end) x lt e = at_next xs next end x (omega (arith, lt)) e

-- the next cell of a row is taken
pub taken_next : {N : Type 0} (h : Held N) (span after : Span) (x : Cell N) → span.next < span.end → slice_get (all_arguments h) span.next ≡ Some x → after ≡ record span { next = span.next + 1 } →
    span_cells h span ≡ x ∷ span_cells h after
taken_next h span after x lt at e =
    let one : suc span.next ≡ span.next + 1 = omega arith in
    at_next (all_arguments h) span.next span.end x lt at ∙ ap (λ n. x ∷ drop n (take span.end (all_arguments h))) one
    ∙ ap (λ s. x ∷ span_cells h s) (sym e)

cells_behind-append : {N : Type 0} (h : Held N) (ss : List Span) (s : Span) → cells_behind h (ss ++ s ∷ []) ≡ span_cells h s ++ cells_behind h ss
cells_behind-append h [] s = sym (append-nil (span_cells h s))
cells_behind-append h (t ∷ ss) s = ap (λ l. l ++ span_cells h t) (cells_behind-append h ss s) ∙ append_assoc (span_cells h s) (cells_behind h ss) (span_cells h t)

pub no_cells : {N : Type 0} (h : Held N) (span : Span) → IsSpan h span → span.end ≤ span.next → span_cells h span ≡ []
no_cells h span within le = drop_all span.next (take span.end (all_arguments h)) (omega (arith, le, length-take-le span.end (all_arguments h) within))

-- if a row has no cell, the last one after it goes before the others
pub no_next : {N : Type 0} (h : Held N) (span outer : Span) (behind rest : List Span) → IsSpan h span → span.end ≤ span.next → behind ≡ rest ++ outer ∷ [] → cells_left h span behind ≡ cells_left h outer rest
no_next h span outer behind rest within le e =
    ap (λ l. l ++ cells_behind h behind) (no_cells h span within le) ∙ ap (cells_behind h) e ∙ cells_behind-append h rest outer

pub cells_there : {N : Type 0} (h : Held N) (span : Span) (behind : List Span) → IsSpan h span → span.next < span.end → cells_left h span behind ≡ [] → ⊥
cells_there h span behind within lt e =
    omega (arith, lt, ap length e, length-append (span_cells h span) (cells_behind h behind), length-drop span.next (take span.end (all_arguments h)), length-take-le span.end (all_arguments h) within)

pub AreSpans-push : {N : Type 0} (h : Held N) (ss : List Span) (s : Span) → AreSpans h ss → IsSpan h s → AreSpans h (ss ++ s ∷ [])
AreSpans-push h [] s p q = (q, tt)
AreSpans-push h (t ∷ ss) s p q = (p.0, AreSpans-push h ss s p.1 q)

pub AreSpans-pop : {N : Type 0} (h : Held N) (all ss : List Span) (s : Span) → all ≡ ss ++ s ∷ [] → AreSpans h all → AreSpans h ss × IsSpan h s
AreSpans-pop {N = N} h all ss s e p = let P : List Span → Type 0 = λ l. AreSpans h l in parts ss (subst P e p)
  where
    parts : (ts : List Span) → AreSpans h (ts ++ s ∷ []) → AreSpans h ts × IsSpan h s
    parts [] q = (tt, q.0)
    parts (t ∷ ts) q = let r = parts ts q.1 in ((q.0, r.0), r.1)

-- all the arguments of a structure, before the cells that were left
pub put_before : {N : Type 0} (h : Held N) (span inner : Span) (behind now : List Span) (s : ℕ) → span_cells h inner ≡ arguments_of h s → now ≡ behind ++ span ∷ [] →
    cells_left h inner now ≡ arguments_of h s ++ cells_left h span behind
put_before h span inner behind now s e is =
    ap (λ l. l ++ cells_behind h now) e
    ∙ ap (λ l. arguments_of h s ++ l) (ap (cells_behind h) is ∙ cells_behind-append h behind span)

-- what a goal means that a cell stands for
pub goal_at : {N : Type 0} (f : N → List ℕ) (h : Held N) (goal x : Cell N) (t : Term) → term_of f h x ≡ term_of f h goal → term_of f h x ≡ t → arguments_of_goal t ≡ arguments_of_goal (term_of f h goal)
goal_at f h goal x t e is = ap arguments_of_goal (sym is ∙ e)

pub no_arguments : {N : Type 0} (f : N → List ℕ) (h : Held N) (cells : List (Cell N)) → cells ≡ [] → terms_of f h cells ≡ none
unfolding terms_of
no_arguments f h cells e = ap (λ l. terms_of f h l) e

pub goal_arguments : {N : Type 0} (f : N → List ℕ) (h : Held N) (goal x : Cell N) (s : ℕ) (cells : List (Cell N)) → IsFormed h → IsIn h x → x ≡ Structure s → term_of f h x ≡ term_of f h goal →
    cells ≡ arguments_of h s → terms_of f h cells ≡ arguments_of_goal (term_of f h goal)
goal_arguments {N = N} f h goal x s cells p inside e means are =
    let I : Cell N → Type 0 = λ c. IsIn h c in
    let r = named h s (subst I e inside) in
    ap (terms_of f h) are
    ∙ ap arguments_of_goal (sym (ap (term_of f h) e ∙ term_of-Structure f h s r.0 p r.1) ∙ means)

-- ---- the outcomes of a structure as a pattern

pub structure_beside : {N : Type 0} (built : BuiltIn → N) (h : Held N) (name : N) (count : ℕ) (x : Cell N) (cells now : List (Cell N)) (outcome : Answer) → now ≡ cells →
    ((f : N → List ℕ) → Reads built f → (ps : Terms) → count_of ps ≡ count → match_pattern (structure (f name) ps) (term_of f h x) ≡ with_answer outcome) → Stays built h name count x cells now outcome
structure_beside built h name count x cells now outcome e matched = record { cells_are = e; matched = matched }

-- ---- instructions

pub code_same : {A : Type 0} {x y : A} {xs ys : List A} → x ∷ xs ≡ y ∷ ys → x ≡ y
code_same e = cc

-- a pattern that begins with the node of a variable
pub takes_place : {N : Type 0} (f : N → List ℕ) (h : Held N) (v : ℕ) (x : Cell N) (p : Term) (cells : List (Cell N)) (places longer : List (Place N)) → Begins (inl (inl v)) p →
    longer ≡ places ++ record { variable = v; cell = x } ∷ [] → GoesInto f h (inl (inl v)) p (term_of f h x) cells cells places longer
takes_place {N = N} f h v x (variable w) cells places longer b e =
    let same : v ≡ w = number (code_same b.nodes) in
    let P : ℕ → Type 0 = λ n. GoesInto f h (inl (inl v)) (variable n) (term_of f h x) cells cells places longer in
    subst P same (record {
      inner = none;
      arguments = none;
      taken = record { number = v; by = term_of f h x } ∷ [];
      nodes = refl;
      counted = refl;
      matched = refl;
      cells_are = refl;
      places_are = ap (replacements_of f h) e ∙ map-append (replacement_of f h) places (record { variable = v; cell = x } ∷ []);
    })
  where
    number : {v w : ℕ} → (let c : NodeCode = inl (inl w) in c) ≡ inl (inl v) → v ≡ w
    number e = cc
takes_place f h v x (integer i) cells places longer b e = absurd (cc b.nodes)
takes_place f h v x (atom a) cells places longer b e = absurd (cc b.nodes)
takes_place f h v x (structure g us) cells places longer b e = absurd (cc b.nodes)

-- a pattern that begins with the node of an integer is that integer
pub is_integer : (i : ℤ) (p : Term) → Begins (inl (inr i)) p → p ≡ integer i
is_integer i (variable w) b = absurd (cc b.nodes)
is_integer i (integer j) b = cc b.nodes
is_integer i (atom a) b = absurd (cc b.nodes)
is_integer i (structure g us) b = absurd (cc b.nodes)

pub is_atom : (a : List ℕ) (p : Term) → Begins (inr (inl a)) p → p ≡ atom a
is_atom a (variable w) b = absurd (cc b.nodes)
is_atom a (integer j) b = absurd (cc b.nodes)
is_atom a (atom c) b = cc b.nodes
is_atom a (structure g us) b = absurd (cc b.nodes)

-- a pattern that begins with the node of a structure
pub record IsCalled (g : List ℕ) (n : ℕ) (p : Term) : Type 0 where
  pub arguments : Terms
  pub counted : count_of arguments ≡ n
  pub is : p ≡ structure g arguments

pub is_structure : (g : List ℕ) (n : ℕ) (p : Term) → Begins (inr (inr (g, n))) p → IsCalled g n p
is_structure g n (variable w) b = absurd (cc b.nodes)
is_structure g n (integer j) b = absurd (cc b.nodes)
is_structure g n (atom c) b = absurd (cc b.nodes)
is_structure g n (structure k us) b =
    let e = code_same b.nodes in
    record { arguments = us; counted = ap number_in e; is = ap (λ l. structure l us) (ap name_of e) }
  where
    number_in : NodeCode → ℕ
    number_in (inl y) = 0
    number_in (inr (inl a)) = 0
    number_in (inr (inr q)) = q.1

    name_of : NodeCode → List ℕ
    name_of (inl y) = []
    name_of (inr (inl a)) = []
    name_of (inr (inr q)) = q.0

-- a pattern without arguments agrees
pub agrees_alone : {N : Type 0} (f : N → List ℕ) (h : Held N) (c : NodeCode) (p q t : Term) (cells : List (Cell N)) (places : List (Place N)) →
    p ≡ q → nodes_of q ≡ c ∷ [] → match_pattern q t ≡ with_answer yes → GoesInto f h c p t cells cells places places
agrees_alone {N = N} f h c p q t cells places e nodes m =
    let P : Term → Type 0 = λ r. GoesInto f h c r t cells cells places places in
    subst P (sym e) (record {
      inner = none;
      arguments = none;
      taken = [];
      nodes = nodes;
      counted = refl;
      matched = m;
      cells_are = refl;
      places_are = sym (append-nil (replacements_of f h places));
    })

-- a structure as a pattern agrees if its arguments do
pub agrees_inside : {N : Type 0} (f : N → List ℕ) (h : Held N) (name : N) (g : List ℕ) (n : ℕ) (p t : Term) (cells now : List (Cell N)) (places : List (Place N)) →
    f name ≡ g → Begins (inr (inr (g, n))) p → IsOpened f h name n t cells now → GoesInto f h (inr (inr (g, n))) p t cells now places places
agrees_inside {N = N} f h name g n p t cells now places same b o =
    let r = is_structure g n p b in
    let P : Term → Type 0 = λ q. GoesInto f h (inr (inr (g, n))) q t cells now places places in
    let Q : ℕ → Type 0 = λ m. (nodes_of (structure g r.arguments) ≡ inr (inr (g, m)) ∷ nodes_of_all r.arguments) in
    let S : List ℕ → Type 0 = λ l. match_pattern (structure l r.arguments) t ≡ match_patterns r.arguments o.arguments in
    subst P (sym r.is) (record {
      inner = r.arguments;
      arguments = o.arguments;
      taken = [];
      nodes = subst Q r.counted refl;
      counted = r.counted ∙ sym o.counted;
      matched = subst S same (o.matched r.arguments r.counted);
      cells_are = o.cells_are;
      places_are = sym (append-nil (replacements_of f h places));
    })

pub stays_outside : {N : Type 0} (f : N → List ℕ) (name : N) (g : List ℕ) (n : ℕ) (p t : Term) (outcome : Answer) → f name ≡ g → Begins (inr (inr (g, n))) p →
    ((ps : Terms) → count_of ps ≡ n → match_pattern (structure (f name) ps) t ≡ with_answer outcome) → match_pattern p t ≡ with_answer outcome
stays_outside f name g n p t outcome same b m =
    let r = is_structure g n p b in
    let S : List ℕ → Type 0 = λ l. match_pattern (structure l r.arguments) t ≡ with_answer outcome in
    ap (λ q. match_pattern q t) r.is ∙ subst S same (m r.arguments r.counted)

pub AreThere-push : {N : Type 0} (h : Held N) (ps : List (Place N)) (p : Place N) → AreThere h ps → IsIn h p.cell → AreThere h (ps ++ p ∷ [])
AreThere-push h [] p q r = (r, tt)
AreThere-push h (k ∷ ps) p q r = (q.0, AreThere-push h ps p q.1 r)
