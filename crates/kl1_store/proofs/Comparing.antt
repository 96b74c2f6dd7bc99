-- Comparing two cells, one turn after another.
use Rattle.std.proofs.Common.{◌≡◌, ℕ, zero, suc, ◌<◌, ◌≤◌, ◌⊎◌, inl, inr, cond, ◌==◌, ◌&&◌, ◌||◌, Bool, true, false, if◌then◌else◌, List, [], ◌∷◌, ◌++◌, length, drop, refl, sym, ap, ◌∙◌, arith, subst, append_assoc, length-append}
use Rattle.std.specs.Prelude.{bytes_eq, nat_eq, Option, Some}
use Rattle.std.specs.Cmp.Lexicographic.{pointwise, bytes_decides}
use Rattle.std.specs.Ordering.{int_eq}
use Rattle.std.proofs.lemmas.List.{append-nil}
use Rattle.std.proofs.lemmas.Bool.{false≢true, cond-true, cond-false, ne_eqb, eq-eqb, not_from_false, or_right, or_from, and_from}
use Rattle.std.proofs.lemmas.Slice.Eq.{bytes_eq-Decides}
use Rattle.kl1_model.specs.declared.built_in.BuiltIn.{BuiltIn}
use Rattle.kl1_model.specs.Term.{Term, variable, integer, atom, structure, Terms, none, more, count_of, size}
use Rattle.kl1_model.specs.Unify.{Equation, remains, conflicts, transformed, argument_equations, equations_size}
use Rattle.kl1_model.specs.code.Comparing.{clash, any_clash, awaited, all_awaited}
use Rattle.kl1_model.proofs.Clashes.{no_clash}
use Rattle.kl1_text.specs.Reading.{Reads}
use Rattle.kl1_store.specs.declared.cell.Cell.{Cell}
use Rattle.kl1_store.specs.declared.cell.Cell.TheVariants.{Variable, Structure}
use Rattle.kl1_store.specs.declared.frame.Frame.{Frame}
use Rattle.kl1_store.specs.declared.meeting.Meeting.TheVariants.{Clash}
use Rattle.kl1_store.specs.Held.{Held, IsIn, IsWalked, arguments_of}
use Rattle.kl1_store.specs.Meaning.{term_of, terms_of, unread}
use Rattle.kl1_store.specs.Sound.{IsFormed}
use Rattle.kl1_store.specs.Value.{IsNoVariable}
use Rattle.kl1_store.specs.Waiting.{rest_of, waiting, IsPair, ArePairs, IsTurn}
use Rattle.kl1_store.specs.Onward.{onward}
use Rattle.kl1_store.specs.Meets.{MeetsAs, Opens}
use Rattle.kl1_store.specs.Compares.{clash_among, awaited_among, Compares, Compared, LooksDone, LooksOpen}
use Rattle.kl1_store.specs.Nested.{Alike, Under, Expects, structure_term, argument_terms}
use Rattle.kl1_store.specs.Done.{IsOf, IsDone, is_among, EachDone, AreDone, IsKnown, MayHave}
use Rattle.kl1_store.proofs.Terms.{term_of-Structure, term_of-unbound}
use Rattle.kl1_store.proofs.Meetings.{named, term_kind, kind_kept, no_variable, count_of-terms_of}
use Rattle.kl1_store.proofs.Advancing.{work, waiting-push, ArePairs-push, turn_waiting, arguments_size, Reaches, closed_at, closed_waiting, pair_popped, onward_pushed}
use Rattle.kl1_store.proofs.Nesting.{Changes, expected_done, expected_opens, expected_changed, under_turn, under_top, under_pop}
use Rattle.kl1_store.proofs.Equalling.{argument_read}

mutual
  pub awaited_self : (t : Term) → awaited t t ≡ []
  awaited_self (variable v) = cond-true (v == v) [] (v ∷ v ∷ []) (eq-eqb v v refl)
  awaited_self (integer i) = refl
  awaited_self (atom a) = refl
  awaited_self (structure f ts) = all_awaited_self ts

  all_awaited_self : (ts : Terms) → all_awaited ts ts ≡ []
  all_awaited_self none = refl
  all_awaited_self (more t ts) = ap (λ l. l ++ all_awaited ts ts) (awaited_self t) ∙ all_awaited_self ts

pub or-group : (a b c : Bool) → ((a || b) || c) ≡ (a || (b || c))
or-group true b c = refl
or-group false b c = refl

pub clash_among-arguments : (ts us : Terms) (es : List Equation) → clash_among (argument_equations ts us es) ≡ (any_clash ts us || clash_among es)
clash_among-arguments none us es = refl
clash_among-arguments (more t ts) none es = refl
clash_among-arguments (more t ts) (more u us) es = ap (λ b. clash t u || b) (clash_among-arguments ts us es) ∙ sym (or-group (clash t u) (any_clash ts us) (clash_among es))

pub awaited_among-arguments : (ts us : Terms) (es : List Equation) → awaited_among (argument_equations ts us es) ≡ all_awaited ts us ++ awaited_among es
awaited_among-arguments none us es = refl
awaited_among-arguments (more t ts) none es = refl
awaited_among-arguments (more t ts) (more u us) es =
    ap (λ l. awaited t u ++ l) (awaited_among-arguments ts us es) ∙ sym (append_assoc (awaited t u) (all_awaited ts us) (awaited_among es))

-- ---- looking at two cells

-- nothing clashes, and these variables are waited for
pub looked : {N : Type 0} (built : BuiltIn → N) (h : Held N) (x y : Cell N) (ps : List Frame) (waits longer ws : List ℕ) → ArePairs h ps →
    ((f : N → List ℕ) → clash (term_of f h x) (term_of f h y) ≡ false) → ((f : N → List ℕ) → awaited (term_of f h x) (term_of f h y) ≡ ws) → longer ≡ waits ++ ws →
    Compares built h x y ps ps waits longer
looked built h x y ps waits longer ws pairs clashes awaits e = record {
  pairs = pairs;
  clash = λ f reads. ap (λ b. b || clash_among (waiting f h [] ps)) (sym (clashes f));
  awaited = λ f reads.
      ap (λ l. l ++ awaited_among (waiting f h [] ps)) e
      ∙ append_assoc waits ws (awaited_among (waiting f h [] ps))
      ∙ ap (λ l. waits ++ (l ++ awaited_among (waiting f h [] ps))) (sym (awaits f));
  less = omega arith;
  either = inl (record { same = refl; clash = λ f reads. clashes f; awaited = λ f reads. e ∙ ap (λ l. waits ++ l) (sym (awaits f)) });
}

pub looked_same : {N : Type 0} (built : BuiltIn → N) (h : Held N) (x y : Cell N) (ps : List Frame) (waits : List ℕ) → ArePairs h ps →
    ((f : N → List ℕ) → term_of f h x ≡ term_of f h y) → Compares built h x y ps ps waits waits
looked_same built h x y ps waits pairs equal =
    looked built h x y ps waits waits [] pairs
    (λ f. ap (λ t. clash t (term_of f h y)) (equal f) ∙ no_clash (term_of f h y))
    (λ f. ap (λ t. awaited t (term_of f h y)) (equal f) ∙ awaited_self (term_of f h y)) (sym (append-nil waits))

stands_for : {N : Type 0} (f : N → List ℕ) (h : Held N) (x : Cell N) (v : ℕ) → x ≡ Variable v → IsWalked h x → term_of f h x ≡ variable v
stands_for {N = N} f h x v e walked = let W : Cell N → Type 0 = λ c. IsWalked h c in ap (term_of f h) e ∙ term_of-unbound f h v (subst W e walked)

awaited-left : (v : ℕ) (u : Term) → 0 < term_kind u → awaited (variable v) u ≡ v ∷ []
awaited-left v (variable w) p = absurd (omega arith)
awaited-left v (integer i) p = refl
awaited-left v (atom a) p = refl
awaited-left v (structure g us) p = refl

awaited-right : (v : ℕ) (t : Term) → 0 < term_kind t → awaited t (variable v) ≡ v ∷ []
awaited-right v (variable w) p = absurd (omega arith)
awaited-right v (integer i) p = refl
awaited-right v (atom a) p = refl
awaited-right v (structure g us) p = refl

clash-right : (t : Term) (v : ℕ) → clash t (variable v) ≡ false
clash-right (variable w) v = refl
clash-right (integer i) v = refl
clash-right (atom a) v = refl
clash-right (structure g us) v = refl

pub looked_two : {N : Type 0} (built : BuiltIn → N) (h : Held N) (x y : Cell N) (v w : ℕ) (ps : List Frame) (waits one two : List ℕ) → ArePairs h ps →
    x ≡ Variable v → y ≡ Variable w → IsWalked h x → IsWalked h y → (v ≡ w → ⊥) → one ≡ waits ++ v ∷ [] → two ≡ one ++ w ∷ [] → Compares built h x y ps ps waits two
looked_two built h x y v w ps waits one two pairs ex ey wx wy ne e1 e2 =
    looked built h x y ps waits two (v ∷ w ∷ []) pairs
    (λ f. ap (λ t. clash t (term_of f h y)) (stands_for f h x v ex wx))
    (λ f. ap (λ t. awaited t (term_of f h y)) (stands_for f h x v ex wx) ∙ ap (awaited (variable v)) (stands_for f h y w ey wy) ∙ cond-false (v == w) [] (v ∷ w ∷ []) (ne_eqb v w ne))
    (e2 ∙ ap (λ l. l ++ w ∷ []) e1 ∙ append_assoc waits (v ∷ []) (w ∷ []))

pub looked_one_variable : {N : Type 0} (built : BuiltIn → N) (h : Held N) (x y : Cell N) (v w : ℕ) (ps : List Frame) (waits : List ℕ) → ArePairs h ps →
    x ≡ Variable v → y ≡ Variable w → v ≡ w → Compares built h x y ps ps waits waits
looked_one_variable built h x y v w ps waits pairs ex ey e =
    looked_same built h x y ps waits pairs (λ f. ap (term_of f h) (ex ∙ ap (λ n. Variable n) e ∙ sym ey))

positive : {N : Type 0} (f : N → List ℕ) (h : Held N) (x : Cell N) → IsFormed h → IsIn h x → IsNoVariable x → 0 < term_kind (term_of f h x)
positive f h x p inside value = let k = kind_kept f h x p inside value in omega (arith, k, no_variable x value)

pub looked_left : {N : Type 0} (built : BuiltIn → N) (h : Held N) (x y : Cell N) (v : ℕ) (ps : List Frame) (waits longer : List ℕ) → IsFormed h → ArePairs h ps →
    x ≡ Variable v → IsWalked h x → IsIn h y → IsNoVariable y → longer ≡ waits ++ v ∷ [] → Compares built h x y ps ps waits longer
looked_left built h x y v ps waits longer p pairs ex wx inside value e =
    looked built h x y ps waits longer (v ∷ []) pairs
    (λ f. ap (λ t. clash t (term_of f h y)) (stands_for f h x v ex wx))
    (λ f. ap (λ t. awaited t (term_of f h y)) (stands_for f h x v ex wx) ∙ awaited-left v (term_of f h y) (positive f h y p inside value)) e

pub looked_right : {N : Type 0} (built : BuiltIn → N) (h : Held N) (x y : Cell N) (v : ℕ) (ps : List Frame) (waits longer : List ℕ) → IsFormed h → ArePairs h ps →
    y ≡ Variable v → IsWalked h y → IsIn h x → IsNoVariable x → longer ≡ waits ++ v ∷ [] → Compares built h x y ps ps waits longer
looked_right built h x y v ps waits longer p pairs ey wy inside value e =
    looked built h x y ps waits longer (v ∷ []) pairs
    (λ f. ap (clash (term_of f h x)) (stands_for f h y v ey wy) ∙ clash-right (term_of f h x) v)
    (λ f. ap (awaited (term_of f h x)) (stands_for f h y v ey wy) ∙ awaited-right v (term_of f h x) (positive f h x p inside value)) e

fails_if : (c : Bool) (l : List Equation) → (if c then remains l else conflicts) ≡ conflicts → c ≡ false
fails_if true l e = absurd (cc)
fails_if false l e = refl

goes_if : (c : Bool) (l m : List Equation) → (if c then remains l else conflicts) ≡ remains m → c ≡ true
goes_if true l m e = refl
goes_if false l m e = absurd (cc)

clash_from_front : (t u : Term) → 0 < term_kind t → 0 < term_kind u → transformed t u [] ≡ conflicts → clash t u ≡ true
clash_from_front (variable v) u p q e = absurd (omega arith)
clash_from_front (integer i) (variable w) p q e = absurd (omega arith)
clash_from_front (integer i) (integer j) p q e = not_from_false (int_eq i j) (fails_if (int_eq i j) [] e)
clash_from_front (integer i) (atom b) p q e = refl
clash_from_front (integer i) (structure g us) p q e = refl
clash_from_front (atom a) (variable w) p q e = absurd (omega arith)
clash_from_front (atom a) (integer j) p q e = refl
clash_from_front (atom a) (atom b) p q e = not_from_false (bytes_eq a b) (fails_if (bytes_eq a b) [] e)
clash_from_front (atom a) (structure g us) p q e = refl
clash_from_front (structure f ts) (variable w) p q e = absurd (omega arith)
clash_from_front (structure f ts) (integer j) p q e = refl
clash_from_front (structure f ts) (atom b) p q e = refl
clash_from_front (structure f ts) (structure g us) p q e =
    cond-false (bytes_eq f g && count_of ts == count_of us) (any_clash ts us) true (fails_if (bytes_eq f g && count_of ts == count_of us) (argument_equations ts us []) e)

pub looked_clash : {N : Type 0} (built : BuiltIn → N) (h : Held N) (x y : Cell N) → IsFormed h → IsIn h x → IsIn h y → IsNoVariable x → IsNoVariable y → MeetsAs built h x y Clash →
    (f : N → List ℕ) → Reads built f → clash (term_of f h x) (term_of f h y) ≡ true
looked_clash built h x y p ix iy vx vy clashes = λ f reads.
    clash_from_front (term_of f h x) (term_of f h y) (positive f h x p ix vx) (positive f h y p iy vy) (clashes f reads [])

-- two structures that open
pub record Structures (t u : Term) (ts us : Terms) : Type 0 where
  pub left_name : List ℕ
  pub right_name : List ℕ
  pub left : t ≡ structure left_name ts
  pub right : u ≡ structure right_name us
  pub one : bytes_eq left_name right_name && count_of ts == count_of us ≡ true

pub opened_structures : {N : Type 0} (f : N → List ℕ) (h : Held N) (x y : Cell N) (p : Frame) → IsFormed h → Opens h x y p →
    Structures (term_of f h x) (term_of f h y) (terms_of f h (drop p.next (arguments_of h p.left))) (terms_of f h (drop p.next (arguments_of h p.right)))
opened_structures {N = N} f h x y p formed opens =
    let a = named h p.left opens.is.left in
    let b = named h p.right opens.is.right in
    let ts = terms_of f h (arguments_of h p.left) in
    let us = terms_of f h (arguments_of h p.right) in
    let l = ap (term_of f h) opens.left ∙ term_of-Structure f h p.left a.0 formed a.1 in
    let r = ap (term_of f h) opens.right ∙ term_of-Structure f h p.right b.0 formed b.1 in
    let P : ℕ → Type 0 = λ n. Structures (term_of f h x) (term_of f h y) (terms_of f h (drop n (arguments_of h p.left))) (terms_of f h (drop n (arguments_of h p.right))) in
    let leads : transformed (structure (f a.0) ts) (structure (f b.0) us) [] ≡ remains (rest_of f h p []) =
    ap (λ t. transformed t (structure (f b.0) us) []) (sym l) ∙ ap (λ u. transformed (term_of f h x) u []) (sym r) ∙ opens.leads f [] in
    subst P (sym opens.start) (record {
      left_name = f a.0;
      right_name = f b.0;
      left = l;
      right = r;
      one = goes_if (bytes_eq (f a.0) (f b.0) && count_of ts == count_of us) (argument_equations ts us []) (rest_of f h p []) leads;
    })

pub clash-structures : (t u : Term) (ts us : Terms) → Structures t u ts us → clash t u ≡ any_clash ts us
clash-structures t u ts us s =
    ap (λ k. clash k u) s.left ∙ ap (clash (structure s.left_name ts)) s.right
    ∙ cond-true (bytes_eq s.left_name s.right_name && count_of ts == count_of us) (any_clash ts us) true s.one

pub awaited-structures : (t u : Term) (ts us : Terms) → Structures t u ts us → awaited t u ≡ all_awaited ts us
awaited-structures t u ts us s = ap (λ k. awaited k u) s.left ∙ ap (awaited (structure s.left_name ts)) s.right

pub looked_open : {N : Type 0} (built : BuiltIn → N) (h : Held N) (x y : Cell N) (p : Frame) (ps now : List Frame) (waits : List ℕ) → IsFormed h → ArePairs h ps → Opens h x y p →
    now ≡ ps ++ p ∷ [] → Compares built h x y ps now waits waits
looked_open {N = N} built h x y p ps now waits formed pairs opens e =
    let P : List Frame → Type 0 = λ l. Compares built h x y ps l waits waits in
    let us = opened_structures unread h x y p formed opens in
    let big = ap size us.left in
    let small = arguments_size (terms_of unread h (drop p.next (arguments_of h p.left))) (terms_of unread h (drop p.next (arguments_of h p.right))) (waiting unread h [] ps) in
    let w = ap equations_size (waiting-push unread h [] ps p) in
    subst P (sym e) (record {
      pairs = ArePairs-push h ps p pairs opens.is;
      clash = λ f reads.
          ap clash_among (waiting-push f h [] ps p) ∙ clash_among-arguments (terms_of f h (drop p.next (arguments_of h p.left))) (terms_of f h (drop p.next (arguments_of h p.right))) (waiting f h [] ps)
          ∙ ap (λ b. b || clash_among (waiting f h [] ps)) (sym (clash-structures (term_of f h x) (term_of f h y) _ _ (opened_structures f h x y p formed opens)));
      awaited = λ f reads.
          ap (λ l. waits ++ l)
          (ap awaited_among (waiting-push f h [] ps p) ∙ awaited_among-arguments (terms_of f h (drop p.next (arguments_of h p.left))) (terms_of f h (drop p.next (arguments_of h p.right))) (waiting f h [] ps)
          ∙ ap (λ l. l ++ awaited_among (waiting f h [] ps)) (sym (awaited-structures (term_of f h x) (term_of f h y) _ _ (opened_structures f h x y p formed opens))));
      less = omega (arith, w, big, small, length-append ps (p ∷ []));
      either = inr (record { frame = p; opens = opens; pushed = refl; same = refl });
    })

-- ---- the loop

-- a clash of the arguments in turn is a clash of what waited
pub pair_clashes : {N : Type 0} (built : BuiltIn → N) (h : Held N) (before ps : List Frame) (p : Frame) (x y : Cell N) → before ≡ ps ++ p ∷ [] → IsTurn h p x y →
    ((f : N → List ℕ) → Reads built f → clash (term_of f h x) (term_of f h y) ≡ true) → (f : N → List ℕ) → Reads built f → clash_among (waiting f h [] before) ≡ true
pair_clashes built h before ps p x y e turn clashes = λ f reads.
    ap (λ l. clash_among (waiting f h [] l)) e ∙ ap clash_among (turn_waiting f h ps p turn.left turn.right x y turn.turn)
    ∙ ap (λ b. b || clash_among (waiting f h [] (ps ++ onward p ∷ []))) (clashes f reads)

-- what is left, with what was found, comes to the whole
pub record IsLeft {N : Type 0} (built : BuiltIn → N) (h : Held N) (l r : Cell N) (start longer : List ℕ) (ds : List (List ℕ)) (now : List Frame) : Type 0 where
  pub pairs : ArePairs h now
  pub clash : (f : N → List ℕ) → Reads built f → clash_among (waiting f h [] now) ≡ true → clash (term_of f h l) (term_of f h r) ≡ true
  pub found : (f : N → List ℕ) → Reads built f → (v : ℕ) → IsOf v longer → IsOf v start ⊎ IsOf v (awaited (term_of f h l) (term_of f h r))
  pub rest : (f : N → List ℕ) → Reads built f → (v : ℕ) → IsOf v (awaited_among (waiting f h [] now)) → IsOf v start ⊎ IsOf v (awaited (term_of f h l) (term_of f h r))
  pub kept : (f : N → List ℕ) → Reads built f → (v : ℕ) → IsOf v start → IsOf v longer
  pub under : (f : N → List ℕ) → Reads built f → Under (IsDone longer) (structure_term f h) (argument_terms f h) (term_of f h l) (term_of f h r) now
  pub done : AreDone built h longer ds

pub of_split : (v : ℕ) (xs ys : List ℕ) → IsOf v (xs ++ ys) → IsOf v xs ⊎ IsOf v ys
of_split v [] ys e = inr e
of_split v (x ∷ xs) ys (inl e) = inl (inl e)
of_split v (x ∷ xs) ys (inr e) = further (of_split v xs ys e)
  where
    further : IsOf v xs ⊎ IsOf v ys → IsOf v (x ∷ xs) ⊎ IsOf v ys
    further (inl a) = inl (inr a)
    further (inr a) = inr a

pub of_first : (v : ℕ) (xs ys : List ℕ) → IsOf v xs → IsOf v (xs ++ ys)
of_first v [] ys e = absurd e
of_first v (x ∷ xs) ys (inl e) = inl e
of_first v (x ∷ xs) ys (inr e) = inr (of_first v xs ys e)

pub of_second : (v : ℕ) (xs ys : List ℕ) → IsOf v ys → IsOf v (xs ++ ys)
of_second v [] ys e = e
of_second v (x ∷ xs) ys e = inr (of_second v xs ys e)

done_more : (ws zs : List ℕ) → ((v : ℕ) → IsOf v ws → IsOf v zs) → (t u : Term) → IsDone ws t u → IsDone zs t u
done_more ws zs more_of t u d = record { clash = d.clash; awaited = λ v a. more_of v (d.awaited v a) }

each_more : (S : ℕ → Term) (ws zs : List ℕ) → ((v : ℕ) → IsOf v ws → IsOf v zs) → (ds : List (List ℕ)) → EachDone S ws ds → EachDone S zs ds
each_more S ws zs k ds d = λ l r among. done_more ws zs k (S l) (S r) (d l r among)

-- one pair more, which may have been among them
abbrev pub IsAdded : ℕ → ℕ → List (List ℕ) → List (List ℕ) → Type 0
IsAdded p q ds es = (l r : ℕ) → is_among l r es ≡ cond (pointwise nat_eq (p ∷ q ∷ []) (l ∷ r ∷ [])) true (is_among l r ds)

pub pair_kept : (p q : ℕ) (ds : List (List ℕ)) → MayHave p q ds ds
pair_kept p q ds = λ l r among. inl among

pub pair_added : (p q : ℕ) (ds es : List (List ℕ)) → IsAdded p q ds es → MayHave p q ds es
pair_added p q ds es added = λ l r among. by_case l r (pointwise nat_eq (p ∷ q ∷ []) (l ∷ r ∷ [])) refl (sym (added l r) ∙ among)
  where
    left_same : {a b c d : ℕ} → (let xs : List ℕ = a ∷ b ∷ [] in xs) ≡ c ∷ d ∷ [] → a ≡ c
    left_same e = cc

    right_same : {a b c d : ℕ} → (let xs : List ℕ = a ∷ b ∷ [] in xs) ≡ c ∷ d ∷ [] → b ≡ d
    right_same e = cc

    by_case : (l r : ℕ) (b : Bool) → pointwise nat_eq (p ∷ q ∷ []) (l ∷ r ∷ []) ≡ b → cond b true (is_among l r ds) ≡ true → (is_among l r ds ≡ true) ⊎ ((p ≡ l) × (q ≡ r))
    by_case l r true same among = let is = (bytes_decides (p ∷ q ∷ []) (l ∷ r ∷ [])).0 same in inr (left_same is, right_same is)
    by_case l r false same among = inl among

each_may : (S : ℕ → Term) (ws : List ℕ) (ds es : List (List ℕ)) (p q : ℕ) → MayHave p q ds es → EachDone S ws ds → IsDone ws (S p) (S q) → EachDone S ws es
each_may S ws ds es p q may d e = λ l r among. by_case l r (may l r among)
  where
    by_case : (l r : ℕ) → (is_among l r ds ≡ true) ⊎ ((p ≡ l) × (q ≡ r)) → IsDone ws (S l) (S r)
    by_case l r (inl before) = d l r before
    by_case l r (inr here) =
        let L : ℕ → Type 0 = λ n. IsDone ws (S n) (S r) in
        let R : ℕ → Type 0 = λ n. IsDone ws (S p) (S n) in
        subst L here.0 (subst R here.1 e)

unchanged : Changes (λ t. t) (λ ts. ts)
unchanged = record { none_is = refl; more_is = λ t ts. refl }

-- the front of what waits
turn_front : {N : Type 0} (f : N → List ℕ) (h : Held N) (before ps between : List Frame) (p q : Frame) (x y : Cell N) → before ≡ ps ++ p ∷ [] → between ≡ ps ++ q ∷ [] → q ≡ onward p → IsTurn h p x y →
    waiting f h [] before ≡ record { left = term_of f h x; right = term_of f h y } ∷ waiting f h [] between
turn_front f h before ps between p q x y e are is turn =
    ap (waiting f h []) e ∙ turn_waiting f h ps p turn.left turn.right x y turn.turn
    ∙ ap (λ l. record { left = term_of f h x; right = term_of f h y } ∷ waiting f h [] l) (sym (are ∙ ap (λ z. ps ++ z ∷ []) is))

-- the arguments in turn are to be done
left_expects : {N : Type 0} (f : N → List ℕ) (h : Held N) (t u : Term) (waits : List ℕ) (before ps between : List Frame) (p q : Frame) (x y : Cell N) → before ≡ ps ++ p ∷ [] → between ≡ ps ++ q ∷ [] → q ≡ onward p → IsTurn h p x y →
    Under (IsDone waits) (structure_term f h) (argument_terms f h) t u before → Expects (IsDone waits) (structure_term f h) (argument_terms f h) t u between (term_of f h x) (term_of f h y)
left_expects f h t u waits before ps between p q x y e are is turn under =
    let S = structure_term f h in
    let P = argument_terms f h in
    let r = turn.turn in
    let some : Term → Option Term = λ z. Some z in
    let U : List Frame → Type 0 = λ k. Under (IsDone waits) S P t u k in
    let E : List Frame → Type 0 = λ k. Expects (IsDone waits) S P t u k (term_of f h x) (term_of f h y) in
    subst E (sym (are ∙ ap (λ z. ps ++ z ∷ []) is))
    (under_turn (IsDone waits) S P t u ps p (term_of f h x) (term_of f h y) (subst U e under)
    (argument_read f h (arguments_of h p.left) p.next turn.left r.left ∙ ap some (sym (r.left_means f)))
    (argument_read f h (arguments_of h p.right) p.next turn.right r.right ∙ ap some (sym (r.right_means f))))

-- more variables were found
expects_more : (S : ℕ → Term) (P : ℕ → Terms) (ws zs : List ℕ) → ((v : ℕ) → IsOf v ws → IsOf v zs) → (t u : Term) (ps : List Frame) (x y : Term) → Expects (IsDone ws) S P t u ps x y → Expects (IsDone zs) S P t u ps x y
expects_more S P ws zs k t u ps x y e =
    expected_changed (IsDone ws) (IsDone zs) (λ z. z) (λ zs. zs) S S P P unchanged (λ a b d. done_more ws zs k a b d) (λ s. refl) (λ s. refl) t u ps x y e

-- what was looked at is done, or is looked at next
looked_under : {N : Type 0} (built : BuiltIn → N) (f : N → List ℕ) (h : Held N) (x y : Cell N) (before now : List Frame) (waits longer : List ℕ) (t u : Term) → Reads built f →
    LooksDone built h x y before now waits longer ⊎ LooksOpen h x y before now waits longer → Expects (IsDone longer) (structure_term f h) (argument_terms f h) t u before (term_of f h x) (term_of f h y) →
    Under (IsDone longer) (structure_term f h) (argument_terms f h) t u now
looked_under built f h x y before now waits longer t u reads (inl d) e =
    let S = structure_term f h in
    let P = argument_terms f h in
    let U : List Frame → Type 0 = λ k. Under (IsDone longer) S P t u k in
    let all = d.awaited f reads in
    subst U (sym d.same) (expected_done (IsDone longer) S P t u before (term_of f h x) (term_of f h y) e (record {
      clash = d.clash f reads;
      awaited = λ v a. let L : List ℕ → Type 0 = λ k. IsOf v k in subst L (sym all) (of_second v waits (awaited (term_of f h x) (term_of f h y)) a);
    }))
looked_under built f h x y before now waits longer t u reads (inr o) e =
    let S = structure_term f h in
    let P = argument_terms f h in
    let U : List Frame → Type 0 = λ k. Under (IsDone longer) S P t u k in
    subst U (sym o.pushed)
    (expected_opens (IsDone longer) S P t u before (term_of f h x) (term_of f h y) o.frame e (ap (term_of f h) o.opens.left) (ap (term_of f h) o.opens.right) o.opens.start)

looked_more : {N : Type 0} (built : BuiltIn → N) (f : N → List ℕ) (h : Held N) (x y : Cell N) (before now : List Frame) (waits longer : List ℕ) → Reads built f → LooksDone built h x y before now waits longer ⊎ LooksOpen h x y before now waits longer →
    (v : ℕ) → IsOf v waits → IsOf v longer
looked_more built f h x y before now waits longer reads (inl d) v a = let L : List ℕ → Type 0 = λ k. IsOf v k in subst L (sym (d.awaited f reads)) (of_first v waits (awaited (term_of f h x) (term_of f h y)) a)
looked_more built f h x y before now waits longer reads (inr o) v a = let L : List ℕ → Type 0 = λ k. IsOf v k in subst L (sym o.same) a

-- the arguments in turn were looked at
pub left_looks : {N : Type 0} (built : BuiltIn → N) (h : Held N) (l r : Cell N) (start waits longer : List ℕ) (ds : List (List ℕ)) (before ps between now : List Frame) (p q : Frame) (x y : Cell N) →
    IsLeft built h l r start waits ds before → before ≡ ps ++ p ∷ [] → between ≡ ps ++ q ∷ [] → q ≡ onward p → IsTurn h p x y → Compares built h x y between now waits longer → IsLeft built h l r start longer ds now × (work h now < work h before)
left_looks {N = N} built h l r start waits longer ds before ps between now p q x y i e are is turn c = (
  record {
    pairs = c.pairs;
    clash = λ f reads w. i.clash f reads (ap clash_among (transformed f) ∙ sym (c.clash f reads) ∙ w);
    found = λ f reads v a. by_part f reads v (of_split v waits _ (whole f reads v (of_first v longer (awaited_among (waiting f h [] now)) a)));
    rest = λ f reads v a. by_part f reads v (of_split v waits _ (whole f reads v (of_second v longer (awaited_among (waiting f h [] now)) a)));
    kept = λ f reads v a. looked_more built f h x y between now waits longer reads c.either v (i.kept f reads v a);
    under = λ f reads.
        looked_under built f h x y between now waits longer (term_of f h l) (term_of f h r) reads c.either
        (expects_more (structure_term f h) (argument_terms f h) waits longer (looked_more built f h x y between now waits longer reads c.either) (term_of f h l) (term_of f h r) between (term_of f h x) (term_of f h y)
        (left_expects f h (term_of f h l) (term_of f h r) waits before ps between p q x y e are is turn (i.under f reads)));
    done = λ f reads. each_more (structure_term f h) waits longer (looked_more built f h x y between now waits longer reads c.either) ds (i.done f reads);
  },
  omega (arith, ap equations_size (transformed unread), c.less, ap length e, ap length are, length-append ps (p ∷ []), length-append ps (q ∷ [])),
)
  where
    transformed : (f : N → List ℕ) → waiting f h [] before ≡ record { left = term_of f h x; right = term_of f h y } ∷ waiting f h [] between
    transformed f = turn_front f h before ps between p q x y e are is turn

    whole : (f : N → List ℕ) → Reads built f → (v : ℕ) → IsOf v (longer ++ awaited_among (waiting f h [] now)) → IsOf v (waits ++ awaited_among (waiting f h [] before))
    whole f reads v a = let L : List ℕ → Type 0 = λ k. IsOf v k in subst L (c.awaited f reads ∙ ap (λ es. waits ++ awaited_among es) (sym (transformed f))) a

    by_part : (f : N → List ℕ) → Reads built f → (v : ℕ) → IsOf v waits ⊎ IsOf v (awaited_among (waiting f h [] before)) → IsOf v start ⊎ IsOf v (awaited (term_of f h l) (term_of f h r))
    by_part f reads v (inl a) = i.found f reads v a
    by_part f reads v (inr a) = i.rest f reads v a

-- the arguments in turn are known to be done
pub left_skips : {N : Type 0} (built : BuiltIn → N) (h : Held N) (l r : Cell N) (start waits : List ℕ) (ds : List (List ℕ)) (before ps between : List Frame) (p q : Frame) (x y : Cell N) →
    IsLeft built h l r start waits ds before → before ≡ ps ++ p ∷ [] → between ≡ ps ++ q ∷ [] → q ≡ onward p → IsTurn h p x y → suc p.next ≤ p.count → IsKnown x y ds → IsLeft built h l r start waits ds between × (work h between < work h before)
left_skips {N = N} built h l r start waits ds before ps between p q x y i e are is turn le known = (
  record {
    pairs = onward_pushed h before ps between p q i.pairs e are is le;
    clash = λ f reads w. i.clash f reads (ap clash_among (transformed f) ∙ or_right (clash (term_of f h x) (term_of f h y)) (clash_among (waiting f h [] between)) w);
    found = i.found;
    rest = λ f reads v a. i.rest f reads v (later f v a);
    kept = i.kept;
    under = λ f reads.
        expected_done (IsDone waits) (structure_term f h) (argument_terms f h) (term_of f h l) (term_of f h r) between (term_of f h x) (term_of f h y)
        (left_expects f h (term_of f h l) (term_of f h r) waits before ps between p q x y e are is turn (i.under f reads)) (is_done f reads);
    done = i.done;
  },
  omega (arith, ap equations_size (transformed unread), ap length e, ap length are, length-append ps (p ∷ []), length-append ps (q ∷ [])),
)
  where
    transformed : (f : N → List ℕ) → waiting f h [] before ≡ record { left = term_of f h x; right = term_of f h y } ∷ waiting f h [] between
    transformed f = turn_front f h before ps between p q x y e are is turn

    later : (f : N → List ℕ) (v : ℕ) → IsOf v (awaited_among (waiting f h [] between)) → IsOf v (awaited_among (waiting f h [] before))
    later f v a = let L : List Equation → Type 0 = λ k. IsOf v (awaited_among k) in subst L (sym (transformed f)) (of_second v (awaited (term_of f h x) (term_of f h y)) (awaited_among (waiting f h [] between)) a)

    is_done : (f : N → List ℕ) → Reads built f → IsDone waits (term_of f h x) (term_of f h y)
    is_done f reads =
        let D : Cell N → Cell N → Type 0 = λ a b. IsDone waits (term_of f h a) (term_of f h b) in
        let A : Cell N → Type 0 = λ a. D a y in
        let B : Cell N → Type 0 = λ b. D (Structure known.left) b in
        subst A (sym known.left_is) (subst B (sym known.right_is) (i.done f reads known.left known.right known.known))

-- ---- a pair at its end

alike_no_clash : (ws : List ℕ) (n : ℕ) (ts us : Terms) → Alike (IsDone ws) n ts us → count_of ts ≡ n → count_of us ≡ n → any_clash ts us ≡ false
alike_no_clash ws n none us a p q = refl
alike_no_clash ws n (more t ts) none a p q = refl
alike_no_clash ws zero (more t ts) (more u us) a p q = absurd (omega (arith, p))
alike_no_clash ws (suc n) (more t ts) (more u us) a p q = or_from (clash t u) (any_clash ts us) a.0.clash (alike_no_clash ws n ts us a.1 (omega (arith, p)) (omega (arith, q)))

alike_awaited : (ws : List ℕ) (n : ℕ) (ts us : Terms) → Alike (IsDone ws) n ts us → count_of ts ≡ n → count_of us ≡ n → (v : ℕ) → IsOf v (all_awaited ts us) → IsOf v ws
alike_awaited ws n none us a p q v o = absurd o
alike_awaited ws n (more t ts) none a p q v o = absurd o
alike_awaited ws zero (more t ts) (more u us) a p q v o = absurd (omega (arith, p))
alike_awaited ws (suc n) (more t ts) (more u us) a p q v o = by_part (of_split v (awaited t u) (all_awaited ts us) o) (λ b. alike_awaited ws n ts us a.1 (omega (arith, p)) (omega (arith, q)) v b)
  where
    by_part : IsOf v (awaited t u) ⊎ IsOf v (all_awaited ts us) → (IsOf v (all_awaited ts us) → IsOf v ws) → IsOf v ws
    by_part (inl b) k = a.0.awaited v b
    by_part (inr b) k = k b

pair_done : {N : Type 0} (f : N → List ℕ) (h : Held N) (ws : List ℕ) (p : Frame) → IsFormed h → IsPair h p → p.count ≤ p.next → Alike (IsDone ws) p.next (argument_terms f h p.left) (argument_terms f h p.right) →
    IsDone ws (structure_term f h p.left) (structure_term f h p.right)
pair_done {N = N} f h ws p formed pair le alike =
    let ts = argument_terms f h p.left in
    let us = argument_terms f h p.right in
    let nt : count_of ts ≡ p.next = omega (arith, count_of-terms_of f h (arguments_of h p.left), pair.left_count, pair.next) in
    let nu : count_of us ≡ p.next = omega (arith, count_of-terms_of f h (arguments_of h p.right), pair.right_count, pair.next) in
    let name = f pair.name in
    let A : Term → Type 0 = λ t. IsDone ws t (structure_term f h p.right) in
    let B : Term → Type 0 = λ t. IsDone ws (structure name ts) t in
    let one : bytes_eq name name && count_of ts == count_of us ≡ true = and_from (bytes_eq name name) (count_of ts == count_of us) ((bytes_eq-Decides name name).1 refl) (eq-eqb (count_of ts) (count_of us) (nt ∙ sym nu)) in
    subst A (sym (term_of-Structure f h p.left pair.name formed pair.left_shape)) (subst B (sym (term_of-Structure f h p.right pair.name formed pair.right_shape)) (record {
      clash = cond-true (bytes_eq name name && count_of ts == count_of us) (any_clash ts us) true one ∙ alike_no_clash ws p.next ts us alike nt nu;
      awaited = alike_awaited ws p.next ts us alike nt nu;
    }))

pub left_closes : {N : Type 0} (built : BuiltIn → N) (h : Held N) (l r : Cell N) (start waits : List ℕ) (ds es : List (List ℕ)) (before ps : List Frame) (p : Frame) → IsFormed h →
    IsLeft built h l r start waits ds before → before ≡ ps ++ p ∷ [] → p.count ≤ p.next → MayHave p.left p.right ds es → IsLeft built h l r start waits es ps × (work h ps < work h before)
left_closes {N = N} built h l r start waits ds es before ps p formed i e le may = (
  record {
    pairs = closed.pairs;
    clash = λ f reads w. i.clash f reads (ap clash_among (same f) ∙ w);
    found = i.found;
    rest = λ f reads v a. let L : List Equation → Type 0 = λ k. IsOf v (awaited_among k) in i.rest f reads v (subst L (sym (same f)) a);
    kept = i.kept;
    under = λ f reads. under_pop (IsDone waits) (structure_term f h) (argument_terms f h) (term_of f h l) (term_of f h r) ps p (under f reads) (done f reads);
    done = λ f reads. each_may (structure_term f h) waits ds es p.left p.right may (i.done f reads) (done f reads);
  },
  closed.less,
)
  where
    closed : Reaches built h before ps
    closed = closed_at built h before ps p i.pairs e le

    same : (f : N → List ℕ) → waiting f h [] before ≡ waiting f h [] ps
    same = closed_waiting h before ps p i.pairs e le

    under : (f : N → List ℕ) → Reads built f → Under (IsDone waits) (structure_term f h) (argument_terms f h) (term_of f h l) (term_of f h r) (ps ++ p ∷ [])
    under f reads = let U : List Frame → Type 0 = λ k. Under (IsDone waits) (structure_term f h) (argument_terms f h) (term_of f h l) (term_of f h r) k in subst U e (i.under f reads)

    done : (f : N → List ℕ) → Reads built f → IsDone waits (structure_term f h p.left) (structure_term f h p.right)
    done f reads = pair_done f h waits p formed (pair_popped h before ps p i.pairs e) le (under_top (IsDone waits) (structure_term f h) (argument_terms f h) (term_of f h l) (term_of f h r) ps p (under f reads))

-- ---- the start and the end

or-nothing : (a : Bool) → (a || false) ≡ a
or-nothing true = refl
or-nothing false = refl

pub left_start : {N : Type 0} (built : BuiltIn → N) (h : Held N) (l r x y : Cell N) (before now : List Frame) (ds : List (List ℕ)) (waits longer : List ℕ) → before ≡ [] → ds ≡ [] →
    ((f : N → List ℕ) → term_of f h x ≡ term_of f h l) → ((f : N → List ℕ) → term_of f h y ≡ term_of f h r) → Compares built h x y before now waits longer → IsLeft built h l r waits longer ds now
unfolding waiting
left_start {N = N} built h l r x y before now ds waits longer e none_done p q c = record {
  pairs = c.pairs;
  clash = λ f reads w. sym (whole_clash f reads) ∙ w;
  found = λ f reads v a. of_split v waits (awaited (term_of f h l) (term_of f h r)) (whole f reads v (of_first v longer (awaited_among (waiting f h [] now)) a));
  rest = λ f reads v a. of_split v waits (awaited (term_of f h l) (term_of f h r)) (whole f reads v (of_second v longer (awaited_among (waiting f h [] now)) a));
  kept = λ f reads v a. looked_more built f h x y before now waits longer reads c.either v a;
  under = λ f reads.
      let E : List Frame → Type 0 = λ k. Expects (IsDone longer) (structure_term f h) (argument_terms f h) (term_of f h l) (term_of f h r) k (term_of f h x) (term_of f h y) in
      looked_under built f h x y before now waits longer (term_of f h l) (term_of f h r) reads c.either (subst E (sym e) (sym (p f), sym (q f)));
  done = λ f reads. λ l r among.
      let none : is_among l r ds ≡ false = ap (is_among l r) none_done in
      absurd (false≢true (sym none ∙ among));
}
  where
    whole_clash : (f : N → List ℕ) → Reads built f → clash_among (waiting f h [] now) ≡ clash (term_of f h l) (term_of f h r)
    whole_clash f reads =
        c.clash f reads ∙ ap (λ ps. clash (term_of f h x) (term_of f h y) || clash_among (waiting f h [] ps)) e ∙ or-nothing (clash (term_of f h x) (term_of f h y))
        ∙ ap (λ t. clash t (term_of f h y)) (p f) ∙ ap (clash (term_of f h l)) (q f)

    whole : (f : N → List ℕ) → Reads built f → (v : ℕ) → IsOf v (longer ++ awaited_among (waiting f h [] now)) → IsOf v (waits ++ awaited (term_of f h l) (term_of f h r))
    whole f reads v a =
        let L : List ℕ → Type 0 = λ k. IsOf v k in
        subst L (c.awaited f reads ∙ ap (λ ps. waits ++ (awaited (term_of f h x) (term_of f h y) ++ awaited_among (waiting f h [] ps))) e
        ∙ ap (λ ws. waits ++ ws) (append-nil (awaited (term_of f h x) (term_of f h y)) ∙ ap (λ t. awaited t (term_of f h y)) (p f) ∙ ap (awaited (term_of f h l)) (q f))) a

pub left_end : {N : Type 0} (built : BuiltIn → N) (h : Held N) (l r : Cell N) (start longer : List ℕ) (ds : List (List ℕ)) (now : List Frame) → IsLeft built h l r start longer ds now → now ≡ [] →
    (f : N → List ℕ) → Reads built f → Compared f h l r start longer
left_end {N = N} built h l r start longer ds now i e f reads =
    let U : List Frame → Type 0 = λ k. Under (IsDone longer) (structure_term f h) (argument_terms f h) (term_of f h l) (term_of f h r) k in
    let done : IsDone longer (term_of f h l) (term_of f h r) = subst U e (i.under f reads) in
    record { clash = done.clash; awaited = λ v. (i.found f reads v, back v done) }
  where
    back : (v : ℕ) → IsDone longer (term_of f h l) (term_of f h r) → IsOf v start ⊎ IsOf v (awaited (term_of f h l) (term_of f h r)) → IsOf v longer
    back v done (inl a) = i.kept f reads v a
    back v done (inr a) = done.awaited v a

pub left_clash : {N : Type 0} (built : BuiltIn → N) (h : Held N) (l r : Cell N) (start longer : List ℕ) (ds : List (List ℕ)) (now : List Frame) → IsLeft built h l r start longer ds now →
    ((f : N → List ℕ) → Reads built f → clash_among (waiting f h [] now) ≡ true) → (f : N → List ℕ) → Reads built f → clash (term_of f h l) (term_of f h r) ≡ true
left_clash built h l r start longer ds now i c = λ f reads. i.clash f reads (c f reads)

pub first_clash : {N : Type 0} (built : BuiltIn → N) (h : Held N) (l r x y : Cell N) → ((f : N → List ℕ) → term_of f h x ≡ term_of f h l) → ((f : N → List ℕ) → term_of f h y ≡ term_of f h r) →
    ((f : N → List ℕ) → Reads built f → clash (term_of f h x) (term_of f h y) ≡ true) → (f : N → List ℕ) → Reads built f → clash (term_of f h l) (term_of f h r) ≡ true
first_clash built h l r x y p q c = λ f reads. sym (ap (λ t. clash t (term_of f h y)) (p f) ∙ ap (clash (term_of f h l)) (q f)) ∙ c f reads
