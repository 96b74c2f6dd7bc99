-- The variables of answers, by their places among those that were seen.
use Rattle.std.proofs.Common.{◌≡◌, ℕ, suc, ◌-◌, ◌≤◌, ◌==◌, ◌||◌, cond, Bool, true, false, List, [], ◌∷◌, ◌++◌, map, length, get_or, take, drop, Option, Some, None, if◌then◌else◌, refl, sym, ap, ap₂, subst, ◌∙◌, ◌⊎◌, inl, inr, append_assoc, append-nil, arith}
use Rattle.std.specs.HashMap.{get, HashMap, Updates}
use Rattle.std.specs.Map.{lookup}
use Rattle.std.proofs.lemmas.Bool.{cases_eq, eq-eqb, ne_eqb, true≢false}
use Rattle.std.proofs.lemmas.List.{map-append, take_all}
use Rattle.kl1_model.specs.Term.{Term, variable, integer, atom, structure, Terms, none, more, count_of, each_substituted}
use Rattle.kl1_model.specs.Module.{is_among}
use Rattle.kl1_model.specs.Meaning.{variables_of}
use Rattle.kl1_model.specs.Telling.{new_among, place_among, told_after, is_told_term}
use Rattle.kl1_model.specs.code.TermCode.{NodeCode, nodes_of, nodes_of_all}
use Rattle.kl1_term.specs.declared.node.Node.{Node}
use Rattle.kl1_term.specs.declared.node.Node.TheVariants.{Variable, Integer, Atom, Structure}
use Rattle.kl1_term.specs.Nodes.{code_of}
use Rattle.kl1_term.specs.Telling.{IsPlaceAmong, Finds, IsPlaced, renumbered, code_renumbered, renumbered_in, anew_in}
use Rattle.kl1_term.specs.Variables.{variables_in}
use Rattle.kl1_term.proofs.VariableFacts.{variables_one}

-- ---- places

pub place_same : (m n : ℕ) (ms : List ℕ) → m ≡ n → place_among (m ∷ ms) n ≡ 1
place_same m n ms e = ap (λ b. if◌then◌else◌ {A = ℕ} b 1 (suc (place_among ms n))) (eq-eqb m n e)

pub place_other : (m n : ℕ) (ms : List ℕ) → (m ≡ n → ⊥) → place_among (m ∷ ms) n ≡ suc (place_among ms n)
place_other m n ms d = ap (λ b. if◌then◌else◌ {A = ℕ} b 1 (suc (place_among ms n))) (ne_eqb m n d)

pub among_same : (m n : ℕ) (ms : List ℕ) → m ≡ n → is_among n (m ∷ ms) ≡ true
among_same m n ms e = ap (λ b. b || is_among n ms) (eq-eqb n m (sym e))

pub among_other : (m n : ℕ) (ms : List ℕ) → (m ≡ n → ⊥) → is_among n (m ∷ ms) ≡ is_among n ms
among_other m n ms d = ap (λ b. b || is_among n ms) (ne_eqb n m (λ e. d (sym e)))

or_true : (b : Bool) → (b || true) ≡ true
or_true true = refl
or_true false = refl

pub among_kept : (seen rest : List ℕ) (n : ℕ) → is_among n seen ≡ true → is_among n (seen ++ rest) ≡ true
among_kept [] rest n e = absurd (true≢false (sym e))
among_kept (m ∷ ms) rest n e = by (cases_eq m n) (λ f. among_kept ms rest n f)
  where
    by : (m ≡ n) ⊎ (m ≡ n → ⊥) → (is_among n ms ≡ true → is_among n (ms ++ rest) ≡ true) → is_among n (m ∷ ms ++ rest) ≡ true
    by (inl s) kept = among_same m n (ms ++ rest) s
    by (inr d) kept = among_other m n (ms ++ rest) d ∙ kept (sym (among_other m n ms d) ∙ e)

pub among_new : (seen : List ℕ) (n : ℕ) → is_among n (seen ++ n ∷ []) ≡ true
among_new [] n = among_same n n [] refl
among_new (m ∷ ms) n = ap (λ b. (n == m) || b) (among_new ms n) ∙ or_true (n == m)

pub among_apart : (seen : List ℕ) (n k : ℕ) → (n ≡ k → ⊥) → is_among k (seen ++ n ∷ []) ≡ is_among k seen
among_apart [] n k d = among_other n k [] d
among_apart (m ∷ ms) n k d = ap (λ b. (k == m) || b) (among_apart ms n k d)

-- a number that was seen keeps its place, and a new one has the next
pub place_kept : (seen rest : List ℕ) (n : ℕ) → is_among n seen ≡ true → place_among (seen ++ rest) n ≡ place_among seen n
place_kept [] rest n e = absurd (true≢false (sym e))
place_kept (m ∷ ms) rest n e = by (cases_eq m n) (λ f. place_kept ms rest n f)
  where
    by : (m ≡ n) ⊎ (m ≡ n → ⊥) → (is_among n ms ≡ true → place_among (ms ++ rest) n ≡ place_among ms n) → place_among (m ∷ ms ++ rest) n ≡ place_among (m ∷ ms) n
    by (inl s) kept = place_same m n (ms ++ rest) s ∙ sym (place_same m n ms s)
    by (inr d) kept = place_other m n (ms ++ rest) d ∙ (ap suc (kept (sym (among_other m n ms d) ∙ e)) ∙ sym (place_other m n ms d))

pub place_new : (seen : List ℕ) (n : ℕ) → is_among n seen ≡ false → place_among (seen ++ n ∷ []) n ≡ suc (length seen)
place_new [] n e = place_same n n [] refl
place_new (m ∷ ms) n e = by (cases_eq m n) (λ f. place_new ms n f)
  where
    by : (m ≡ n) ⊎ (m ≡ n → ⊥) → (is_among n ms ≡ false → place_among (ms ++ n ∷ []) n ≡ suc (length ms)) → place_among (m ∷ ms ++ n ∷ []) n ≡ suc (suc (length ms))
    by (inl s) next = absurd (true≢false (sym (among_same m n ms s) ∙ e))
    by (inr d) next = place_other m n (ms ++ n ∷ []) d ∙ ap suc (next (sym (among_other m n ms d) ∙ e))

-- ---- where places are found

-- nothing is found if nothing was seen
pub finds_none : {S : Type 0} (places : HashMap ℕ ℕ S) (seen : List ℕ) → places.entries ≡ [] → seen ≡ [] → Finds places seen
finds_none places seen e s = λ n.
    let unseen : get ◌==◌ places n ≡ None = ap (lookup (◌==◌ n)) e in
    let new : is_among n seen ≡ false = ap (λ xs. is_among n xs) s in
    subst (IsPlaceAmong seen n) (sym unseen) new

place_stays : (seen : List ℕ) (n k : ℕ) (o : Option ℕ) → (n ≡ k → ⊥) → IsPlaceAmong seen k o → IsPlaceAmong (seen ++ n ∷ []) k o
place_stays seen n k None d h = among_apart seen n k d ∙ h
place_stays seen n k (Some p) d h = (among_kept seen (n ∷ []) k h.0, h.1 ∙ sym (place_kept seen (n ∷ []) k h.0))

finds_more : {S : Type 0} (old new : HashMap ℕ ℕ S) (seen : List ℕ) (n next : ℕ) → Finds old seen → is_among n seen ≡ false → next ≡ suc (length seen) → Updates ◌==◌ old new n (Some next) → Finds new (seen ++ n ∷ [])
finds_more old new seen n next h fresh is updates = λ k. subst (IsPlaceAmong (seen ++ n ∷ []) k) (sym (updates.0 k)) (by k (cases_eq n k))
  where
    by : (k : ℕ) → (n ≡ k) ⊎ (n ≡ k → ⊥) → IsPlaceAmong (seen ++ n ∷ []) k (cond (n == k) (Some next) (get ◌==◌ old k))
    by k (inl s) =
        subst (λ b. IsPlaceAmong (seen ++ n ∷ []) k (cond b (Some next) (get ◌==◌ old k))) (sym (eq-eqb n k s))
        (subst (λ j. IsPlaceAmong (seen ++ n ∷ []) j (Some next)) s (among_new seen n, is ∙ sym (place_new seen n fresh)))
    by k (inr d) = subst (λ b. IsPlaceAmong (seen ++ n ∷ []) k (cond b (Some next) (get ◌==◌ old k))) (sym (ne_eqb n k d)) (place_stays seen n k (get ◌==◌ old k) d (h k))

-- a number that was seen, and a new one
pub placed_again : {S : Type 0} (places : HashMap ℕ ℕ S) (seen : List ℕ) (n k : ℕ) → Finds places seen → Some k ≡ get ◌==◌ places n → IsPlaced places seen seen n k
placed_again places seen n k h found =
    let at : IsPlaceAmong seen n (Some k) = subst (IsPlaceAmong seen n) (sym found) (h n) in
    record { finds = h; seen = sym (ap (λ b. if◌then◌else◌ {A = List ℕ} b seen (seen ++ n ∷ [])) at.0); among = at.0; place = at.1 }

pub placed_first : {S : Type 0} (old new : HashMap ℕ ℕ S) (seen now : List ℕ) (n k : ℕ) → Finds old seen → None ≡ get ◌==◌ old n → k ≡ suc (length seen) → now ≡ seen ++ n ∷ [] → Updates ◌==◌ old new n (Some k) → IsPlaced new seen now n k
placed_first old new seen now n k h unseen next put updates =
    let fresh : IsPlaceAmong seen n None = subst (IsPlaceAmong seen n) (sym unseen) (h n) in
    record {
      finds = subst (Finds new) (sym put) (finds_more old new seen n k h fresh next updates);
      seen = put ∙ sym (ap (λ b. if◌then◌else◌ {A = List ℕ} b seen (seen ++ n ∷ [])) fresh);
      among = ap (is_among n) put ∙ among_new seen n;
      place = next ∙ (sym (place_new seen n fresh) ∙ ap (λ xs. place_among xs n) (sym put));
    }

pub finds_same : {S : Type 0} (old new : HashMap ℕ ℕ S) (seen now : List ℕ) → new ≡ old → now ≡ seen → Finds old seen → Finds new now
finds_same {S = S} old new seen now p s h = subst (λ (places : HashMap ℕ ℕ S). Finds places now) (sym p) (subst (λ (ns : List ℕ). Finds old ns) (sym s) h)

-- ---- nodes

-- those seen after numbers begin with those seen before
pub record GoesOn (seen all : List ℕ) : Type 0 where
  pub rest : List ℕ
  pub all_are : all ≡ seen ++ rest

pub goes_on : (seen ns : List ℕ) → GoesOn seen (new_among None seen ns)
goes_on seen [] = record { rest = []; all_are = sym (append-nil seen) }
goes_on seen (n ∷ ns) = by (is_among n seen) (goes_on seen ns) (goes_on (seen ++ n ∷ []) ns)
  where
    by : (b : Bool) → GoesOn seen (new_among None seen ns) → GoesOn (seen ++ n ∷ []) (new_among None (seen ++ n ∷ []) ns) → GoesOn seen (if b then new_among None seen ns else new_among None (seen ++ n ∷ []) ns)
    by true old new = old
    by false old new = record { rest = n ∷ new.rest; all_are = new.all_are ∙ append_assoc seen (n ∷ []) new.rest }

-- a variable's place among those that are seen at the end is that when it was seen
pub place_at_end : (before now ns all : List ℕ) (n k : ℕ) → is_among n now ≡ true → k ≡ place_among now n → all ≡ new_among None now ns → k ≡ place_among all n
place_at_end before now ns all n k among place is =
    let on = goes_on now ns in
    place ∙ (sym (place_kept now on.rest n among) ∙ ap (λ xs. place_among xs n) (sym (is ∙ on.all_are)))

-- those seen after a number and others are those seen after the others, if it was seen before
new_after : (seen ns : List ℕ) (n : ℕ) → new_among None seen (n ∷ ns) ≡ new_among None (new_among None seen (n ∷ [])) ns
new_after seen ns n = by (is_among n seen)
  where
    by : (b : Bool) → (if◌then◌else◌ {A = List ℕ} b (new_among None seen ns) (new_among None (seen ++ n ∷ []) ns)) ≡ new_among None (if◌then◌else◌ {A = List ℕ} b seen (seen ++ n ∷ [])) ns
    by true = refl
    by false = refl

-- what is left begins with its first
pub begins : (first : Node) (left : List Node) → 1 ≤ length left → first ≡ get_or left 0 first → left ≡ first ∷ take (length left - 1) (drop 1 left)
begins first [] some is = absurd (omega (arith, some))
begins first (x ∷ xs) some is = ap₂ (λ (y : Node) (ys : List Node). y ∷ ys) (sym is) (sym (take_all (length (x ∷ xs) - 1) xs (omega arith)))

-- one node more is put
put_one : (out now : List Node) (node : Node) (c : NodeCode) (cs target : List NodeCode) → now ≡ out ++ node ∷ [] → code_of node ≡ c → map code_of out ++ c ∷ cs ≡ target → map code_of now ++ cs ≡ target
put_one out now node c cs target put is h =
    ap (λ (ns : List Node). map code_of ns ++ cs) put
    ∙ (ap (λ (x : List NodeCode). x ++ cs) (map-append code_of out (node ∷ []))
    ∙ (append_assoc (map code_of out) (code_of node ∷ []) cs ∙ (ap (λ (d : NodeCode). map code_of out ++ d ∷ cs) is ∙ h)))

-- nodes so far, and those left with the places of their variables among all, are what is to come; all are seen at the end
pub record Renumbers (now all : List ℕ) (out left : List Node) (target : List NodeCode) : Type 0 where
  pub seen : new_among None now (variables_in (map code_of left)) ≡ all
  pub same : map code_of out ++ anew_in all (map code_of left) ≡ target

pub variable_renumbered : {S : Type 0} (places : HashMap ℕ ℕ S) (seen now all : List ℕ) (first node : Node) (out put left rest : List Node) (target : List NodeCode) (n k : ℕ) →
    first ≡ Variable n → node ≡ Variable k → IsPlaced places seen now n k → left ≡ first ∷ rest → put ≡ out ++ node ∷ [] → Renumbers seen all out left target → Renumbers now all put rest target
variable_renumbered places seen now all first node out put left rest target n k first_is node_is placed begin pushed before =
    let vs = variables_in (map code_of rest) in
    let begun : left ≡ Variable n ∷ rest = begin ∙ ap (λ (x : Node). x ∷ rest) first_is in
    let all_is : new_among None now vs ≡ all =
    ap (λ (xs : List ℕ). new_among None xs vs) placed.seen ∙ (sym (new_after seen vs n) ∙ (ap (λ (ns : List Node). new_among None seen (variables_in (map code_of ns))) (sym begun) ∙ before.seen)) in
    let place : k ≡ place_among all n = place_at_end seen now vs all n k placed.among placed.place (sym all_is) in
    let c : ℕ → NodeCode = λ m. inl (inl m) in
    record {
      seen = all_is;
      same = put_one out put node (c (place_among all n)) (anew_in all (map code_of rest)) target pushed (ap code_of node_is ∙ ap c place)
          (ap (λ (ns : List Node). map code_of out ++ anew_in all (map code_of ns)) (sym begun) ∙ before.same);
    }

-- a node that is no variable has none, and stays as it is
no_variable : (first : Node) (cs : List NodeCode) → ((n : ℕ) → first ≡ Variable n → ⊥) → variables_in (code_of first ∷ cs) ≡ variables_in cs
no_variable (Variable n) cs other = absurd (other n refl)
no_variable (Integer i) cs other = refl
no_variable (Atom a) cs other = refl
no_variable (Structure f n) cs other = refl

code_kept : (f : ℕ → ℕ) (first : Node) → ((n : ℕ) → first ≡ Variable n → ⊥) → code_of first ≡ code_renumbered f (code_of first)
code_kept f (Variable n) other = absurd (other n refl)
code_kept f (Integer i) other = refl
code_kept f (Atom a) other = refl
code_kept f (Structure g n) other = refl

pub other_renumbered : (seen all : List ℕ) (first : Node) (out put left rest : List Node) (target : List NodeCode) →
    ((n : ℕ) → first ≡ Variable n → ⊥) → left ≡ first ∷ rest → put ≡ out ++ first ∷ [] → Renumbers seen all out left target → Renumbers seen all put rest target
other_renumbered seen all first out put left rest target other begin pushed before = record {
  seen = ap (new_among None seen) (sym (no_variable first (map code_of rest) other)) ∙ (ap (λ (ns : List Node). new_among None seen (variables_in (map code_of ns))) (sym begin) ∙ before.seen);
  same = put_one out put first (code_renumbered (place_among all) (code_of first)) (anew_in all (map code_of rest)) target pushed (code_kept (place_among all) first other)
      (ap (λ (ns : List Node). map code_of out ++ anew_in all (map code_of ns)) (sym begin) ∙ before.same);
}

-- the nodes of a term with other numbers for its variables
mutual
  renumbered_one : (f : ℕ → ℕ) (t : Term) → renumbered_in f (nodes_of t) ≡ nodes_of (renumbered f t)
  renumbered_one f (variable n) = refl
  renumbered_one f (integer i) = refl
  renumbered_one f (atom a) = refl
  renumbered_one f (structure a ts) =
      ap₂ (λ (n : ℕ) (cs : List NodeCode). let c : NodeCode = inr (inr (a, n)) in c ∷ cs) (sym (as_many f ts)) (renumbered_all f ts)

  renumbered_all : (f : ℕ → ℕ) (ts : Terms) → renumbered_in f (nodes_of_all ts) ≡ nodes_of_all (each_substituted (λ n. variable (f n)) ts)
  renumbered_all f none = refl
  renumbered_all f (more t ts) = map-append (code_renumbered f) (nodes_of t) (nodes_of_all ts) ∙ ap₂ (λ (x y : List NodeCode). x ++ y) (renumbered_one f t) (renumbered_all f ts)

  as_many : (f : ℕ → ℕ) (ts : Terms) → count_of (each_substituted (λ n. variable (f n)) ts) ≡ count_of ts
  as_many f none = refl
  as_many f (more t ts) = ap suc (as_many f ts)

pub renumbered_is : (f : ℕ → ℕ) (cs ds : List NodeCode) (t : Term) → cs ≡ nodes_of t → ds ≡ renumbered_in f cs → ds ≡ nodes_of (renumbered f t)
renumbered_is f cs ds t e is = is ∙ (ap (renumbered_in f) e ∙ renumbered_one f t)

-- the variables of a term's nodes are the term's
pub variables_are : (cs : List NodeCode) (t : Term) → cs ≡ nodes_of t → variables_in cs ≡ variables_of t
variables_are cs t e = ap (λ (x : List NodeCode). variables_in x) (e ∙ sym (append-nil (nodes_of t))) ∙ (variables_one t [] ∙ append-nil (variables_of t))

pub told_is : (cs : List NodeCode) (t : Term) → cs ≡ nodes_of t → told_after 0 (variables_in cs) ≡ is_told_term t
told_is cs t e = ap (told_after 0) (variables_are cs t e)
