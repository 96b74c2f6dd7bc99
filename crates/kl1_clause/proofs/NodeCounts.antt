-- The structures in the arguments of goals are counted by nodes.
use Rattle.std.proofs.Common.{◌≡◌, ℕ, zero, suc, ◌+◌, ◌-◌, ◌^◌, ◌≤◌, ◌<◌, ◌⊎◌, min, ◌&&◌, Bool, true, false, if◌then◌else◌, List, [], ◌∷◌, ◌++◌, length, map, take, drop, get_or, codes, bytes_eq, length-append, append-nil, append_assoc, refl, sym, ap, subst, ◌∙◌, arith, inl, inr}
use Rattle.std.proofs.lemmas.List.{length-map, take_all}
use Rattle.kl1_model.specs.Term.{Term, variable, integer, atom, structure, Terms, none, more, terms_of, count_of}
use Rattle.kl1_model.specs.code.TermCode.{NodeCode, nodes_of, nodes_of_all}
use Rattle.kl1_model.specs.Nodes.{structures_of, structures_in, argument_nodes, goal_nodes, goals_nodes}
use Rattle.kl1_term.specs.Nodes.{code_of, count_in, count_of_code}
use Rattle.kl1_term.specs.declared.node.Node.{Node}
use Rattle.kl1_term.specs.declared.node.Node.TheVariants.{Variable, Integer, Atom, Structure}
use Rattle.kl1_clause.specs.declared.instruction.Instruction.{Instruction}
use Rattle.kl1_clause.specs.BareGoals.{bare}
use Rattle.kl1_clause.specs.NodeCounts.{structures_counted, arguments_counted, behind_terms, nodes_counted}
use Rattle.kl1_clause.proofs.BareGoals.{alone, inside, parts, three}

-- the structures of a term, and of terms, with those of other nodes after them
mutual
  counted_of : (t : Term) (cs : List NodeCode) → structures_counted (nodes_of t ++ cs) ≡ structures_of t + structures_counted cs
  counted_of (variable n) cs = refl
  counted_of (integer i) cs = refl
  counted_of (atom a) cs = refl
  counted_of (structure f ts) cs = let h = counted_all ts cs in omega (arith, h)

  counted_all : (ts : Terms) (cs : List NodeCode) → structures_counted (nodes_of_all ts ++ cs) ≡ structures_in ts + structures_counted cs
  counted_all none cs = omega arith
  counted_all (more t ts) cs =
      let h = ap structures_counted (append_assoc (nodes_of t) (nodes_of_all ts) cs) in
      let i = counted_of t (nodes_of_all ts ++ cs) in
      let j = counted_all ts cs in
      omega (arith, h, i, j)

term_alone : (t : Term) → structures_counted (nodes_of t) ≡ structures_of t
term_alone t =
    let h = ap structures_counted (append-nil (nodes_of t)) in
    let i = counted_of t [] in
    omega (arith, h, i)

pub term_counted : (nodes : List Node) (t : Term) → map code_of nodes ≡ nodes_of t → structures_counted (map code_of nodes) ≡ structures_of t
term_counted nodes t e = ap structures_counted e ∙ term_alone t

counted_alone : (ts : Terms) → structures_counted (nodes_of_all ts) ≡ structures_in ts
counted_alone ts =
    let h = ap structures_counted (append-nil (nodes_of_all ts)) in
    let i = counted_all ts [] in
    omega (arith, h, i)

arguments_alone : (t : Term) → arguments_counted (nodes_of t) ≡ argument_nodes t
arguments_alone (variable n) = refl
arguments_alone (integer i) = refl
arguments_alone (atom a) = refl
arguments_alone (structure f ts) = counted_alone ts

plus_none : (k : ℕ) → k + 0 ≡ k
plus_none k = omega arith

turned : (k n : ℕ) → k + n ≡ n + k
turned k n = omega arith

one_more : (n k : ℕ) → suc n + k ≡ suc (n + k)
one_more n k = omega arith

none_plus : (k : ℕ) → 0 + k ≡ k
none_plus k = omega arith

-- what is after the nodes of one term more, and of more terms
mutual
  behind_one : (t : Term) (k : ℕ) (cs : List NodeCode) → behind_terms (suc k) (nodes_of t ++ cs) ≡ behind_terms k cs
  behind_one (variable n) k cs = ap (λ j. behind_terms j cs) (plus_none k)
  behind_one (integer i) k cs = ap (λ j. behind_terms j cs) (plus_none k)
  behind_one (atom a) k cs = ap (λ j. behind_terms j cs) (plus_none k)
  behind_one (structure f ts) k cs = ap (λ j. behind_terms j (nodes_of_all ts ++ cs)) (turned k (count_of ts)) ∙ behind_all ts k cs

  behind_all : (ts : Terms) (k : ℕ) (cs : List NodeCode) → behind_terms (count_of ts + k) (nodes_of_all ts ++ cs) ≡ behind_terms k cs
  behind_all none k cs = ap (λ j. behind_terms j cs) (none_plus k)
  behind_all (more t ts) k cs =
      ap (behind_terms (count_of (more t ts) + k)) (append_assoc (nodes_of t) (nodes_of_all ts) cs)
      ∙ ap (λ j. behind_terms j (nodes_of t ++ (nodes_of_all ts ++ cs))) (one_more (count_of ts) k)
      ∙ behind_one t (count_of ts + k) (nodes_of_all ts ++ cs)
      ∙ behind_all ts k cs

-- a goal with two arguments, by whether its name is `:`
two_counted : (m b : Term) (x : Bool) →
    if◌then◌else◌ {A = ℕ} x (arguments_counted (behind_terms 1 (nodes_of_all (more m (more b none))))) (structures_counted (nodes_of_all (more m (more b none))))
    ≡ if◌then◌else◌ {A = ℕ} x (argument_nodes b) (structures_in (more m (more b none)))
two_counted m b true = ap arguments_counted (behind_one m 0 (nodes_of b ++ []) ∙ append-nil (nodes_of b)) ∙ arguments_alone b
two_counted m b false = counted_alone (more m (more b none))

counted : (t : Term) → nodes_counted (nodes_of t) ≡ goal_nodes t
counted (variable n) = refl
counted (integer i) = refl
counted (atom a) = refl
counted (structure f none) = refl
counted (structure f (more m none)) = counted_alone (more m none)
counted (structure f (more m (more b none))) = two_counted m b (bytes_eq f (codes ":"))
counted (structure f (more m (more b (more c us)))) =
    ap (λ x. if◌then◌else◌ {A = ℕ} (x && bytes_eq f (codes ":")) (arguments_counted (behind_terms 1 (nodes_of_all (more m (more b (more c us)))))) (structures_counted (nodes_of_all (more m (more b (more c us)))))) (three (count_of us))
    ∙ counted_alone (more m (more b (more c us)))

pub goal_counted : (nodes : List Node) (t : Term) → map code_of nodes ≡ nodes_of t → nodes_counted (map code_of nodes) ≡ goal_nodes t
goal_counted nodes t e = ap nodes_counted e ∙ counted t

-- nothing is after more terms than there are nodes
behind_wide : (k : ℕ) (cs : List NodeCode) → length cs ≤ k → behind_terms k cs ≡ []
behind_wide zero [] h = refl
behind_wide zero (c ∷ cs) h = absurd (omega (arith, h))
behind_wide (suc k) [] h = refl
behind_wide (suc k) (c ∷ cs) h = behind_wide (k + count_of_code c) cs (omega (arith, h))

lt_or_le : (k n : ℕ) → (k < n) ⊎ (n ≤ k)
lt_or_le k zero = inr (omega arith)
lt_or_le zero (suc n) = inl (omega arith)
lt_or_le (suc k) (suc n) = elim (lt_or_le k n) [ inl h ↦ inl (omega arith) | inr h ↦ inr (omega arith) ]

-- how many terms are left, whether that is within a number or not
step_by : (n now : ℕ) (cs : List NodeCode) → length cs < 2 ^ 64 → now ≡ min n (2 ^ 64 - 1) → (n < 2 ^ 64) ⊎ (2 ^ 64 ≤ n) → behind_terms now cs ≡ behind_terms n cs
step_by n now cs few is (inl low) = let h : now ≡ n = omega (arith, is, low) in ap (λ j. behind_terms j cs) h
step_by n now cs few is (inr high) = behind_wide now cs (omega (arith, is, high, few)) ∙ sym (behind_wide n cs (omega (arith, high, few)))

pub count_same : (node : Node) → count_of_code (code_of node) ≡ count_in node
count_same (Variable n) = refl
count_same (Integer i) = refl
count_same (Atom a) = refl
count_same (Structure f n) = refl

minus_one : (k : ℕ) → suc k - 1 ≡ k
minus_one k = omega arith

pub behind_step : (left now : ℕ) (c : NodeCode) (cs : List NodeCode) → 0 < left → length cs < 2 ^ 64 → now ≡ min (left - 1 + count_of_code c) (2 ^ 64 - 1) → behind_terms now cs ≡ behind_terms left (c ∷ cs)
behind_step zero now c cs some few is = absurd (omega (arith, some))
behind_step (suc k) now c cs some few is =
    step_by (k + count_of_code c) now cs few (is ∙ ap (λ n. min (n + count_of_code c) (2 ^ 64 - 1)) (minus_one k)) (lt_or_le (k + count_of_code c) (2 ^ 64))

-- the nodes after the first, as a slice has them
rest_is : (n : Node) (ns : List Node) → take (length (n ∷ ns) - 1) (drop 1 (n ∷ ns)) ≡ ns
rest_is n ns = take_all (length (n ∷ ns) - 1) ns (omega arith)

pub fewer : (rest : List Node) → length rest < 2 ^ 64 → length (take (length rest - 1) (drop 1 rest)) < 2 ^ 64
fewer [] few = few
fewer (n ∷ ns) few = subst (λ ms. length ms < 2 ^ 64) (sym (rest_is n ns)) (omega (arith, few))

pub behind_next : (left now : ℕ) (rest : List Node) (first : Node) (all : List NodeCode) → 1 ≤ length rest → first ≡ get_or rest 0 first → length rest < 2 ^ 64 → ((cs : List NodeCode) → length cs < 2 ^ 64 → behind_terms now cs ≡ behind_terms left (code_of first ∷ cs)) → behind_terms left (map code_of rest) ≡ all → behind_terms now (map code_of (take (length rest - 1) (drop 1 rest))) ≡ all
behind_next left now [] first all some is few next same = absurd (omega (arith, some))
behind_next left now (n ∷ ns) first all some is few next same =
    let h = length-map ns code_of in
    ap (λ ms. behind_terms now (map code_of ms)) (rest_is n ns)
    ∙ next (map code_of ns) (omega (arith, few, h))
    ∙ ap (λ (m : Node). behind_terms left (code_of m ∷ map code_of ns)) is
    ∙ same

-- structures are no more than nodes
mutual
  structures_few : (t : Term) → structures_of t ≤ length (nodes_of t)
  structures_few (variable n) = omega arith
  structures_few (integer i) = omega arith
  structures_few (atom a) = omega arith
  structures_few (structure f ts) = let h = in_few ts in omega (arith, h)

  in_few : (ts : Terms) → structures_in ts ≤ length (nodes_of_all ts)
  in_few none = omega arith
  in_few (more t ts) =
      let h = structures_few t in
      let i = in_few ts in
      let j = length-append (nodes_of t) (nodes_of_all ts) in
      omega (arith, h, i, j)

argument_few : (t : Term) → argument_nodes t ≤ length (nodes_of t)
argument_few (variable n) = omega arith
argument_few (integer i) = omega arith
argument_few (atom a) = omega arith
argument_few (structure f ts) = let h = in_few ts in omega (arith, h)

two_few : (m b : Term) (x : Bool) → if◌then◌else◌ {A = ℕ} x (argument_nodes b) (structures_in (more m (more b none))) ≤ suc (length (nodes_of_all (more m (more b none))))
two_few m b true =
    let h = argument_few b in
    let i = length-append (nodes_of m) (nodes_of b ++ []) in
    let j = ap (length {A = NodeCode}) (append-nil (nodes_of b)) in
    omega (arith, h, i, j)
two_few m b false = let h = in_few (more m (more b none)) in omega (arith, h)

goal_few : (t : Term) → goal_nodes t ≤ length (nodes_of t)
goal_few (variable n) = omega arith
goal_few (integer i) = omega arith
goal_few (atom a) = omega arith
goal_few (structure f none) = omega arith
goal_few (structure f (more m none)) = let h = in_few (more m none) in omega (arith, h)
goal_few (structure f (more m (more b none))) = two_few m b (bytes_eq f (codes ":"))
goal_few (structure f (more m (more b (more c us)))) = let h = in_few (more m (more b (more c us))) in omega (arith, h)

bare_few : (t : Term) → goal_nodes t ≤ length (nodes_of (bare t))
bare_few t = elim (parts t) [
  | alone e same ↦ subst (λ u. goal_nodes t ≤ length (nodes_of u)) (sym same) (goal_few t)
  | inside m u is e same ↦
      subst (λ v. goal_nodes t ≤ length (nodes_of v)) (sym same) (subst (λ v. goal_nodes v ≤ length (nodes_of u)) (sym is) (argument_few u))
]

-- the structures of goals are no more than the nodes that are put
pub goals_few : (ts : List Term) → goals_nodes ts ≤ length (nodes_of_all (terms_of (map bare ts)))
goals_few [] = omega arith
goals_few (t ∷ ts) =
    let h = bare_few t in
    let i = goals_few ts in
    let j = length-append (nodes_of (bare t)) (nodes_of_all (terms_of (map bare ts))) in
    omega (arith, h, i, j)

-- so they are a number, as the nodes that are put are
pub goals_fit : (ts : List Term) (row : List Instruction) (code : Instruction → NodeCode) → map code row ≡ nodes_of_all (terms_of (map bare ts)) → length row < 2 ^ 64 → goals_nodes ts < 2 ^ 64
goals_fit ts row code same few =
    let h = goals_few ts in
    let i = ap (length {A = NodeCode}) same in
    let j = length-map row code in
    omega (arith, h, i, j, few)
