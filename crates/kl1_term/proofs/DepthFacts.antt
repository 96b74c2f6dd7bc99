-- Depths that are found node by node are those of the terms.
use Rattle.std.proofs.Common.{◌≡◌, ◌≢◌, ℕ, zero, suc, ◌-◌, ◌<◌, ◌≤◌, ◌^◌, max, List, [], ◌∷◌, ◌++◌, length, map, drop, get_or, Bool, true, false, ◌&&◌, if◌then◌else◌, nat_le, bytes_eq, codes, append_assoc, refl, ap, sym, ◌∙◌, inl, inr, arith}
use Rattle.std.proofs.lemmas.List.{reverse-append, append-nil, length-map, length-drop}
use Rattle.std.proofs.Math.Seq.{drop-cons}
use Rattle.kl1_model.specs.declared.limits.TheConstants.{MOST_ARGUMENTS, MOST_DEPTH}
use Rattle.kl1_model.specs.Text.{is_text}
use Rattle.kl1_model.specs.Term.{Term, variable, integer, atom, structure, Terms, none, more, count_of}
use Rattle.kl1_model.specs.code.TermCode.{NodeCode, nodes_of, nodes_of_all, read_nodes, first_term, behind_first, front_of, behind, reads-back}
use Rattle.kl1_model.specs.Meaning.{Depth, flat, depths, depth, deepest, pair_depth, cell_depth, is_narrow, are_narrow, is_writable}
use Rattle.kl1_term.specs.Nodes.{code_of}
use Rattle.kl1_term.specs.Depths.{depth_of, depths_on, first_depth, behind_depth, deepest_of, depths_behind, structure_depth, with_depth, depths_in, AreLow}
use Rattle.kl1_term.specs.Narrow.{is_narrow_node}
use Rattle.std.specs.List.{list_all}
use Rattle.kl1_term.specs.declared.depth.Depth.{Depth as Kept}
use Rattle.kl1_term.specs.declared.node.Node.{Node}

-- the depths of terms as lists of terms are cut
first_is : (ts : List Term) → first_depth (map depths ts) ≡ depths (first_term ts)
first_is [] = refl
first_is (t ∷ ts) = refl

behind_is : (ts : List Term) → behind_depth (map depths ts) ≡ map depths (behind_first ts)
behind_is [] = refl
behind_is (t ∷ ts) = refl

deepest_is : (n : ℕ) (ts : List Term) → deepest_of n (map depths ts) ≡ deepest (front_of n ts)
deepest_is zero ts = refl
deepest_is (suc n) ts =
    ap (λ (d : Depth). max d.whole (deepest_of n (behind_depth (map depths ts)))) (first_is ts)
    ∙ (ap (λ (ds : List Depth). max (depths (first_term ts)).whole (deepest_of n ds)) (behind_is ts)
    ∙ ap (λ (m : ℕ). max (depths (first_term ts)).whole m) (deepest_is n (behind_first ts)))

rest_is : (n : ℕ) (ts : List Term) → depths_behind n (map depths ts) ≡ map depths (behind n ts)
rest_is zero ts = refl
rest_is (suc n) ts = ap (depths_behind n) (behind_is ts) ∙ rest_is n (behind_first ts)

structure_is : (f : List ℕ) (n : ℕ) (ts : List Term) → structure_depth f n (map depths ts) ≡ depths (structure f (front_of n ts))
structure_is f zero ts = refl
structure_is f (suc zero) ts = ap (λ (m : ℕ). flat (suc m)) (deepest_is 1 ts)
structure_is f (suc (suc zero)) ts =
    ap (λ (d : Depth). pair_depth f d (first_depth (behind_depth (map depths ts)))) (first_is ts)
    ∙ (ap (λ (ds : List Depth). pair_depth f (depths (first_term ts)) (first_depth ds)) (behind_is ts)
    ∙ ap (pair_depth f (depths (first_term ts))) (first_is (behind_first ts)))
structure_is f (suc (suc (suc n))) ts = ap (λ (m : ℕ). flat (suc m)) (deepest_is (suc (suc (suc n))) ts)

-- the depths found are those of the terms that nodes make
pub depths_are : (cs : List NodeCode) → depths_in cs ≡ map depths (read_nodes cs [])
depths_are [] = refl
depths_are (inl (inl n) ∷ cs) = ap (λ (ds : List Depth). flat 1 ∷ ds) (depths_are cs)
depths_are (inl (inr i) ∷ cs) = ap (λ (ds : List Depth). flat 1 ∷ ds) (depths_are cs)
depths_are (inr (inl a) ∷ cs) = ap (λ (ds : List Depth). flat 1 ∷ ds) (depths_are cs)
depths_are (inr (inr p) ∷ cs) =
    ap (λ (ds : List Depth). structure_depth p.0 p.1 ds ∷ depths_behind p.1 ds) (depths_are cs)
    ∙ (ap (λ (d : Depth). d ∷ depths_behind p.1 (map depths (read_nodes cs []))) (structure_is p.0 p.1 (read_nodes cs []))
    ∙ ap (λ (ds : List Depth). depths (structure p.0 (front_of p.1 (read_nodes cs []))) ∷ ds) (rest_is p.1 (read_nodes cs [])))

-- so the first is the depth of a term whose nodes they are
pub depth_is : (cs : List NodeCode) (t : Term) → cs ≡ nodes_of t → (first_depth (depths_in cs)).whole ≡ depth t
depth_is cs t e =
    ap (λ (ds : List Depth). (first_depth ds).whole) (depths_are cs ∙ ap (λ (x : List NodeCode). map depths (read_nodes x [])) e ∙ ap (map depths) (reads-back t []))

-- what is put on a stack is the first on it
pub on_top : (stack : List Kept) (d : Kept) → depths_on (stack ++ d ∷ []) ≡ depth_of d ∷ depths_on stack
on_top stack d = ap (map depth_of) (reverse-append stack (d ∷ []))

-- and what is taken from it was the first on it
pub taken : (old new : List Kept) (d : Kept) → old ≡ new ++ d ∷ [] → (depth_of d ≡ first_depth (depths_on old)) × (depths_on new ≡ behind_depth (depths_on old))
taken old new d e =
    let top : depths_on old ≡ depth_of d ∷ depths_on new = ap depths_on e ∙ on_top new d in
    (sym (ap first_depth top), sym (ap behind_depth top))

-- the depths of one more
pub deepest_next : (n : ℕ) (ds : List Depth) → 0 < n → deepest_of n ds ≡ max (first_depth ds).whole (deepest_of (n - 1) (behind_depth ds))
deepest_next zero ds h = absurd (omega arith)
deepest_next (suc n) ds h =
    let e : n ≡ suc n - 1 = omega arith in
    ap (λ (m : ℕ). max (first_depth ds).whole (deepest_of m (behind_depth ds))) e

pub behind_next : (n : ℕ) (ds : List Depth) → 0 < n → depths_behind n ds ≡ depths_behind (n - 1) (behind_depth ds)
behind_next zero ds h = absurd (omega arith)
behind_next (suc n) ds h =
    let e : n ≡ suc n - 1 = omega arith in
    ap (λ (m : ℕ). depths_behind m (behind_depth ds)) e

-- a structure of any other number of arguments than two
pub other_structure : (f : List ℕ) (n : ℕ) (ds : List Depth) → n ≢ 2 → structure_depth f n ds ≡ flat (suc (deepest_of n ds))
other_structure f zero ds h = refl
other_structure f (suc zero) ds h = refl
other_structure f (suc (suc zero)) ds h = absurd (h refl)
other_structure f (suc (suc (suc n))) ds h = refl

-- depths that are low stay so
pub low_first : (most : ℕ) (ds : List Depth) → 1 ≤ most → AreLow most ds → ((first_depth ds).whole ≤ most) × ((first_depth ds).rest ≤ most)
low_first most [] some low = (some, some)
low_first most (d ∷ ds) some low = (low.0, low.1)

pub low_behind : (most : ℕ) (ds : List Depth) → AreLow most ds → AreLow most (behind_depth ds)
low_behind most [] low = tt
low_behind most (d ∷ ds) low = low.2

pub low_deepest : (most n : ℕ) (ds : List Depth) → 1 ≤ most → AreLow most ds → deepest_of n ds ≤ most
low_deepest most zero ds some low = omega arith
low_deepest most (suc n) ds some low =
    omega (arith, (low_first most ds some low).0, low_deepest most n (behind_depth ds) some (low_behind most ds low))

low_rest : (most n : ℕ) (ds : List Depth) → AreLow most ds → AreLow most (depths_behind n ds)
low_rest most zero ds low = low
low_rest most (suc n) ds low = low_rest most n (behind_depth ds) (low_behind most ds low)

pub low_more : (less most : ℕ) (ds : List Depth) → less ≤ most → AreLow less ds → AreLow most ds
low_more less most [] h low = tt
low_more less most (d ∷ ds) h low = (omega (arith, low.0), omega (arith, low.1), low_more less most ds h low.2)

-- a depth is at most 1 more than there are nodes
low_pair : (f : List ℕ) (most : ℕ) (a b : Depth) → a.whole ≤ most → b.whole ≤ most → b.rest ≤ most → ((pair_depth f a b).whole ≤ suc most) × ((pair_depth f a b).rest ≤ suc most)
low_pair f most a b h k r = low_pair_by (bytes_eq f (codes "."))
  where
    low_pair_by : (dot : Bool) → ((if dot then cell_depth a b else flat (suc (max a.whole b.whole))).whole ≤ suc most) × ((if dot then cell_depth a b else flat (suc (max a.whole b.whole))).rest ≤ suc most)
    low_pair_by true = (omega arith, omega arith)
    low_pair_by false = (omega arith, omega arith)

low_structure : (f : List ℕ) (n most : ℕ) (ds : List Depth) → 1 ≤ most → AreLow most ds → ((structure_depth f n ds).whole ≤ suc most) × ((structure_depth f n ds).rest ≤ suc most)
low_structure f zero most ds some low = (omega arith, omega arith)
low_structure f (suc zero) most ds some low =
    let d = low_deepest most 1 ds some low in
    (omega arith, omega arith)
low_structure f (suc (suc zero)) most ds some low =
    let a = low_first most ds some low in
    let b = low_first most (behind_depth ds) some (low_behind most ds low) in
    low_pair f most (first_depth ds) (first_depth (behind_depth ds)) a.0 b.0 b.1
low_structure f (suc (suc (suc n))) most ds some low =
    let d = low_deepest most (suc (suc (suc n))) ds some low in
    (omega arith, omega arith)

low_constant : (most : ℕ) (ds : List Depth) → 1 ≤ most → AreLow most ds → AreLow (suc most) (flat 1 ∷ ds)
low_constant most ds some low = (omega arith, omega arith, low_more most (suc most) ds (omega arith) low)

pub low_in : (cs : List NodeCode) → AreLow (suc (length cs)) (depths_in cs)
low_in [] = tt
low_in (inl x ∷ cs) = low_constant (suc (length cs)) (depths_in cs) (omega arith) (low_in cs)
low_in (inr (inl a) ∷ cs) = low_constant (suc (length cs)) (depths_in cs) (omega arith) (low_in cs)
low_in (inr (inr p) ∷ cs) =
    let some : 1 ≤ suc (length cs) = omega arith in
    let d = low_structure p.0 p.1 (suc (length cs)) (depths_in cs) some (low_in cs) in
    (d.0, d.1, low_more (suc (length cs)) (suc (suc (length cs))) (depths_behind p.1 (depths_in cs)) (omega arith) (low_rest (suc (length cs)) p.1 (depths_in cs) (low_in cs)))

-- the depths on a stack of those of nodes after a place are low
pub low_at : (nodes : List Node) (at : ℕ) (ds : List Depth) → ds ≡ depths_in (map code_of (drop at nodes)) → length nodes < 2 ^ 63 → AreLow (2 ^ 63) ds
low_at nodes at ds e small =
    let count : length (map code_of (drop at nodes)) ≤ length nodes = simp (length-map, length-drop) (omega arith) in
    rw e (low_more (suc (length (map code_of (drop at nodes)))) (2 ^ 63) (depths_in (map code_of (drop at nodes))) (omega arith) (low_in (map code_of (drop at nodes))))

-- the node before a place
pub node_before : (nodes : List Node) (at : ℕ) (node : Node) (ds : List Depth) → 0 < at → at ≤ length nodes → node ≡ get_or nodes (at - 1) node → ds ≡ with_depth (code_of node) (depths_in (map code_of (drop at nodes))) → ds ≡ depths_in (map code_of (drop (at - 1) nodes))
node_before nodes at node ds some within is e =
    let within_it : at - 1 < length nodes = omega arith in
    let cons : drop (at - 1) nodes ≡ get_or nodes (at - 1) node ∷ drop (suc (at - 1)) nodes = drop-cons nodes (at - 1) node within_it in
    let back : suc (at - 1) ≡ at = omega arith in
    e ∙ sym (ap (λ (ns : List Node). depths_in (map code_of ns)) (cons ∙ ap (λ (n : Node). n ∷ drop (suc (at - 1)) nodes) (sym is) ∙ ap (λ (k : ℕ). node ∷ drop k nodes) back))

-- one more of the depths of arguments
pub next_deepest : (n : ℕ) (old new : List Depth) (taken : Depth) (so_far now all : ℕ) → 0 < n → taken ≡ first_depth old → new ≡ behind_depth old → now ≡ max so_far taken.whole → max so_far (deepest_of n old) ≡ all → max now (deepest_of (n - 1) new) ≡ all
next_deepest n old new taken so_far now all some first rest is e =
    let next : deepest_of n old ≡ max (first_depth old).whole (deepest_of (n - 1) (behind_depth old)) = deepest_next n old some in
    let whole : taken.whole ≡ (first_depth old).whole = ap (λ (d : Depth). d.whole) first in
    rw rest (omega arith)

pub next_behind : (n : ℕ) (old new : List Depth) (all : List Depth) → 0 < n → new ≡ behind_depth old → depths_behind n old ≡ all → depths_behind (n - 1) new ≡ all
next_behind n old new all some rest e = rw rest (sym (behind_next n old some) ∙ e)

and_assoc : (a b c : Bool) → a && (b && c) ≡ (a && b) && c
and_assoc true b c = refl
and_assoc false b c = refl

-- narrow nodes are those of narrow terms
mutual
  narrow_one : (t : Term) (cs : List NodeCode) → list_all is_narrow_node (nodes_of t ++ cs) ≡ is_narrow t && list_all is_narrow_node cs
  narrow_one (variable n) cs = refl
  narrow_one (integer i) cs = refl
  narrow_one (atom a) cs = refl
  narrow_one (structure f ts) cs =
      ap (λ (b : Bool). (is_text f && nat_le 1 (count_of ts) && nat_le (count_of ts) MOST_ARGUMENTS) && b) (narrow_all ts cs)
      ∙ and_assoc (is_text f && nat_le 1 (count_of ts) && nat_le (count_of ts) MOST_ARGUMENTS) (are_narrow ts) (list_all is_narrow_node cs)

  narrow_all : (ts : Terms) (cs : List NodeCode) → list_all is_narrow_node (nodes_of_all ts ++ cs) ≡ are_narrow ts && list_all is_narrow_node cs
  narrow_all none cs = refl
  narrow_all (more t ts) cs =
      ap (list_all is_narrow_node) (append_assoc (nodes_of t) (nodes_of_all ts) cs)
      ∙ (narrow_one t (nodes_of_all ts ++ cs)
      ∙ (ap (λ (b : Bool). is_narrow t && b) (narrow_all ts cs) ∙ and_assoc (is_narrow t) (are_narrow ts) (list_all is_narrow_node cs)))

pub narrow_is : (cs : List NodeCode) (t : Term) → cs ≡ nodes_of t → list_all is_narrow_node cs ≡ is_narrow t
narrow_is cs t e = ap (list_all is_narrow_node) (e ∙ sym (append-nil (nodes_of t))) ∙ (narrow_one t [] ∙ and_true (is_narrow t))
  where
    and_true : (b : Bool) → b && true ≡ b
    and_true true = refl
    and_true false = refl

-- whether a term can be written, by its nodes and its depth
pub not_narrow : (cs : List NodeCode) (t : Term) → cs ≡ nodes_of t → list_all is_narrow_node cs ≡ false → false ≡ is_writable t
not_narrow cs t e h = sym (ap (λ (b : Bool). b && nat_le (depth t) MOST_DEPTH) (sym (narrow_is cs t e) ∙ h))

pub narrow_deep : (cs : List NodeCode) (t : Term) (deep : ℕ) → cs ≡ nodes_of t → list_all is_narrow_node cs ≡ true → deep ≡ depth t → nat_le deep MOST_DEPTH ≡ is_writable t
narrow_deep cs t deep e h d =
    ap (λ (k : ℕ). nat_le k MOST_DEPTH) d ∙ sym (ap (λ (b : Bool). b && nat_le (depth t) MOST_DEPTH) (sym (narrow_is cs t e) ∙ h))
