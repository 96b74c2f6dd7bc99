-- The leaves of a queue's tree as ranks.
use Rattle.std.proofs.Common.{◌≡◌, ℕ, ◌+◌, ◌-◌, ◌*◌, ◌^◌, ◌<◌, ◌≤◌, List, [], ◌∷◌, ◌++◌, length, get_or, set, take, drop, replicate, sym, ◌∙◌, ap, arith, inl, inr}
use Rattle.std.proofs.lemmas.List.{get_or-take, get_or-drop, get_or_past, length-take-le, length-drop, get_or-set_same, get_or-set_other, get_or-replicate, length-replicate, take_more_set, take-set, take-take}
use Rattle.std.proofs.Math.Seq.{take-set-lt}
use Rattle.std.proofs.lemmas.Bool.{cases_lt, cases_eq}
use Rattle.kl1_queue.specs.Ranks.{AreNone, IsFirst}
use Rattle.kl1_queue.specs.Trees.{IsTree, Leads, IsKept}
use Rattle.kl1_queue.proofs.Climbing.{leaf_same}
use Rattle.kl1_queue.proofs.Descending.{below_top}

pub length_ranks : (half depth len : ℕ) (bs : List ℕ) → IsKept half depth len bs → length (take len (drop half bs)) ≡ len
length_ranks half depth len bs q = length-take-le len (drop half bs) (omega (arith, length-drop half bs, q.tree.size, q.within))

-- the rank of a place is its leaf
pub rank_at : (half depth len : ℕ) (bs : List ℕ) (k : ℕ) → IsKept half depth len bs → get_or (take len (drop half bs)) k 0 ≡ get_or bs (half + k) 0
rank_at half depth len bs k q = elim (cases_lt k len) [
  | inl a ↦ get_or-take len (drop half bs) k 0 a ∙ get_or-drop half bs k 0
  | inr a ↦ get_or_past (take len (drop half bs)) k 0 (omega (arith, length_ranks half depth len bs q)) ∙ sym (q.rest k a)
]

leaf_le : (half depth len : ℕ) (bs : List ℕ) (k : ℕ) → IsKept half depth len bs → get_or bs (half + k) 0 ≤ get_or bs 1 0
leaf_le half depth len bs k q = elim (cases_lt k half) [
  | inl a ↦ below_top half bs (half + k) q.tree (omega arith) (omega arith)
  | inr a ↦ omega (arith, q.rest k (omega (arith, q.within)))
]

pub none_without : (half depth len : ℕ) (bs : List ℕ) → IsKept half depth len bs → half ≡ 0 → AreNone (take len (drop half bs))
none_without half depth len bs q e j = rank_at half depth len bs j q ∙ q.rest j (omega (arith, q.within))

pub none_ready : (half depth len : ℕ) (bs : List ℕ) → IsKept half depth len bs → get_or bs 1 0 ≡ 0 → AreNone (take len (drop half bs))
none_ready half depth len bs q e j = let p = leaf_le half depth len bs j q in omega (arith, p, rank_at half depth len bs j q)

-- no rank is greater than the top's
pub top_most : (half depth len : ℕ) (bs : List ℕ) (k : ℕ) → IsKept half depth len bs → get_or (take len (drop half bs)) k 0 ≤ get_or bs 1 0
top_most half depth len bs k q = omega (arith, rank_at half depth len bs k q, leaf_le half depth len bs k q)

pub first_ready : (half depth len leaf : ℕ) (bs : List ℕ) → IsKept half depth len bs → 0 < half → 0 < get_or bs 1 0 → Leads bs half leaf → IsFirst (take len (drop half bs)) (leaf - half)
first_ready half depth len leaf bs q h s l =
    let e : half + (leaf - half) ≡ leaf = omega (arith, l.from) in
    let top : get_or bs (half + (leaf - half)) 0 ≡ get_or bs 1 0 = rw e l.top in
    let r = rank_at half depth len bs (leaf - half) q in
    let inside : leaf - half < len = elim (cases_lt (leaf - half) len) [
      | inl a ↦ a
      | inr a ↦ absurd (omega (arith, q.rest (leaf - half) a, top))
    ] in
    record {
      within = omega (arith, length_ranks half depth len bs q);
      ready = omega (arith, r, top);
      greatest = λ j. omega (arith, rank_at half depth len bs j q, leaf_le half depth len bs j q, r, top);
      least = λ j a. omega (arith, rank_at half depth len bs j q, l.less (half + j) (omega arith) (omega (arith, l.from)), r, top);
    }

rest_set : (half len place rank k : ℕ) (bs cs : List ℕ) → drop half cs ≡ set (drop half bs) place rank → (k ≡ place → ⊥) → get_or cs (half + k) 0 ≡ get_or bs (half + k) 0
rest_set half len place rank k bs cs e n =
    sym (get_or-drop half cs k 0) ∙ ap (λ (l : List ℕ). get_or l k 0) e ∙ get_or-set_other (drop half bs) place k rank 0 n ∙ get_or-drop half bs k 0

-- one place more
pub kept_extended : (half depth len rank : ℕ) (bs cs : List ℕ) → IsKept half depth len bs → len < half → IsTree half cs → drop half cs ≡ set (drop half bs) len rank → IsKept half depth (len + 1) cs
kept_extended half depth len rank bs cs q w t e = record {
  tree = t;
  level = q.level;
  within = omega arith;
  rest = λ k a. rest_set half len len rank k bs cs e (λ f. omega (arith, f)) ∙ q.rest k (omega arith);
}

pub ranks_extended : (half depth len rank : ℕ) (bs cs : List ℕ) → IsKept half depth len bs → len < half → drop half cs ≡ set (drop half bs) len rank → take (len + 1) (drop half cs) ≡ take len (drop half bs) ++ rank ∷ []
ranks_extended half depth len rank bs cs q w e = ap (take (len + 1)) e ∙ take_more_set (drop half bs) len rank (omega (arith, length-drop half bs, q.tree.size))

-- one place more that isn't ready
pub kept_unready : (half depth len : ℕ) (bs : List ℕ) → IsKept half depth len bs → len < half → IsKept half depth (len + 1) bs
kept_unready half depth len bs q w = kept_extended half depth len 0 bs bs q w q.tree (leaf_same half len 0 bs (q.rest len (omega arith)))

pub ranks_unready : (half depth len : ℕ) (bs : List ℕ) → IsKept half depth len bs → len < half → take (len + 1) (drop half bs) ≡ take len (drop half bs) ++ 0 ∷ []
ranks_unready half depth len bs q w = ranks_extended half depth len 0 bs bs q w (leaf_same half len 0 bs (q.rest len (omega arith)))

-- a place's rank changed
pub kept_set : (half depth len place rank : ℕ) (bs cs : List ℕ) → IsKept half depth len bs → place < len → IsTree half cs → drop half cs ≡ set (drop half bs) place rank → IsKept half depth len cs
kept_set half depth len place rank bs cs q w t e = record {
  tree = t;
  level = q.level;
  within = q.within;
  rest = λ k a. rest_set half len place rank k bs cs e (λ f. omega (arith, f)) ∙ q.rest k a;
}

pub ranks_set : (half len place rank : ℕ) (bs cs : List ℕ) → place < len → drop half cs ≡ set (drop half bs) place rank → take len (drop half cs) ≡ set (take len (drop half bs)) place rank
ranks_set half len place rank bs cs w e = ap (take len) e ∙ take-set-lt len (drop half bs) place rank w

-- the last place gone
pub kept_shortened : (half depth len place : ℕ) (bs cs : List ℕ) → IsKept half depth len bs → place + 1 ≡ len → IsTree half cs → drop half cs ≡ set (drop half bs) place 0 → IsKept half depth place cs
kept_shortened half depth len place bs cs q s t e = record {
  tree = t;
  level = q.level;
  within = omega (arith, q.within);
  rest = λ k a. elim (cases_eq k place) [
    | inl f ↦ sym (get_or-drop half cs k 0) ∙ ap (λ (l : List ℕ). get_or l k 0) e ∙ rw f (get_or-set_same (drop half bs) place 0 0 (omega (arith, length-drop half bs, q.tree.size, q.within)))
    | inr n ↦ rest_set half len place 0 k bs cs e n ∙ q.rest k (omega arith)
  ];
}

pub ranks_shortened : (half len place count : ℕ) (bs cs : List ℕ) → place + 1 ≡ len → count ≡ len → drop half cs ≡ set (drop half bs) place 0 → take place (drop half cs) ≡ take (count - 1) (take len (drop half bs))
ranks_shortened half len place count bs cs s f e =
    let one : count - 1 ≡ place = omega (arith, s, f) in
    ap (take place) e ∙ take-set (drop half bs) place 0 ∙ rw one (sym (take-take place len (drop half bs) (omega arith)))

-- no rank at all
nothing_at : (half rank i : ℕ) → get_or (replicate (2 * half) rank) i rank ≡ rank
nothing_at half rank i = elim (cases_lt i (2 * half)) [
  | inl a ↦ get_or-replicate (2 * half) i rank rank a
  | inr a ↦ get_or_past (replicate (2 * half) rank) i rank (omega (arith, length-replicate (2 * half) rank))
]

pub kept_new : (half depth : ℕ) → half ≡ 2 ^ depth → IsKept half depth 0 (replicate (2 * half) 0)
kept_new half depth e = record {
  tree = record { size = length-replicate (2 * half) 0; nodes = λ i a b. omega (arith, nothing_at half 0 i, nothing_at half 0 (2 * i), nothing_at half 0 (2 * i + 1)) };
  level = λ _. e;
  within = omega arith;
  rest = λ k a. nothing_at half 0 (half + k);
}
