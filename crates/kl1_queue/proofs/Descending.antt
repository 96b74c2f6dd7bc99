-- A tree from the top down.
use Rattle.std.proofs.Common.{◌≡◌, ℕ, zero, suc, ◌+◌, ◌*◌, ◌/◌, ◌%◌, ◌^◌, ◌<◌, ◌≤◌, List, get_or, add-one, arith, inl, inr}
use Rattle.std.proofs.lemmas.Bool.{cases_lt}
use Rattle.std.proofs.Math.Nat.{pow-succ', one-le-pow}
use Rattle.std.proofs.Math.Pow.{pow_mono}
use Rattle.kl1_queue.specs.Trees.{Tops, IsTree, Leads}
use Rattle.kl1_queue.proofs.Climbing.{IsParent}

-- a node's number is its parent's, doubled, or one more
pub parent_of : (j : ℕ) → IsParent (j / 2) j
parent_of j = elim (cases_lt (j % 2) 1) [ inl e ↦ inl (omega arith) | inr e ↦ inr (omega arith) ]

child_le : (bs : List ℕ) (k j : ℕ) → Tops bs k → IsParent k j → get_or bs j 0 ≤ get_or bs k 0
child_le bs k j t (inl e) = rw e (omega (arith, t))
child_le bs k j t (inr e) = rw e (omega (arith, t))

-- no node holds more than its parent
pub below_parent : (half : ℕ) (bs : List ℕ) (j : ℕ) → IsTree half bs → 1 < j → j < 2 * half → get_or bs j 0 ≤ get_or bs (j / 2) 0
below_parent half bs j t p q = child_le bs (j / 2) j (t.nodes (j / 2) (omega arith) (omega arith)) (parent_of j)

below_top_within : (fuel half : ℕ) (bs : List ℕ) (j : ℕ) → j ≤ fuel → IsTree half bs → 0 < j → j < 2 * half → get_or bs j 0 ≤ get_or bs 1 0
below_top_within zero half bs j f t p q = absurd (omega arith)
below_top_within (suc fuel) half bs j f t p q = elim (cases_lt 1 j) [
  | inl a ↦ omega (arith, below_parent half bs j t a q, below_top_within fuel half bs (j / 2) (omega arith) t (omega arith) (omega arith))
  | inr a ↦ let e : j ≡ 1 = omega arith in rw e (omega arith)
]

-- no node holds more than the top
pub below_top : (half : ℕ) (bs : List ℕ) (j : ℕ) → IsTree half bs → 0 < j → j < 2 * half → get_or bs j 0 ≤ get_or bs 1 0
below_top half bs j = below_top_within j half bs j (omega arith)

less_on : (half level node : ℕ) (bs : List ℕ) (j : ℕ) → IsTree half bs → Leads bs level node → 0 < level → node < half → 2 * level ≤ j → j < 2 * node → get_or bs j 0 < get_or bs 1 0
less_on half level node bs j t h s w p q = omega (arith, below_parent half bs j t (omega arith) (omega arith), h.less (j / 2) (omega arith) (omega arith))

-- the left child holds as much as the top
pub leads_left : (half level node : ℕ) (bs : List ℕ) → IsTree half bs → Leads bs level node → 0 < level → node < half → get_or bs 1 0 ≤ get_or bs (2 * node) 0 → Leads bs (2 * level) (2 * node)
leads_left half level node bs t h s w p =
    let tops = t.nodes node (omega (arith, h.from)) w in
    record {
      from = omega (arith, h.from);
      to = omega (arith, h.to);
      top = omega (arith, tops, h.top, p);
      less = λ j a b. less_on half level node bs j t h s w a b;
    }

-- the left child holds less than the top
pub leads_right : (half level node : ℕ) (bs : List ℕ) → IsTree half bs → Leads bs level node → 0 < level → node < half → get_or bs (2 * node) 0 < get_or bs 1 0 → Leads bs (2 * level) (2 * node + 1)
leads_right half level node bs t h s w p =
    let tops = t.nodes node (omega (arith, h.from)) w in
    record {
      from = omega (arith, h.from);
      to = omega (arith, h.to);
      top = omega (arith, tops, h.top, p);
      less = λ j a b. elim (cases_lt j (2 * node)) [
        | inl c ↦ less_on half level node bs j t h s w a c
        | inr c ↦ let e : j ≡ 2 * node = omega arith in rw e p
      ];
    }

-- levels double
pub level_doubles : (step : ℕ) → 2 ^ (step + 1) ≡ 2 * 2 ^ step
level_doubles step = rw add-one (pow-succ' 2 step)

-- a node above the leaves has children
pub above_leaves : (depth step node : ℕ) (bs : List ℕ) → step < depth → Leads bs (2 ^ step) node → (0 < 2 ^ step) × (node < 2 ^ depth)
above_leaves depth step node bs p h =
    let m : 2 ^ (step + 1) ≤ 2 ^ depth = pow_mono (omega arith) in
    let d = level_doubles step in
    (one-le-pow step 2 (omega arith), omega (arith, m, d, h.to))

-- a power of two that is less than 2 ^ 24 stays within it when it doubles
pub level_most : (step : ℕ) → 2 ^ step < 16777216 → 2 * 2 ^ step ≤ 16777216
level_most step h = elim (cases_lt step 24) [
  | inl a ↦ let m : 2 ^ (step + 1) ≤ 16777216 = pow_mono {i = step + 1} {j = 24} (omega arith) in omega (arith, m, level_doubles step)
  | inr a ↦ let m : 16777216 ≤ 2 ^ step = pow_mono {i = 24} {j = step} (omega arith) in absurd (omega (arith, m, h))
]
