-- Numbers in a row, and how often one stands in a list.
use Rattle.std.specs.Prelude.{ℕ, zero, suc, ◌+◌, ◌==◌, cond, List, [], ◌∷◌, sum_by}

-- `n` numbers in a row, from `a` on
abbrev pub up_from : ℕ → ℕ → List ℕ
up_from a zero = []
up_from a (suc n) = a ∷ up_from (a + 1) n

-- 1 if two numbers are the same, else 0
abbrev pub same : ℕ → ℕ → ℕ
same k n = cond (n == k) 1 0

-- how often a number stands in a list
abbrev pub times : ℕ → List ℕ → ℕ
times k ns = sum_by (same k) ns
