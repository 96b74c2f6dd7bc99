-- What other numbers for its variables leave as it is in a term.
use Rattle.std.proofs.Common.{◌≡◌, ℕ, suc, ◌+◌, ◌&&◌, ◌||◌, not, Bool, List, ◌∷◌, ◌++◌, refl, ap, ap₂}
use Rattle.std.specs.Prelude.{codes, bytes_eq}
use Rattle.kl1_model.specs.Term.{Term, variable, integer, atom, structure, Terms, none, more, count_of, each_substituted}
use Rattle.kl1_model.specs.Goal.{is_called, is_callee, is_execute, is_execute_goal, is_pair_goal, is_qualified_goal, is_goal}
use Rattle.kl1_model.specs.State.{names_of, names_in}
use Rattle.kl1_model.specs.Nodes.{structures_of, structures_in}
use Rattle.kl1_term.specs.Telling.{renumbered}

-- terms with other numbers for their variables
abbrev each_renumbered : (ℕ → ℕ) → Terms → Terms
each_renumbered f ts = each_substituted (λ n. variable (f n)) ts

mutual
  pub names_renumbered : (f : ℕ → ℕ) (t : Term) → names_of (renumbered f t) ≡ names_of t
  names_renumbered f (variable n) = refl
  names_renumbered f (integer i) = refl
  names_renumbered f (atom a) = refl
  names_renumbered f (structure a ts) = ap (λ (ns : List (List ℕ)). a ∷ ns) (names_in_renumbered f ts)

  names_in_renumbered : (f : ℕ → ℕ) (ts : Terms) → names_in (each_renumbered f ts) ≡ names_in ts
  names_in_renumbered f none = refl
  names_in_renumbered f (more t ts) = ap₂ (λ (x y : List (List ℕ)). x ++ y) (names_renumbered f t) (names_in_renumbered f ts)

mutual
  pub structures_renumbered : (f : ℕ → ℕ) (t : Term) → structures_of (renumbered f t) ≡ structures_of t
  structures_renumbered f (variable n) = refl
  structures_renumbered f (integer i) = refl
  structures_renumbered f (atom a) = refl
  structures_renumbered f (structure a ts) = ap suc (structures_in_renumbered f ts)

  structures_in_renumbered : (f : ℕ → ℕ) (ts : Terms) → structures_in (each_renumbered f ts) ≡ structures_in ts
  structures_in_renumbered f none = refl
  structures_in_renumbered f (more t ts) = ap₂ (λ (x y : ℕ). x + y) (structures_renumbered f t) (structures_in_renumbered f ts)

count_renumbered : (f : ℕ → ℕ) (ts : Terms) → count_of (each_renumbered f ts) ≡ count_of ts
count_renumbered f none = refl
count_renumbered f (more t ts) = ap suc (count_renumbered f ts)

-- ---- whether a term is a goal

callee_renumbered : (f : ℕ → ℕ) (t : Term) → is_callee (renumbered f t) ≡ is_callee t
callee_renumbered f (variable n) = refl
callee_renumbered f (integer i) = refl
callee_renumbered f (atom a) = refl
callee_renumbered f (structure a ts) = refl

execute_renumbered : (f : ℕ → ℕ) (m : List ℕ) (t : Term) → is_execute m (renumbered f t) ≡ is_execute m t
execute_renumbered f m (variable n) = refl
execute_renumbered f m (integer i) = refl
execute_renumbered f m (atom a) = refl
execute_renumbered f m (structure p ts) = ap (λ n. bytes_eq m (codes "shoen") && is_called (codes "execute") 6 p n) (count_renumbered f ts)

execute_goal_renumbered : (f : ℕ → ℕ) (a : List ℕ) (ts : Terms) → is_execute_goal (structure a (each_renumbered f ts)) ≡ is_execute_goal (structure a ts)
execute_goal_renumbered f a none = refl
execute_goal_renumbered f a (more (variable n) ts) = refl
execute_goal_renumbered f a (more (integer i) ts) = refl
execute_goal_renumbered f a (more (structure p us) ts) = refl
execute_goal_renumbered f a (more (atom m) none) = refl
execute_goal_renumbered f a (more (atom m) (more b none)) = ap (λ x. bytes_eq a (codes ":") && x) (execute_renumbered f m b)
execute_goal_renumbered f a (more (atom m) (more b (more c ts))) = refl

qualified_renumbered : (f : ℕ → ℕ) (a : List ℕ) (ts : Terms) → is_qualified_goal (structure a (each_renumbered f ts)) ≡ is_qualified_goal (structure a ts)
qualified_renumbered f a none = refl
qualified_renumbered f a (more (variable n) ts) = refl
qualified_renumbered f a (more (integer i) ts) = refl
qualified_renumbered f a (more (structure p us) ts) = refl
qualified_renumbered f a (more (atom m) none) = refl
qualified_renumbered f a (more (atom m) (more b none)) = ap₂ (λ x y. bytes_eq a (codes ":") && x && not y) (callee_renumbered f b) (execute_renumbered f m b)
qualified_renumbered f a (more (atom m) (more b (more c ts))) = refl

pub goal_renumbered : (f : ℕ → ℕ) (t : Term) → is_goal (renumbered f t) ≡ is_goal t
goal_renumbered f (variable n) = refl
goal_renumbered f (integer i) = refl
goal_renumbered f (atom a) = refl
goal_renumbered f (structure a ts) =
    ap₂ (λ x y. x || y)
    (ap₂ (λ (n : ℕ) (x : Bool). is_pair_goal a n || x) (count_renumbered f ts) (execute_goal_renumbered f a ts))
    (qualified_renumbered f a ts)
