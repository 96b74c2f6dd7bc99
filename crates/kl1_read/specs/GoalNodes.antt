-- How the nodes of a goal begin.
use Rattle.std.specs.Prelude.{ℕ, ◌==◌, ◌&&◌, ◌||◌, Bool, true, false, List, ◌∷◌, codes, bytes_eq}
use Rattle.kl1_model.specs.Goal.{is_called, is_pair_goal}
use Rattle.kl1_term.specs.declared.node.Node.{Node}
use Rattle.kl1_term.specs.declared.node.Node.TheVariants.{Variable, Integer, Atom, Structure}

-- whether a term that begins with a node may stand after the name of a module
abbrev pub is_callee_node : Node → Bool
is_callee_node (Variable n) = false
is_callee_node (Integer i) = false
is_callee_node (Atom p) = true
is_callee_node (Structure p n) = true

-- whether nodes begin with the name of a module and a goal that may stand after it
abbrev pub begins_named : List Node → Bool
begins_named (Atom m ∷ callee ∷ nodes) = is_callee_node callee
begins_named _ = false

-- whether a structure with name `f` and `n` arguments, whose nodes these are, is a goal
abbrev pub begins_structure_goal : List ℕ → ℕ → List Node → Bool
begins_structure_goal f n nodes = is_pair_goal f n || (n == 2) && bytes_eq f (codes ":") && begins_named nodes

-- whether nodes begin as those of a goal do
abbrev pub begins_goal : List Node → Bool
begins_goal (Atom a ∷ nodes) = bytes_eq a (codes "true")
begins_goal (Structure f n ∷ nodes) = begins_structure_goal f n nodes
begins_goal _ = false

-- whether a term that begins with a node, after the name of a module, is `shoen:execute` with six arguments
abbrev pub is_execute_node : List ℕ → Node → Bool
is_execute_node m (Variable n) = false
is_execute_node m (Integer i) = false
is_execute_node m (Atom p) = false
is_execute_node m (Structure p n) = bytes_eq m (codes "shoen") && is_called (codes "execute") 6 p n

-- whether nodes begin with `shoen` and `execute` of six arguments
abbrev pub begins_execute : List Node → Bool
begins_execute (Atom m ∷ callee ∷ nodes) = is_execute_node m callee
begins_execute _ = false

-- whether a structure with name `f` and `n` arguments, whose nodes these are, is a built-in goal
abbrev pub begins_built_in_structure : List ℕ → ℕ → List Node → Bool
begins_built_in_structure f n nodes = is_pair_goal f n || (n == 2) && bytes_eq f (codes ":") && begins_execute nodes

-- whether nodes begin as those of a built-in goal do
abbrev pub begins_built_in : List Node → Bool
begins_built_in (Atom a ∷ nodes) = bytes_eq a (codes "true")
begins_built_in (Structure f n ∷ nodes) = begins_built_in_structure f n nodes
begins_built_in _ = false
