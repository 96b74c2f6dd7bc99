-- How heads and tests are told by their names and first nodes.
use Rattle.std.specs.Prelude.{ℕ, ◌==◌, not, ◌&&◌, ◌||◌, Bool, false, List, [], ◌∷◌, codes, bytes_eq}
use Rattle.std.specs.List.{list_any}
use Rattle.kl1_model.specs.declared.built_in.BuiltIn.{BuiltIn}
use Rattle.kl1_model.specs.declared.built_in.BuiltIn.TheVariants.{Equal, NotEqual, Less, Greater, AtMost, AtLeast, SameNumber, OtherNumber, Wait, Integer, Atom, ListTest}
use Rattle.kl1_model.specs.Text.{text_of}
use Rattle.kl1_model.specs.Goal.{is_reserved, is_atom_from}
use Rattle.kl1_term.specs.declared.node.Node.{Node}
use Rattle.kl1_term.specs.declared.node.Node.TheVariants as node

-- whether a name may be a head without arguments
abbrev pub may_name_atom : List ℕ → Bool
may_name_atom p = not (is_reserved p) && not (bytes_eq p (codes "true")) && not (bytes_eq p (codes "otherwise"))

-- whether `p` may be the name of a head with `n` arguments
abbrev pub may_name_structure : List ℕ → ℕ → Bool
may_name_structure p n = not (is_reserved p) && not (is_atom_from p n)

-- whether a term that begins with a node is a head
abbrev pub node_heads : Node → Bool
node_heads (node.Variable n) = false
node_heads (node.Integer i) = false
node_heads (node.Atom p) = may_name_atom p
node_heads (node.Structure p n) = may_name_structure p n

-- whether nodes begin as those of a head do
abbrev pub begins_head : List Node → Bool
begins_head [] = false
begins_head (node ∷ nodes) = node_heads node

-- the names of tests of one term
abbrev pub look_names : List BuiltIn
look_names = Wait ∷ Integer ∷ Atom ∷ ListTest ∷ []

-- the names of tests of two terms
abbrev pub compare_names : List BuiltIn
compare_names = Equal ∷ NotEqual ∷ Less ∷ Greater ∷ AtMost ∷ AtLeast ∷ SameNumber ∷ OtherNumber ∷ []

-- whether a name is one of these
abbrev pub is_named : List ℕ → List BuiltIn → Bool
is_named p names = list_any (λ b. bytes_eq p (text_of b)) names

-- whether a structure with name `f` and `n` arguments is a test
abbrev pub is_structure_test : List ℕ → ℕ → Bool
is_structure_test f n = (n == 1) && is_named f look_names || (n == 2) && is_named f compare_names

-- whether nodes begin as those of a test do
abbrev pub begins_test : List Node → Bool
begins_test (node.Atom a ∷ nodes) = bytes_eq a (codes "true")
begins_test (node.Structure f n ∷ nodes) = is_structure_test f n
begins_test _ = false
