-- What stands at the top of a term.
use Rattle.std.specs.Prelude.{◌≡◌, ℕ, List}
use Rattle.kl1_model.specs.Term.{Term, variable, integer, atom, structure, Terms, none, more, count_of}
use Rattle.kl1_store.specs.Held.{Held, IsIn}
use Rattle.kl1_store.specs.Meaning.{term_of}
use Rattle.kl1_store.specs.Unbound.{IsUnbound}
use Rattle.kl1_stream.specs.declared.tops.Top.{Top}
use Rattle.kl1_stream.specs.declared.tops.Top.TheVariants.{Variable, Integer, Atom, One, Two, Other}

-- a structure that has neither one argument nor two
pub record IsOther (t : Term) : Type 0 where
  pub name : List ℕ
  pub arguments : Terms
  pub is : t ≡ structure name arguments
  pub not_one : count_of arguments ≡ 1 → ⊥
  pub not_two : count_of arguments ≡ 2 → ⊥

-- this stands at the top of a term
abbrev pub HasTop : {N : Type 0} → (N → List ℕ) → Held N → Term → Top N → Type 0
HasTop f h t (Variable v) = t ≡ variable v
HasTop f h t (Integer i) = t ≡ integer i
HasTop f h t (Atom name) = t ≡ atom (f name)
HasTop f h t (One name x) = t ≡ structure (f name) (more (term_of f h x) none)
HasTop f h t (Two name x y) = t ≡ structure (f name) (more (term_of f h x) (more (term_of f h y) none))
HasTop f h t Other = IsOther t

-- the cells are of the store, and a variable is unbound
abbrev pub TopIn : {N : Type 0} → Held N → Top N → Type 0
TopIn h (Variable v) = IsUnbound h v
TopIn h (Integer i) = Unit {0}
TopIn h (Atom name) = Unit {0}
TopIn h (One name x) = IsIn h x
TopIn h (Two name x y) = IsIn h x × IsIn h y
TopIn h Other = Unit {0}
