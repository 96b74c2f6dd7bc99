-- What parts of a clause come to, by the variables that are named for them.
use Rattle.std.specs.Prelude.{◌≡◌, ℕ, Bool, true, false, List, [], ◌++◌}
use Rattle.kl1_model.specs.declared.built_in.BuiltIn.{BuiltIn}
use Rattle.kl1_model.specs.Answer.{Answer, yes, no, wait}
use Rattle.kl1_text.specs.Reading.{Reads}
use Rattle.kl1_store.specs.Held.{Held}
use Rattle.kl1_match.specs.Waiting.{AreUnbound, AreSame}

-- nothing clashes: parts agree, and no variable is named, or wait for just those that are
abbrev pub WaitsFor : List ℕ → Answer → Type 0
WaitsFor named yes = named ≡ []
WaitsFor named no = ⊥
WaitsFor named (wait vs) = AreSame named vs

-- parts clash, if the answer is no, and else wait for these
abbrev pub ComesTo : Bool → List ℕ → Answer → Type 0
ComesTo true named outcome = WaitsFor named outcome
ComesTo false named outcome = outcome ≡ no

-- what parts come to, however names are read: the variables that are named for them are added to those before, all unbound
pub record Comes {N : Type 0} (built : BuiltIn → N) (h : Held N) (outcome : (N → List ℕ) → Answer) (before after : List ℕ) (answer : Bool) : Type 0 where
  pub named : List ℕ
  pub unbound : AreUnbound h named
  pub added : after ≡ before ++ named
  pub comes : (f : N → List ℕ) → Reads built f → ComesTo answer named (outcome f)
