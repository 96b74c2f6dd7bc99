-- What passive equality of cells promises, by its definition on terms.
use Rattle.std.specs.Prelude.{◌≡◌, ℕ, ◌↔◌, Bool, true, false, List, ◌++◌, Contains}
use Rattle.kl1_model.specs.declared.built_in.BuiltIn.{BuiltIn}
use Rattle.kl1_model.specs.code.Comparing.{same, differs, unknown, clash, passive_each, awaited, awaited_by}
use Rattle.kl1_text.specs.Reading.{Reads}
use Rattle.kl1_store.specs.declared.cell.Cell.{Cell}
use Rattle.kl1_store.specs.declared.same.Same.{Same}
use Rattle.kl1_store.specs.declared.same.Same.TheVariants.{Yes, No, Wait}
use Rattle.kl1_store.specs.Held.{Held}
use Rattle.kl1_store.specs.Meaning.{term_of}
use Rattle.kl1_store.specs.ComparesEach.{term_list}
use Rattle.kl1_store.specs.Unbound.{AreUnbound}

-- the answer is the definition's, and each variable that is waited for is named, and no other
abbrev pub SameAs : {N : Type 0} → (BuiltIn → N) → Held N → List (Cell N) → Same → Type 0
SameAs built h xs Yes = (f : _) → Reads built f → passive_each (term_list f h xs) ≡ same
SameAs built h xs No = (f : _) → Reads built f → passive_each (term_list f h xs) ≡ differs
SameAs built h xs (Wait waits) = (f : _) → Reads built f → (passive_each (term_list f h xs) ≡ unknown) × ((v : ℕ) → Contains waits.items v ↔ Contains (awaited_by (term_list f h xs)) v)

-- the variables that are named are unbound
abbrev pub NamesUnbound : {N : Type 0} → Held N → Same → Type 0
NamesUnbound h Yes = Unit {0}
NamesUnbound h No = Unit {0}
NamesUnbound h (Wait waits) = AreUnbound h waits.items

-- two cells don't clash, and just the variables for which their terms wait are added to those before; all of these are unbound
pub record AreAlike {N : Type 0} (built : BuiltIn → N) (h : Held N) (x y : Cell N) (before after : List ℕ) : Type 0 where
  pub named : List ℕ
  pub added : after ≡ before ++ named
  pub unbound : AreUnbound h named
  pub clash : (f : N → List ℕ) → Reads built f → clash (term_of f h x) (term_of f h y) ≡ false
  pub awaited : (f : N → List ℕ) → Reads built f → (v : ℕ) → Contains named v ↔ Contains (awaited (term_of f h x) (term_of f h y)) v

-- two cells don't clash, or they do, if the answer is no, and nothing is added then
abbrev pub AlikeAs : {N : Type 0} → (BuiltIn → N) → Held N → Cell N → Cell N → List ℕ → List ℕ → Bool → Type 0
AlikeAs built h x y before after true = AreAlike built h x y before after
AlikeAs built h x y before after false = (after ≡ before) × ((f : _) → Reads built f → clash (term_of f h x) (term_of f h y) ≡ true)
