-- What comes of tests that are known, and of looks at what is bound.
use Rattle.std.proofs.Common.{◌≡◌, ℕ, Bool, List, ap, ◌∙◌, sym, refl}
use Rattle.kl1_model.specs.declared.type_test.TypeTest.{TypeTest}
use Rattle.kl1_model.specs.Term.{Term, Terms}
use Rattle.kl1_model.specs.Guard.{is_found, look}
use Rattle.kl1_model.specs.Answer.{known}
use Rattle.kl1_match_guard.specs.declared.form.Form.{Form}
use Rattle.kl1_match_guard.specs.declared.form.Form.TheVariants.{Variable, Integer, Atom, Structure}
use Rattle.kl1_match_guard.specs.declared.outcome.Outcome.{Outcome}
use Rattle.kl1_match_guard.specs.declared.outcome.Outcome.TheVariants.{Agrees, Clashes, Waits}
use Rattle.kl1_match_guard.specs.Forms.{IsForm}
use Rattle.kl1_match_guard.specs.Outcomes.{IsKnown, IsWaiting}

-- what is known waits for nothing
pub known_waits : {V : Type 0} (IsFree : V → Type 0) (o : Outcome V) → IsKnown o → IsWaiting IsFree o
known_waits IsFree Agrees k = tt
known_waits IsFree Clashes k = tt
known_waits IsFree (Waits v) k = absurd k

by_form : (i : TypeTest) (t u : Term) → t ≡ u → look i u ≡ known (is_found i u) → look i t ≡ known (is_found i t)
by_form i t u e same = ap (look i) e ∙ same ∙ sym (ap (λ x. known (is_found i x)) e)

-- a look at what is bound
bound_looks : {N V S : Type 0} (f : N → List ℕ) (number : V → ℕ) (arguments : S → Terms) (i : TypeTest) (form : Form N V S) (t : Term) → IsForm f number arguments form t → ((v : V) → form ≡ Variable v → ⊥) → look i t ≡ known (is_found i t)
bound_looks f number arguments i (Variable v) t e bound = absurd (bound v refl)
bound_looks f number arguments i (Integer j) t e bound = by_form i t _ e refl
bound_looks f number arguments i (Atom a) t e bound = by_form i t _ e refl
bound_looks f number arguments i (Structure name n s) t e bound = by_form i t _ e.is refl

-- what was found of it
pub found_looks : {N V S : Type 0} (f : N → List ℕ) (number : V → ℕ) (arguments : S → Terms) (i : TypeTest) (form : Form N V S) (t : Term) (found : Bool) →
    IsForm f number arguments form t → ((v : V) → form ≡ Variable v → ⊥) → (IsForm f number arguments form t → found ≡ is_found i t) → known found ≡ look i t
found_looks f number arguments i form t found is bound looked = ap known (looked is) ∙ sym (bound_looks f number arguments i form t is bound)
