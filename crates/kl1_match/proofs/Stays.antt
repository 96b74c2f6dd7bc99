-- A goal that waits for no variable that was bound keeps its clause and its variables.
use Rattle.std.proofs.Common.{◌≡◌, ℕ, List, [], ◌∷◌, refl, sym, ap, ap₂, ◌∙◌}
use Rattle.kl1_model.specs.declared.rules.Rules.{Rules}
use Rattle.kl1_model.specs.Term.{Term, variable, integer, atom, structure, Terms, none, more, substituted, each_substituted, Replacement}
use Rattle.kl1_model.specs.code.Unifying.{replaced}
use Rattle.kl1_model.specs.Module.{Module}
use Rattle.kl1_model.specs.code.Waits.{LeavesEach, term_clause, awaited_by_term}
use Rattle.kl1_model.proofs.Substitutions.{values_of, replaced_is}
use Rattle.kl1_model.proofs.TermStays.{term_stays}
use Rattle.kl1_store.specs.declared.cell.Cell.{Cell}
use Rattle.kl1_store.specs.declared.cell.Cell.TheVariants as cell
use Rattle.kl1_store.specs.Held.{Held, IsIn}
use Rattle.kl1_store.specs.Meaning.{term_of}
use Rattle.kl1_store.proofs.Terms.{term_of-unbound}
use Rattle.kl1_match.specs.Waiting.{AreUnbound}
use Rattle.kl1_match.specs.Instances.{AreKept}
use Rattle.kl1_match.specs.Stays.{Becomes, IsAsItWas}

-- ---- substitutions, one after another

mutual
  alone : (t : Term) → substituted (λ v. variable v) t ≡ t
  alone (variable v) = refl
  alone (integer i) = refl
  alone (atom a) = refl
  alone (structure f ts) = ap (structure f) (each_alone ts)

  each_alone : (ts : Terms) → each_substituted (λ v. variable v) ts ≡ ts
  each_alone none = refl
  each_alone (more t ts) = ap₂ more (alone t) (each_alone ts)

mutual
  in_turn : (r s : ℕ → Term) (t : Term) → substituted s (substituted r t) ≡ substituted (λ v. substituted s (r v)) t
  in_turn r s (variable v) = refl
  in_turn r s (integer i) = refl
  in_turn r s (atom a) = refl
  in_turn r s (structure f ts) = ap (structure f) (each_in_turn r s ts)

  each_in_turn : (r s : ℕ → Term) (ts : Terms) → each_substituted s (each_substituted r ts) ≡ each_substituted (λ v. substituted s (r v)) ts
  each_in_turn r s none = refl
  each_in_turn r s (more t ts) = ap₂ more (in_turn r s t) (each_in_turn r s ts)

-- ---- stores that have changed

-- a store in which nothing means anything else
pub becomes_kept : {N : Type 0} (f : N → List ℕ) (old new : Held N) → AreKept f old new → Becomes f old new
becomes_kept f old new kept = record { by = λ v. variable v; means = λ x i. kept x i ∙ sym (alone (term_of f old x)) }

-- a store after replacements
pub becomes_replaced : {N : Type 0} (f : N → List ℕ) (old new : Held N) (rs : List Replacement) → ((x : Cell N) → IsIn old x → term_of f new x ≡ replaced rs (term_of f old x)) → Becomes f old new
becomes_replaced f old new rs means = record { by = values_of rs; means = λ x i. means x i ∙ replaced_is rs (term_of f old x) }

-- one change after another
pub becomes_on : {N : Type 0} (f : N → List ℕ) (old mid new : Held N) → ((x : Cell N) → IsIn old x → IsIn mid x) → Becomes f old mid → Becomes f mid new → Becomes f old new
becomes_on f old mid new still a b = record {
  by = λ v. substituted b.by (a.by v);
  means = λ x i. b.means x (still x i) ∙ ap (substituted b.by) (a.means x i) ∙ in_turn a.by b.by (term_of f old x);
}

-- variables that are unbound before and after are left as they are
pub leaves_unbound : {N : Type 0} (f : N → List ℕ) (old new : Held N) (b : Becomes f old new) (vs : List ℕ) → AreUnbound old vs → AreUnbound new vs → LeavesEach b.by vs
leaves_unbound f old new b [] p q = tt
leaves_unbound f old new b (v ∷ vs) p q = (
  ap (substituted b.by) (sym (term_of-unbound f old v p.0.unbound)) ∙ sym (b.means (cell.Variable v) p.0.within) ∙ term_of-unbound f new v q.0.unbound,
  leaves_unbound f old new b vs p.1 q.1,
)

-- a goal none of whose variables was bound is as it was
pub stored_stays : {N : Type 0} (f : N → List ℕ) (rules : Rules) (modules : List Module) (old new : Held N) (x : Cell N) → Becomes f old new → IsIn old x →
    AreUnbound old (awaited_by_term rules modules (term_of f old x)) → AreUnbound new (awaited_by_term rules modules (term_of f old x)) → IsAsItWas rules modules (term_of f old x) (term_of f new x)
stored_stays f rules modules old new x b i p q =
    let t = term_of f old x in
    let r = term_stays rules modules b.by t (leaves_unbound f old new b (awaited_by_term rules modules t) p q) in
    record { clause = ap (term_clause rules modules) (b.means x i) ∙ r.0; awaited = ap (awaited_by_term rules modules) (b.means x i) ∙ r.1 }
