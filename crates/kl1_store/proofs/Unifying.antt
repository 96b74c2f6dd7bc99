-- From the replacements that were made to what each cell means.
use Rattle.std.proofs.Common.{◌≡◌, ℕ, true, List, [], ◌++◌, length, take, refl, ap, ◌∙◌, arith}
use Rattle.std.proofs.lemmas.List.{take_all, take_at}
use Rattle.kl1_model.specs.declared.built_in.BuiltIn.{BuiltIn}
use Rattle.kl1_model.specs.Term.{Replacement}
use Rattle.kl1_model.specs.code.Unifying.{replaced}
use Rattle.kl1_store.specs.declared.cell.Cell.{Cell}
use Rattle.kl1_store.specs.declared.unified.Unified.TheVariants.{Bound}
use Rattle.kl1_store.specs.Held.{Held}
use Rattle.kl1_store.specs.Meaning.{mean, shapes, shapes_from, replacements, term_of}
use Rattle.kl1_store.specs.Sound.{Grown}
use Rattle.kl1_store.specs.Unifies.{OnlyBound, SettlesAs, equation_of}
use Rattle.kl1_store.specs.Unification.{UnifiesAs}
use Rattle.kl1_store.proofs.Replacing.{replaced-append}

made_everywhere : {N : Type 0} (f : N → List ℕ) (old new : Held N) (rs : List Replacement) (x : Cell N) → OnlyBound old new → replacements f new ≡ replacements f old ++ rs →
    term_of f new x ≡ replaced rs (term_of f old x)
unfolding term_of
made_everywhere f old new rs x p e =
    ap (λ l. replaced l (mean f (shapes f new) x)) e
    ∙ ap (λ ss. replaced (replacements f old ++ rs) (mean f (shapes_from f [] ss) x)) p.structures
    ∙ replaced-append (replacements f old) rs (mean f (shapes f old) x)

pub Grown-bound : {N : Type 0} (old new : Held N) → OnlyBound old new → Grown old new
Grown-bound old new p = record {
  variables = omega (arith, p.variables);
  structures = ap (take (length old.structures)) p.structures ∙ take_all (length old.structures) old.structures (omega arith);
  bindings = ap (take (length old.bindings)) p.bindings ∙ take_at old.bindings p.added (length old.bindings) refl;
}

pub unifies : {N : Type 0} (built : BuiltIn → N) (old new : Held N) (x y : Cell N) → OnlyBound old new → SettlesAs built old new (λ f. equation_of f old x y) true → UnifiesAs built old new x y Bound
unifies built old new x y p s = (
  λ f reads. let m = s f reads in record { replacements = m.made; solves = m.solves; everywhere = λ z. made_everywhere f old new m.made z p m.replacements },
  Grown-bound old new p,
  p.variables,
)
