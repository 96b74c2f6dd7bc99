use Rattle.std.proofs.Common.{[], ◌∷◌, ◌++◌, sym, ap, subst, ◌∙◌}
use Rattle.std.specs.Prelude.{Option, Some, None, option_map}
use Rattle.kl1_codes.specs.declared.place.Located.{Located}
use Rattle.kl1_codes.specs.Finding.{Finds}
use Rattle.kl1_codes.proofs.Shelving.{in_draft, beside_draft}
use Rattle.kl1_codes.proofs.coded_modules.CodedModules.find_beside.Goals as goal

pub returns-then-number-module_name-clause-finds : goal.returns-then-number-module_name-clause-finds
returns-then-number-module_name-clause-finds g c =
    beside_draft c.args.self.now.loaded c.args.draft.now c.args.module_name c.args.name c.args.count (option_map (λ (l : Located). l.predicate) c.find.result) (λ e. c.if-number-module_name.true (ap (λ n. n.number) c.number.ensures ∙ e)) c.find.ensures.finds

pub returns-in_err-row-clause-finds : goal.returns-in_err-row-clause-finds
returns-in_err-row-clause-finds g c =
    let P : Option Located → Type 0 = λ o. Finds (c.args.self.now.loaded ++ c.args.draft.now ∷ []) c.args.module_name c.args.name c.args.count (option_map (λ l. l.predicate) o) in
    subst P (sym c.from_residual.ensures)
    (in_draft c.args.self.now.loaded c.args.draft.now c.args.module_name c.args.name c.args.count None c.requires (ap (λ n. n.number) (sym c.number.ensures) ∙ c.if-number-module_name.false) c.in_err-row.ensures.finds)

pub returns-clause-finds : goal.returns-clause-finds
returns-clause-finds g c =
    in_draft c.args.self.now.loaded c.args.draft.now c.args.module_name c.args.name c.args.count (Some c.in_ok-row.predicate) c.requires (ap (λ n. n.number) (sym c.number.ensures) ∙ c.if-number-module_name.false) c.in_ok-row.ensures.finds
