use Rattle.std.proofs.Common.{List, sym, ap, subst}
use Rattle.std.specs.Prelude.{Option, Some, None, option_map}
use Rattle.kl1_codes.specs.declared.place.Located.{Located}
use Rattle.kl1_codes.specs.Numbered.{Numbered, ArePlaced}
use Rattle.kl1_codes.specs.Finding.{Finds}
use Rattle.kl1_codes.specs.Shelves.{Shelf}
use Rattle.kl1_codes.proofs.Shelving.{finds_none, finds_some, placed_at}
use Rattle.kl1_codes.proofs.modules.Modules.search.Goals as goal

pub returns-in_err-module-clause-finds : goal.returns-in_err-module-clause-finds
returns-in_err-module-clause-finds g c =
    let P : Option Located → Type 0 = λ o. Finds c.args.self.now.loaded c.args.module_name c.args.name c.args.count (option_map (λ l. l.predicate) o) in
    subst P (sym c.from_residual.ensures)
    (finds_none c.self.inside.loaded.entries c.args.self.now.loaded c.args.module_name c.args.name c.args.count c.self.invariant (ap (λ (s : Shelf). s.loaded) c.self.view_is) (sym c.in_err-module.ensures))

pub code-requires : goal.code-requires
code-requires g c =
    let has = g.C.CodeSource.has c.args.codes.now in
    let P : List Numbered → Type 0 = λ ls. ArePlaced has ls in
    placed_at has c.self.inside.loaded.entries c.args.module_name.number c.in_ok-module.loaded.now (subst P (sym (ap (λ (s : Shelf). s.loaded) c.self.view_is)) c.requires) (sym c.in_ok-module.ensures)

pub returns-in_err-row-clause-finds : goal.returns-in_err-row-clause-finds
returns-in_err-row-clause-finds g c =
    let P : Option Located → Type 0 = λ o. Finds c.args.self.now.loaded c.args.module_name c.args.name c.args.count (option_map (λ l. l.predicate) o) in
    subst P (sym c.from_residual-in_err-row.ensures)
    (finds_some c.self.inside.loaded.entries c.args.self.now.loaded c.in_ok-module.loaded.now c.args.module_name c.args.name c.args.count None c.self.invariant (ap (λ (s : Shelf). s.loaded) c.self.view_is) (sym c.in_ok-module.ensures) c.in_err-row.ensures.finds)

pub returns-clause-finds : goal.returns-clause-finds
returns-clause-finds g c =
    finds_some c.self.inside.loaded.entries c.args.self.now.loaded c.in_ok-module.loaded.now c.args.module_name c.args.name c.args.count (Some c.in_ok-row.predicate) c.self.invariant (ap (λ (s : Shelf). s.loaded) c.self.view_is) (sym c.in_ok-module.ensures) c.in_ok-row.ensures.finds
