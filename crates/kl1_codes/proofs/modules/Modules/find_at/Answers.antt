use Rattle.std.proofs.Common.{List, sym, ap, subst, ◌∙◌}
use Rattle.std.specs.Prelude.{nat_eq}
use Rattle.indexmap.specs.IndexMap.{get}
use Rattle.kl1_codes.specs.Numbered.{Numbered, ArePlaced}
use Rattle.kl1_codes.specs.Shelves.{Shelf}
use Rattle.kl1_codes.proofs.Shelving.{finds_at, placed_at}
use Rattle.kl1_codes.proofs.modules.Modules.find_at.Goals as goal

pub code-requires : goal.code-requires
code-requires g c =
    let has = g.C.CodeSource.has c.args.codes.now in
    let P : List Numbered → Type 0 = λ ls. ArePlaced has ls in
    placed_at has c.self.inside.loaded.entries c.in_ok-number.number.now c.in_ok-number.loaded.now (subst P (sym (ap (λ (s : Shelf). s.loaded) c.self.view_is)) c.requires) c.in_ok-number.ensures.value

pub returns-clause-finds : goal.returns-clause-finds
returns-clause-finds g c =
    let here = ap (λ n. get nat_eq c.self.inside.loaded n) (sym c.if-number-module_name.false) ∙ c.in_ok-number.ensures.value in
    finds_at c.self.inside.loaded.entries c.args.self.now.loaded c.in_ok-number.loaded.now c.args.module_name c.args.name c.args.count c.find_on.result c.self.invariant (ap (λ (s : Shelf). s.loaded) c.self.view_is) here c.find_on.ensures.finds
