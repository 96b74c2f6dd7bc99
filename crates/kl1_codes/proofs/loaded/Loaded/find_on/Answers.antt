use Rattle.std.proofs.Common.{sym, ap, subst, ◌∙◌}
use Rattle.std.specs.Prelude.{vec_capacity}
use Rattle.kl1_clause.specs.Modules.{IsMeant}
use Rattle.kl1_codes.specs.Numbered.{Numbered}
use Rattle.kl1_codes.specs.Indexes.{Rows, key_by, span_at, IsIndexed}
use Rattle.kl1_codes.proofs.Parts.{found}
use Rattle.kl1_codes.proofs.loaded.Loaded.find_on.Goals as goal

pub returns-clause-finds : goal.returns-clause-finds
returns-clause-finds g c =
    let rows = c.self.inside.index in
    let N : Numbered → Type 0 = λ x. IsIndexed x.content x.row rows.items (vec_capacity rows) in
    let some = ap (λ (l : Rows). span_at l (key_by c.args.name c.args.count)) (sym c.deref.ensures.value) ∙ ap (span_at c.deref.result.now) (sym c.key_by.ensures) ∙ c.in_ok-span.ensures in
    found c.source.result.now c.args.self.now rows.items (vec_capacity rows) c.args.name c.args.count c.in_ok-span.span c.clauses_in.result (subst (IsMeant c.source.result.now) c.requires c.source.ensures.meant) (subst N c.self.view_is c.self.invariant.index) some c.clauses_in.ensures.row c.clauses_in.ensures.are
