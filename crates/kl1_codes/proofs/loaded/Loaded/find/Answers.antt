use Rattle.std.proofs.Common.{length, sym, ap, subst, ◌∙◌}
use Rattle.std.specs.Prelude.{Option, IfSome, option_map, vec_capacity}
use Rattle.kl1_text.specs.declared.cell_name.CellName.{CellName}
use Rattle.kl1_clause.specs.declared.predicate.Predicate.{Predicate}
use Rattle.kl1_clause.specs.Modules.{IsMeant}
use Rattle.kl1_codes.specs.declared.span.Span.{Span}
use Rattle.kl1_codes.specs.Numbered.{Numbered}
use Rattle.kl1_codes.specs.Finding.{FindsIn}
use Rattle.kl1_codes.specs.Spans.{IsWithin}
use Rattle.kl1_codes.specs.Indexes.{Rows, Key, key_by, span_at, IsIndexed, IsAt}
use Rattle.kl1_codes.proofs.Rows.{span_read}
use Rattle.kl1_codes.proofs.Parts.{missed, found}
use Rattle.kl1_codes.proofs.loaded.Loaded.find.Goals as goal

pub returns-in_err-row-clause-finds : goal.returns-in_err-row-clause-finds
returns-in_err-row-clause-finds g c =
    let rows = c.self.inside.index in
    let N : Numbered → Type 0 = λ x. IsIndexed x.content x.row rows.items (vec_capacity rows) in
    let P : Option (_ × Predicate CellName) → Type 0 = λ o. FindsIn c.args.self.now c.args.name c.args.count (option_map (λ p. p.1) o) in
    let none = ap (λ (l : Rows). span_at l (key_by c.args.name c.args.count)) (sym c.deref.ensures.value) ∙ ap (span_at c.deref.result.now) (sym c.key_by.ensures) ∙ c.in_err-row.ensures in
    subst P (sym c.from_residual.ensures)
    (missed c.source.result.now c.args.self.now rows.items (vec_capacity rows) c.args.name c.args.count (subst (IsMeant c.source.result.now) c.requires c.source.ensures.meant) (subst N c.self.view_is c.self.invariant.index) none)

pub clauses_in-requires-clause-span : goal.clauses_in-requires-clause-span
clauses_in-requires-clause-span g c =
    let rows = c.self.inside.index in
    let N : Numbered → Type 0 = λ x. IsIndexed x.content x.row rows.items (vec_capacity rows) in
    let P : Option Span → Type 0 = λ o. IfSome o (IsWithin (length c.args.self.now.content.clauses)) in
    let A : Rows × Key → Type 0 = λ r. IsAt r.0 r.1 c.in_ok-row.row in
    let i = subst N c.self.view_is c.self.invariant.index in
    let at = subst A (λ k. (c.deref.ensures.value k, c.key_by.ensures k)) c.in_ok-row.ensures in
    subst P (span_read rows.items (key_by c.args.name c.args.count) c.in_ok-row.row c.index.result.now i.order at c.index.ensures) (i.spans.within (key_by c.args.name c.args.count))

pub returns-clause-finds : goal.returns-clause-finds
returns-clause-finds g c =
    let rows = c.self.inside.index in
    let N : Numbered → Type 0 = λ x. IsIndexed x.content x.row rows.items (vec_capacity rows) in
    let A : Rows × Key → Type 0 = λ r. IsAt r.0 r.1 c.in_ok-row.row in
    let i = subst N c.self.view_is c.self.invariant.index in
    let at = subst A (λ k. (c.deref.ensures.value k, c.key_by.ensures k)) c.in_ok-row.ensures in
    let some = span_read rows.items (key_by c.args.name c.args.count) c.in_ok-row.row c.index.result.now i.order at c.index.ensures in
    found c.source.result.now c.args.self.now rows.items (vec_capacity rows) c.args.name c.args.count c.index.result.now.1 c.clauses_in.result (subst (IsMeant c.source.result.now) c.requires c.source.ensures.meant) i some c.clauses_in.ensures.row c.clauses_in.ensures.are
