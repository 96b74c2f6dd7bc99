use Rattle.std.proofs.Common.{◌≡◌, ℕ, ◌-◌, List, length, take, drop, sym, ap, subst, ◌∙◌}
use Rattle.kl1_model.specs.Module.{Module}
use Rattle.kl1_text.specs.declared.cell_name.CellName.{CellName}
use Rattle.kl1_clause.specs.declared.compiled_clause.CompiledClause.{CompiledClause}
use Rattle.kl1_clause.specs.Clauses.{AreCompiled}
use Rattle.kl1_clause.specs.Predicates.{AreSome}
use Rattle.kl1_codes.specs.Numbered.{Numbered, own_names}
use Rattle.kl1_codes.specs.Spans.{IsWithin}
use Rattle.kl1_codes.proofs.Steps.{compiled_count}
use Rattle.kl1_codes.proofs.Parts.{part, some_part}
use Rattle.kl1_codes.proofs.loaded.Loaded.clauses_in.Goals as goal

pub part-requires : goal.part-requires
part-requires g c =
    let m = c.args.self.now.content in
    let A : Module → Type 0 = λ x. AreCompiled (own_names x) c.clauses.result.now x.clauses in
    let P : ℕ → Type 0 = λ n. IsWithin n c.args.span in
    subst P (sym (compiled_count (own_names m) c.clauses.result.now m.clauses (subst A c.requires.code c.clauses.ensures))) c.requires.span

pub returns-clause-some : goal.returns-clause-some
returns-clause-some g c =
    let l = c.args.self.now in
    let A : Module → Type 0 = λ x. AreCompiled (own_names x) c.clauses.result.now x.clauses in
    let N : Numbered → Type 0 = λ x. length x.row ≡ length (own_names x.content) in
    let Q : List CellName → Type 0 = λ row. AreSome row c.part.result.now in
    let R : List CompiledClause → Type 0 = λ cs. AreSome l.row cs in
    subst Q (sym (c.deref.ensures.value ∙ ap (λ (x : Numbered). x.row) c.self.view_is))
    (subst R (sym c.part.ensures) (some_part l c.clauses.result.now c.args.span (subst N c.self.view_is c.self.invariant.index.named) (subst A c.requires.code c.clauses.ensures)))

pub returns-clause-are : goal.returns-clause-are
returns-clause-are g c =
    let m = c.args.self.now.content in
    let A : Module → Type 0 = λ x. AreCompiled (own_names x) c.clauses.result.now x.clauses in
    let R : List CompiledClause → Type 0 = λ cs. AreCompiled (own_names m) cs (take (c.args.span.end - c.args.span.start) (drop c.args.span.start m.clauses)) in
    subst R (sym c.part.ensures) (part (own_names m) c.clauses.result.now m.clauses c.args.span (subst A c.requires.code c.clauses.ensures))
