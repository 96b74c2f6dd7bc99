use Rattle.std.proofs.Common.{◌≡◌, ◌∷◌, ◌++◌, [], true, length, refl, ap, sym, ◌∙◌, subst, arith}
use Rattle.kl1_clause.specs.declared.instruction.Instruction.{Instruction}
use Rattle.kl1_match.specs.Spans.{cells_left, cells_behind}
use Rattle.kl1_match.specs.Matching.{MeetsFirst}
use Rattle.kl1_match.specs.Kept.{places_behind}
use Rattle.kl1_match.specs.declared.met.Met.TheVariants.{Agrees}
use Rattle.kl1_match.proofs.Beside.{variable_meets}
use Rattle.kl1_match.proofs.Kept.{behind_more}
use Rattle.kl1_match.proofs.agreeing.agrees_in_order.Goals as goal

pub returns-in-Variable-clause-agrees : goal.returns-in-Variable-clause-agrees
returns-in-Variable-clause-agrees g c = λ yes.
    let h = c.args.store.now.held in
    let behind = c.args.behind.now.items in
    let rest = cells_left h c.take_cell-cell.new.span behind in
    let x = c.take_cell-cell.result in
    let cells = c.args.cells.now.items in
    let numbered : c.in-Variable.number ≡ length cells = omega (arith, c.if-number-len.false, c.len.ensures, c.args.cells.now.ok.0) in
    let P : Instruction → Type 0 = λ i. MeetsFirst g.N.NameValue.built h c.args.names.now i true (cells_left h c.args.span.now behind) rest (places_behind cells) (places_behind c.push_reserved.new.self.items) Agrees in
    subst P (sym c.in-Variable.is) (record {
      first = x;
      rest = rest;
      cells_are = ap (λ l. l ++ cells_behind h behind) c.take_cell-cell.ensures.cells;
      kept = λ k. ap places_behind c.push_reserved.ensures.items ∙ (behind_more cells x (omega (arith, c.requires.first)) ∙ ap (λ n. places_behind cells ++ record { variable = n; cell = x } ∷ []) (sym numbered));
      meets = λ ps there. variable_meets g.N.NameValue.built h c.args.names.now c.in-Variable.number x rest ps (ps ++ record { variable = c.in-Variable.number; cell = x } ∷ []) c.take_cell-cell.ensures.inside there refl;
    })
