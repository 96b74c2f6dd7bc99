use Rattle.std.proofs.Common.{◌∷◌, [], ◌++◌, refl, ap, ◌∙◌, sym}
use Rattle.std.proofs.lemmas.Bool.{false≢true}
use Rattle.kl1_match.specs.Spans.{cells_left, cells_behind}
use Rattle.kl1_match.proofs.Beside.{variable_meets}
use Rattle.kl1_match.proofs.Trying.{keeps_of}
use Rattle.kl1_match.proofs.meets.take_place.Goals as goal

pub returns-then-this-ne0-clause-takes : goal.returns-then-this-ne0-clause-takes
returns-then-this-ne0-clause-takes g c = λ names behind.
    let h = c.args.store.now.held in
    let rest = cells_left h c.take_cell-cell.new.span behind in
    let x = c.take_cell-cell.result in
    record {
      first = x;
      rest = rest;
      cells_are = ap (λ l. l ++ cells_behind h behind) c.take_cell-cell.ensures.cells;
      kept = λ k. c.push_reserved.ensures.items;
      meets = λ ps there. variable_meets g.N.NameValue.built h names c.args.variable x rest ps (ps ++ record { variable = c.args.variable; cell = x } ∷ []) c.take_cell-cell.ensures.inside there refl;
    }

pub returns-clause-takes : goal.returns-clause-takes
returns-clause-takes g c = λ names behind.
    let h = c.args.store.now.held in
    let rest = cells_left h c.take_cell-cell.new.span behind in
    let x = c.take_cell-cell.result in
    record {
      first = x;
      rest = rest;
      cells_are = ap (λ l. l ++ cells_behind h behind) c.take_cell-cell.ensures.cells;
      kept = λ k. absurd (false≢true (sym (ap keeps_of c.if-this-ne0.false) ∙ k));
      meets = λ ps there. variable_meets g.N.NameValue.built h names c.args.variable x rest ps (ps ++ record { variable = c.args.variable; cell = x } ∷ []) c.take_cell-cell.ensures.inside there refl;
    }
