use Rattle.std.proofs.Common.{List, ap, sym, refl, subst, ◌∙◌}
use Rattle.std.proofs.lemmas.Bool.{false≢true}
use Rattle.kl1_model.specs.Term.{structure}
use Rattle.kl1_model.specs.Match.{match_pattern}
use Rattle.kl1_match.proofs.Cells.{at_variable, at_integer, at_atom, opened, name_clashes, count_clashes, put_before, AreSpans-push}
use Rattle.kl1_match.specs.declared.span.Span.{Span}
use Rattle.kl1_match.specs.Spans.{AreSpans, cells_left}
use Rattle.kl1_match.proofs.meets.meet_structure.Goals as goal

pub returns-in-Variable-clause-meets : goal.returns-in-Variable-clause-meets
returns-in-Variable-clause-meets g c = record {
  cells_are = refl;
  matched = λ f reads ps counted. ap (match_pattern (structure (f c.args.name) ps)) (at_variable f c.args.store.now.held c.args.cell c.in-Variable.variable c.in-Variable.is c.requires.walked);
}

pub returns-in-Integer-clause-meets : goal.returns-in-Integer-clause-meets
returns-in-Integer-clause-meets g c = record {
  cells_are = refl;
  matched = λ f reads ps counted. ap (match_pattern (structure (f c.args.name) ps)) (at_integer f c.args.store.now.held c.args.cell c.in-Integer.field-0 c.in-Integer.is);
}

pub returns-in-Atom-clause-meets : goal.returns-in-Atom-clause-meets
returns-in-Atom-clause-meets g c = record {
  cells_are = refl;
  matched = λ f reads ps counted. ap (match_pattern (structure (f c.args.name) ps)) (at_atom f c.args.store.now.held c.args.cell c.in-Atom.field-0 c.in-Atom.is);
}

pub returns-then-head-count-clause-meets : goal.returns-then-head-count-clause-meets
returns-then-head-count-clause-meets g c = record {
  cells_are = refl;
  matched = λ f reads ps counted.
      count_clashes f c.args.store.now.held c.args.name c.look-head.result.name c.args.count c.in-Structure.structure c.args.cell ps counted c.mark.ensures.formed c.in-Structure.is c.look-head.ensures.name
      (λ e. c.if-head-count.true (c.look-head.ensures.count ∙ e));
}

pub returns-then-not-same-clause-meets : goal.returns-then-not-same-clause-meets
returns-then-not-same-clause-meets g c = record {
  cells_are = refl;
  matched = λ f reads ps counted.
      name_clashes g.N.NameValue.built f c.args.store.now.held c.args.name c.look-head.result.name c.in-Structure.structure c.args.cell ps reads c.mark.ensures.formed c.in-Structure.is c.look-head.ensures.name
      (λ e. false≢true (sym c.if-not-same.true ∙ c.same.ensures.1 e));
}

pub returns-else-not-same-clause-meets : goal.returns-else-not-same-clause-meets
returns-else-not-same-clause-meets g c =
    let h = c.args.store.now.held in
    let inner = c.span_in.result in
    record {
      opened = λ f reads.
          opened f h c.args.name c.look-head.result.name c.args.count c.in-Structure.structure c.args.cell (cells_left h c.args.span.now c.args.behind.now.items) (cells_left h inner c.push_reserved.new.self.items) c.mark.ensures.formed c.in-Structure.is c.look-head.ensures.name
          (sym c.look-head.ensures.count ∙ c.if-head-count.false) (c.same.ensures.0 c.if-not-same.false)
          (put_before h c.args.span.now inner c.args.behind.now.items c.push_reserved.new.self.items c.in-Structure.structure c.span_in.ensures.cells c.push_reserved.ensures.items);
    }

pub returns-else-not-same-clause-behind : goal.returns-else-not-same-clause-behind
returns-else-not-same-clause-behind g c =
    let P : List Span → Type 0 = λ l. AreSpans c.args.store.now.held l in
    subst P (sym c.push_reserved.ensures.items) (AreSpans-push c.args.store.now.held c.args.behind.now.items c.args.span.now c.requires.behind c.requires.span)
