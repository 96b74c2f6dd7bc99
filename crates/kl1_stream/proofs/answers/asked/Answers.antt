use Rattle.std.proofs.Common.{sym, ◌∙◌}
use Rattle.std.specs.Prelude.{Some, None}
use Rattle.kl1_stream.proofs.Shapes.{argument_in}
use Rattle.kl1_stream.proofs.Asked.{no_structure, no_three, no_exception, with_third, some_second, asking_in}
use Rattle.kl1_stream.proofs.answers.asked.Goals as goal

pub returns-in_default : goal.returns-in_default
returns-in_default g c = record {
  inside = tt;
  asking = λ f r. no_structure f c.args.store.now.held c.args.report c.walk.result c.walk.ensures.walked (c.walk.ensures.means f) c.in_default.not-Structure;
}

pub returns-then-head-ne3-clause-asking : goal.returns-then-head-ne3-clause-asking
returns-then-head-ne3-clause-asking g c = λ f r.
    no_three f c.args.store.now.held c.args.report c.in-Structure.structure c.look-head.result.name (record { formed = c.mark-formed.ensures.formed; named = c.look-head.ensures.name; means = c.in-Structure.ensures.means }) (λ e. c.if-head-ne3.true (c.look-head.ensures.count ∙ e))

pub returns-then-not-is_built_in-clause-asking : goal.returns-then-not-is_built_in-clause-asking
returns-then-not-is_built_in-clause-asking g c = λ f r.
    no_exception f c.args.store.now.held c.args.report c.in-Structure.structure c.look-head.result.name (record { formed = c.mark-formed.ensures.formed; named = c.look-head.ensures.name; means = c.in-Structure.ensures.means }) (c.is_built_in.ensures f r ∙ c.if-not-is_built_in.true)

pub walk-requires-2 : goal.walk-requires-2
walk-requires-2 g c = argument_in c.args.store.now.held c.in-Structure.structure 2 c.argument.result c.mark-formed.ensures.formed c.argument.ensures

pub returns-in_default-variable-clause-asking : goal.returns-in_default-variable-clause-asking
returns-in_default-variable-clause-asking g c = λ f r.
    let three = sym c.look-head.ensures.count ∙ c.if-head-ne3.false in
    let second = some_second c.args.store.now.held c.in-Structure.structure three in
    with_third f c.args.store.now.held c.args.report second.0 c.walk-2.result c.in-Structure.structure c.look-head.result.name None
    (record { formed = c.mark-formed.ensures.formed; named = c.look-head.ensures.name; means = c.in-Structure.ensures.means }) three
    (record { mid = second.1; third = c.argument.result; at = c.argument.ensures; means = c.walk-2.ensures.means; inside = c.walk-2.ensures.inside; walked = c.walk-2.ensures.walked; found_is = rw c.in_default-variable.is at c.variable.ensures })
    (c.is_built_in.ensures f r ∙ c.if-not-is_built_in.false)

pub returns-clause-asking : goal.returns-clause-asking
returns-clause-asking g c = λ f r.
    let three = sym c.look-head.ensures.count ∙ c.if-head-ne3.false in
    with_third f c.args.store.now.held c.args.report c.argument-2.result c.walk-2.result c.in-Structure.structure c.look-head.result.name (Some c.in-Some.new)
    (record { formed = c.mark-formed.ensures.formed; named = c.look-head.ensures.name; means = c.in-Structure.ensures.means }) three
    (record { mid = c.argument-2.ensures; third = c.argument.result; at = c.argument.ensures; means = c.walk-2.ensures.means; inside = c.walk-2.ensures.inside; walked = c.walk-2.ensures.walked; found_is = rw c.in-Some.is at c.variable.ensures })
    (c.is_built_in.ensures f r ∙ c.if-not-is_built_in.false)

pub returns-clause-inside : goal.returns-clause-inside
returns-clause-inside g c =
    asking_in c.args.store.now.held c.in-Structure.structure c.argument-2.result c.walk-2.result c.in-Some.new c.mark-formed.ensures.formed c.argument-2.ensures c.walk-2.ensures.inside c.walk-2.ensures.walked (rw c.in-Some.is at c.variable.ensures)
