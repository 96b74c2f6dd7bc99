use Rattle.std.proofs.Common.{◌≡◌, sym, ap, ◌∙◌, rules, w64}
use mir.Val.{of_z, to_z}
use Rattle.kl1_model.specs.Term.{integer}
use Rattle.kl1_stream.proofs.Shapes.{argument_in, has_variable, has_integer, has_atom, has_one, has_two, has_other}
use Rattle.kl1_stream.proofs.tops.top_of.Goals as goal

pub returns-then-head-eq1-clause-inside : goal.returns-then-head-eq1-clause-inside
returns-then-head-eq1-clause-inside g c = argument_in c.args.store.now.held c.in-Structure.structure 0 c.argument.result c.mark.ensures.formed c.argument.ensures

pub returns-then-head-eq1-clause-top : goal.returns-then-head-eq1-clause-top
returns-then-head-eq1-clause-top g c = λ f.
    has_one f c.args.store.now.held c.args.cell c.argument.result c.in-Structure.structure c.look-head.result.name (record { formed = c.mark.ensures.formed; named = c.look-head.ensures.name; means = c.in-Structure.ensures.means }) (sym c.look-head.ensures.count ∙ c.if-head-eq1.true) c.argument.ensures

pub returns-then-head-eq2-clause-inside : goal.returns-then-head-eq2-clause-inside
returns-then-head-eq2-clause-inside g c =
    let h = c.args.store.now.held in (
      argument_in h c.in-Structure.structure 0 c.argument-then-head-eq2.result c.mark.ensures.formed c.argument-then-head-eq2.ensures,
      argument_in h c.in-Structure.structure 1 c.argument-then-head-eq2-2.result c.mark.ensures.formed c.argument-then-head-eq2-2.ensures,
    )

pub returns-then-head-eq2-clause-top : goal.returns-then-head-eq2-clause-top
returns-then-head-eq2-clause-top g c = λ f.
    has_two f c.args.store.now.held c.args.cell c.argument-then-head-eq2.result c.argument-then-head-eq2-2.result c.in-Structure.structure c.look-head.result.name (record { formed = c.mark.ensures.formed; named = c.look-head.ensures.name; means = c.in-Structure.ensures.means })
    (sym c.look-head.ensures.count ∙ c.if-head-eq2.true) c.argument-then-head-eq2.ensures c.argument-then-head-eq2-2.ensures

pub returns-in-Variable-clause-top : goal.returns-in-Variable-clause-top
returns-in-Variable-clause-top g c = λ f. has_variable f c.args.store.now.held c.args.cell c.walk.result c.in-Variable.variable c.in-Variable.is c.walk.ensures.walked (c.walk.ensures.means f)

pub returns-in-Integer-clause-top : goal.returns-in-Integer-clause-top
returns-in-Integer-clause-top g c = λ f.
    let e : c.in-Integer.number ≡ to_z w64 (of_z w64 c.in-Integer.number) = search rules in
    has_integer f c.args.store.now.held c.args.cell c.walk.result c.in-Integer.number c.in-Integer.is (c.walk.ensures.means f) ∙ ap integer e

pub returns-in-Atom-clause-top : goal.returns-in-Atom-clause-top
returns-in-Atom-clause-top g c = λ f. has_atom f c.args.store.now.held c.args.cell c.walk.result c.in-Atom.name c.in-Atom.is (c.walk.ensures.means f)

pub returns-else-head-eq2-clause-top : goal.returns-else-head-eq2-clause-top
returns-else-head-eq2-clause-top g c = λ f.
    has_other f c.args.store.now.held c.args.cell c.in-Structure.structure c.look-head.result.name (record { formed = c.mark.ensures.formed; named = c.look-head.ensures.name; means = c.in-Structure.ensures.means })
    (λ e. c.if-head-eq1.false (c.look-head.ensures.count ∙ e)) (λ e. c.if-head-eq2.false (c.look-head.ensures.count ∙ e))
