use Rattle.std.proofs.Common.{Bool, subst}
use Rattle.kl1_store.specs.Compares.{ComparedAs}
use Rattle.kl1_store.proofs.ComparingEach.{with_step_at, with_end_at}
use Rattle.kl1_store.proofs.compare_each.compare_with.Goals as goal

pub loop-rest-preserved : goal.loop-rest-preserved
loop-rest-preserved g c =
    let P : Bool → Type 0 = λ b. ComparedAs g.N.NameValue.built c.args.cells.now.held c.args.cell c.other-item.result c.loop-rest.waits.items c.compare.new.waits.items b in (
      λ unbound. c.in_ok-compare.ensures.unbound (c.loop-rest.invariant.0 unbound),
      with_step_at g.N.NameValue.built c.args.cells.now.held c.args.cell c.other-item.result c.args.others.now c.loop-rest.rest.now c.args.waits.now.items c.loop-rest.waits.items c.compare.new.waits.items c.in-len1-up.len_at_least c.other-item.is c.loop-rest.invariant.1
          (subst P c.if-not-branch.false c.in_ok-compare.ensures.compared),
    )

pub returns-clause-compared : goal.returns-clause-compared
returns-clause-compared g c = with_end_at g.N.NameValue.built c.args.cells.now.held c.args.cell c.args.others.now c.loop-rest.rest.now c.args.waits.now.items c.loop-rest.waits.items c.in_default.len_below c.loop-rest.invariant.1
