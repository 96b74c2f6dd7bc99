use Rattle.std.proofs.Common.{◌-◌, Bool, length, take, drop, subst}
use Rattle.kl1_store.specs.ComparesEach.{ComparedWithAs}
use Rattle.kl1_store.proofs.ComparingEach.{each_step_at, each_end_at}
use Rattle.kl1_store.proofs.compare_each.compare_each.Goals as goal

pub loop-rest-preserved : goal.loop-rest-preserved
loop-rest-preserved g c =
    let P : Bool → Type 0 = λ b. ComparedWithAs g.N.NameValue.built c.args.cells.now.held c.first-item.result (take (length c.loop-rest.rest.now - 1) (drop 1 c.loop-rest.rest.now)) c.loop-rest.waits.items c.compare_with.new.waits.items b in (
      λ unbound. c.in_ok-compare_with.ensures.unbound (c.loop-rest.invariant.0 unbound),
      each_step_at g.N.NameValue.built c.args.cells.now.held c.first-item.result c.args.terms.now c.loop-rest.rest.now c.args.waits.now.items c.loop-rest.waits.items c.compare_with.new.waits.items c.in-len1-up.len_at_least c.first-item.is c.loop-rest.invariant.1
          (subst P c.if-not-branch.false c.in_ok-compare_with.ensures.compared),
    )

pub returns-clause-compared : goal.returns-clause-compared
returns-clause-compared g c = each_end_at g.N.NameValue.built c.args.cells.now.held c.args.terms.now c.loop-rest.rest.now c.args.waits.now.items c.loop-rest.waits.items c.in_default.len_below c.loop-rest.invariant.1
