use Rattle.std.proofs.Common.{refl}
use Rattle.kl1_match.specs.declared.test_view.TestVariable.TheVariants.{Own}
use Rattle.kl1_match.specs.TestTerms.{tests_of}
use Rattle.kl1_match.proofs.TermPairs.{put_step, put_end}
use Rattle.kl1_match.proofs.passing.put_goal_variables.Goals as goal

pub loop-at-init : goal.loop-at-init
loop-at-init g c = record { free = c.requires; put = refl }

pub loop-at-preserved : goal.loop-at-preserved
loop-at-preserved g c =
    put_step (tests_of c.args.view.now) c.args.waits.now c.loop-at.at (Own 0) c.args.awaited.now.items c.loop-at.awaited.items c.put_goal_variable.new.awaited.items c.loop-at-test.true c.loop-at.invariant c.in_ok-put_goal_variable.ensures

pub returns : goal.returns
returns g c = put_end (tests_of c.args.view.now) c.args.waits.now c.loop-at.at c.args.awaited.now.items c.loop-at.awaited.items c.loop-at-test.false c.loop-at.invariant
