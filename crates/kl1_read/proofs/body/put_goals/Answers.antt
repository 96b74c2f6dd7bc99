use Rattle.std.proofs.Common.{arith}
use Rattle.kl1_read.proofs.Clauses.{goals_stop, goals_go, goals_end}
use Rattle.kl1_read.proofs.body.put_goals.Goals as goal

pub returns-in-None : goal.returns-in-None
returns-in-None c =
    goals_stop c.args.module_name c.loop-term.terms.items c.pop.new.self.items c.in-Some.term c.loop-term.goals.items _ c.in_ok-goal_of.field-0 c.loop-term.invariant c.in-Some.ensures.items c.in_ok-goal_of.ensures c.in-None.is

pub loop-term-preserved : goal.loop-term-preserved
loop-term-preserved c =
    goals_go c.args.module_name c.loop-term.terms.items c.pop.new.self.items c.in-Some.term c.in-Some-2.goal c.loop-term.goals.items c.push.new.self.items _ c.in_ok-goal_of.field-0 c.loop-term.invariant c.in-Some.ensures.items c.in_ok-goal_of.ensures c.in-Some-2.is c.in_ok-push-in-Some-2.ensures.items

pub returns : goal.returns
returns c =
    goals_end c.args.module_name c.loop-term.terms.items c.loop-term.goals.items c.reverse.new.self.items _ (omega (arith, c.in_default.ensures.cases.0, c.loop-term.terms.ok.0)) c.loop-term.invariant c.reverse.ensures.items
