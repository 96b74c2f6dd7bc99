use Rattle.std.proofs.Common.{arith}
use Rattle.std.proofs.lemmas.Grind.{common_steps}
use Rattle.kl1_lines.proofs.Fuel.{records_none, records_skip, records_more}
use Rattle.kl1_lines.proofs.record.next_record.Goals as goal

pub returns-clause-step : goal.returns-clause-step
returns-clause-step c = grind (arith, common_steps, records_none c.loop-rest.rest.now)

pub returns-in-Some-clause-step : goal.returns-in-Some-clause-step
returns-in-Some-clause-step c = grind (arith, common_steps, records_more c.loop-rest.rest.now)

pub returns-in-None-clause-step : goal.returns-in-None-clause-step
returns-in-None-clause-step c = grind (arith, common_steps, records_more c.loop-rest.rest.now)

pub loop-rest-preserved : goal.loop-rest-preserved
loop-rest-preserved c = record {
  same = grind (arith, common_steps, records_skip c.loop-rest.rest.now);
  less = omega arith;
}
