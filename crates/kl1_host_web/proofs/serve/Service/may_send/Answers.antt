use Rattle.std.proofs.Common.{refl, rules}
use Rattle.kl1_host_web.proofs.serve.Service.may_send.Goals as goal

pub returns-in-Ok-true-clause-looks : goal.returns-in-Ok-true-clause-looks
returns-in-Ok-true-clause-looks g c = record {
  looked = g.A.Accounts.asked c.look.new.accounts;
  looks = rw c.in-Ok-true.field-0-test at c.in-Ok-true.ensures.looks;
  tells_in = search rules;
}

pub returns-in-Ok-false-clause-looks : goal.returns-in-Ok-false-clause-looks
returns-in-Ok-false-clause-looks g c = record {
  looked = g.A.Accounts.asked c.look.new.accounts;
  looks = rw c.in-Ok-false.field-0-test at c.in-Ok-false.ensures.looks;
  tells_in = refl;
}

pub returns-in-Err-clause-looks : goal.returns-in-Err-clause-looks
returns-in-Err-clause-looks g c = record { looked = g.A.Accounts.asked c.look.new.accounts; looks = c.in-Err.ensures.looks; tells_in = refl }
