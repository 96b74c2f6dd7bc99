use Rattle.std.proofs.Common.{sym}
use Rattle.kl1_journal.proofs.journaled_account.JournaledAccount.pick.Goals as goal

pub returns : goal.returns
returns g c = λ f. rw (sym c.self.view_is) (c.pick.ensures.picks f)
