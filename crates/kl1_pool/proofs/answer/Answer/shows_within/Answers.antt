use Rattle.std.proofs.Common.{subst}
use Rattle.kl1_pool.specs.Names.{called_at}
use Rattle.kl1_pool.specs.Answers.{AnswerValue}
use Rattle.kl1_pool.specs.Memory.{IsGivenWithin}
use Rattle.kl1_pool.proofs.answer.Answer.shows_within.Goals as goal

pub returns : goal.returns
returns g c = subst (λ (x : AnswerValue). IsGivenWithin g.K.PoolIds.rules (called_at g.N.Names.names x.account) g.K.PoolIds.most_bytes x.command x.performed) c.self.view_is c.self.invariant
