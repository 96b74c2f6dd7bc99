use Rattle.std.proofs.Common.{subst}
use Rattle.kl1_pool.specs.Names.{called_at}
use Rattle.kl1_pool.specs.Answers.{AnswerValue, IsGiven}
use Rattle.kl1_pool.proofs.Answering.{given_at_all}
use Rattle.kl1_pool.proofs.answer.Answer.shows_given.Goals as goal

pub returns : goal.returns
returns g c =
    let v = c.self.view_is in
    subst (λ (x : AnswerValue). IsGiven g.K.PoolIds.rules (called_at g.N.Names.names x.account) x.command x.performed) v (given_at_all g.K.PoolIds.rules _ g.K.PoolIds.most_bytes _ _ c.self.invariant)
