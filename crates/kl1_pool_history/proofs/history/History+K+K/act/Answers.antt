use Rattle.std.proofs.Common.{map, refl}
use Rattle.kl1_session.specs.Conversations.{Done}
use Rattle.kl1_pool_history.specs.Entries.{done_of}
use Rattle.kl1_pool_history.proofs.Answering.{act_more}
use Rattle.kl1_pool_history.proofs.history.History+K+K.act.Goals as goal

-- what is noted is the pool's answer, which the share has counted
pub invariant_of-self : goal.invariant_of-self
invariant_of-self g c =
    let answer = c.act-answer.result in
    let a : Done = record { account = answer.account; command = answer.command; answer = answer.performed } in
    act_more g.K.PoolIds.rules g.K.Names.names (map done_of c.self.inside.seen.log) (map done_of c.with_answer-seen.result.0.log) c.args.account a a c.self.inside.begun.value c.self.inside.share c.act-answer.new.share c.self.invariant c.with_answer-seen.ensures.given c.act-answer.ensures.counted c.act-answer.ensures.account refl refl refl c.with_answer-seen.ensures.noted
