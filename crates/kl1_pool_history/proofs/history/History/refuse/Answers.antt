use Rattle.std.proofs.Common.{map}
use Rattle.kl1_command.specs.Commands.{command_view}
use Rattle.kl1_command.specs.declared.performed.Performed.TheVariants.{Memory}
use Rattle.kl1_session.specs.Conversations.{Done}
use Rattle.kl1_pool_history.specs.Entries.{done_of}
use Rattle.kl1_pool_history.proofs.Answering.{answered_more, counted_none}
use Rattle.kl1_pool_history.proofs.history.History.refuse.Goals as goal

-- memory was refused, and nothing is counted
pub invariant_of-self : goal.invariant_of-self
invariant_of-self g c =
    let d : Done = record { account = c.of.result.value; command = command_view c.of-2.result.value; answer = Memory } in
    answered_more g.K.PoolIds.rules g.N.Names.names (map done_of c.self.inside.seen.log) (map done_of c.with_entry.result.log) d c.self.inside.begun.value c.self.inside.share c.self.inside.share c.self.invariant tt (counted_none c.of.result.value c.self.inside.share) c.with_entry.ensures
