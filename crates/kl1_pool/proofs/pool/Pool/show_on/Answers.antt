use Rattle.std.proofs.Common.{◌≡◌, true, false, sym, ◌∙◌}
use Rattle.kl1_command.specs.Commands.{command_view}
use Rattle.kl1_pool.specs.Names.{called_at}
use Rattle.kl1_pool.proofs.Answering.{shown_after}
use Rattle.kl1_pool.proofs.Calling.{called_so}
use Rattle.kl1_pool.proofs.pool.Pool.show_on.Goals as goal

pub act_on-answer-requires : goal.act_on-answer-requires
act_on-answer-requires g c = record { named = λ here. called_so g.N.Names.names c.args.account c.args.name.now c.args.found.now.held.0.own_name c.requires.named (c.is_called.ensures.0 c.if-not-is_called.false) }

pub misnamed-requires : goal.misnamed-requires
misnamed-requires g c = λ yes. let z : true ≡ false = sym (c.is_called.ensures.1 yes) ∙ c.if-not-is_called.true in cc

-- what the reader was shown is the journal just after the answer
pub returns-clause-shown : goal.returns-clause-shown
returns-clause-shown g c = λ yes.
    let named = called_at g.N.Names.names c.args.account in
    let after = c.act_on-answer.new.found.held in
    let called = called_so g.N.Names.names c.args.account c.args.name.now after.0.own_name c.requires.named (c.is_called-is_still_called.ensures.0 c.if-not-is_still_called.false) in
    shown_after g.K.PoolIds.rules named (called_at g.K.Names.names c.args.account) (command_view c.args.command.now) c.act_on-answer.result.0.performed c.args.found.now.held after _ (λ j ended. g.L.JournalReader.reads c.args.reader.now c.look_at-is_shown.new.reader j ended) (c.act_on-answer.ensures.done c.if-not-is_done.false) (c.look_at-is_shown.ensures.found yes) called (c.look_at-is_shown.ensures.seen yes)
