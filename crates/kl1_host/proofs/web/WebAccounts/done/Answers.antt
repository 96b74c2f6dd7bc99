use Rattle.std.proofs.Common.{ℕ, [], ◌∷◌, ◌++◌, ap₂, ◌∙◌, arith}
use Rattle.kl1_command.specs.Commands.{command_view}
use Rattle.kl1_command.specs.declared.command.Command.{Command}
use Rattle.kl1_host_web.specs.Asking.{did}
use Rattle.kl1_host_web.specs.Records.{asked_in}
use Rattle.kl1_host_web.proofs.Doing.{done_more}
use Rattle.kl1_host.proofs.web.WebAccounts.done.Goals as goal

pub invariant_of-self : goal.invariant_of-self
invariant_of-self g c =
    let done = g.P.Performer.done in
    let self = c.args.self.now in
    let same = ap₂ (λ (n : ℕ) (k : Command). asked_in self.noted ++ did n (command_view k) c.perform-performed.result ∷ []) c.of.ensures c.of-2.ensures in
    record {
      counts = self.counts;
      is_done = done_more (done self.begun.value) (done self.performer) (done c.perform-performed.new.self) (asked_in self.noted) (asked_in c.did.new.self) c.args.account (command_view c.args.command.now) c.perform-performed.result (c.perform-performed.ensures.done (omega (arith, c.requires, self.counts))) (c.did.ensures ∙ same) self.is_done;
    }
