use Rattle.std.proofs.Common.{◌≡◌, ◌++◌, ◌∙◌, Some, None, ap, sym, arith}
use Rattle.std.proofs.lemmas.Option.{slice_get_within}
use Rattle.std.proofs.lemmas.Result.{on_ok_weaker}
use Rattle.kl1_model.specs.declared.rules.Rules.TheVariants.{Three}
use Rattle.kl1_model.specs.Event.{refused, syntax}
use Rattle.kl1_model.specs.Record.{Record}
use Rattle.kl1_model_server.specs.Command.{command_of}
use Rattle.kl1_user_events.specs.Views.{reply_of}
use Rattle.kl1_command.specs.Commands.{command_view}
use Rattle.kl1_lines.specs.Records.{request_of}
use Rattle.kl1_script.proofs.Worlds.{does_nothing, does_command, alone_still, alone_done, always_ok, written_refused, written_done}
use Rattle.kl1_script.proofs.answers.put_record.Goals as goal

pub returns-in_default-clause-alone : goal.returns-in_default-clause-alone
returns-in_default-clause-alone g c =
    let r : Record = record { name = c.args.found.name.now; request = request_of c.args.found.request } in
    always_ok c.extend_from_slice.result (λ before w. alone_still c.args.accounts.now c.args.world.now.0 before r c.in_default.ensures.none w)

pub returns-in-Ok-Refused-clause-alone : goal.returns-in-Ok-Refused-clause-alone
returns-in-Ok-Refused-clause-alone g c =
    let r : Record = record { name = c.args.found.name.now; request = request_of c.args.found.request } in
    let none : command_of Three r.request ≡ None = sym (rw c.in-Ok-Refused.field-0-is at c.in-Ok-Refused.ensures) in
    always_ok c.put_lines.result (λ before w.
    alone_done c.args.accounts.now c.args.world.now.0 c.args.world.now.0 before r c.in-Some.account (refused syntax) c.requires.distinct c.in-Some.ensures.some (does_nothing c.args.world.now.0 c.in-Some.account (command_of Three r.request) none) w)

pub returns-in-Ok-Refused-clause-reply : goal.returns-in-Ok-Refused-clause-reply
returns-in-Ok-Refused-clause-reply g c =
    let r : Record = record { name = c.args.found.name.now; request = request_of c.args.found.request } in
    let none : command_of Three r.request ≡ None = sym (rw c.in-Ok-Refused.field-0-is at c.in-Ok-Refused.ensures) in
    on_ok_weaker c.put_lines.result (λ told before w.
    told ∙ ap (λ x. c.args.out.now.items ++ x) (sym (written_refused c.args.accounts.now before r c.in-Some.account c.in-Some.ensures.some none))) c.put_lines.ensures.ok

pub perform-performed-requires : goal.perform-performed-requires
perform-performed-requires g c =
    omega (arith, slice_get_within c.args.accounts.now c.in-Some.account c.args.found.name.now c.in-Some.ensures.some)

pub shows_names-requires : goal.shows_names-requires
shows_names-requires g c =
    omega (arith, slice_get_within c.args.accounts.now c.in-Some.account c.args.found.name.now c.in-Some.ensures.some, c.perform-performed.ensures.many)

pub returns-in-Whole-clause-alone : goal.returns-in-Whole-clause-alone
returns-in-Whole-clause-alone g c =
    let r : Record = record { name = c.args.found.name.now; request = request_of c.args.found.request } in
    let is : Some (command_view c.in-Ok-Command.command) ≡ command_of Three r.request = rw c.in-Ok-Command.field-0-is at c.in-Ok-Command.ensures in
    let reply = reply_of c.in-Whole.reply in
    let does = does_command c.args.world.now.0 c.perform-performed.new.self.0 c.in-Some.account (command_of Three r.request) (command_view c.in-Ok-Command.command) reply is c.in-Whole.ensures.does c.perform-performed.ensures.before c.perform-performed.ensures.others c.perform-performed.ensures.many in
    always_ok c.put_lines-in-Whole.result (λ before w.
    alone_done c.args.accounts.now c.args.world.now.0 c.perform-performed.new.self.0 before r c.in-Some.account reply c.requires.distinct c.in-Some.ensures.some does w)

pub returns-in-Whole-clause-reply : goal.returns-in-Whole-clause-reply
returns-in-Whole-clause-reply g c =
    let r : Record = record { name = c.args.found.name.now; request = request_of c.args.found.request } in
    let is : Some (command_view c.in-Ok-Command.command) ≡ command_of Three r.request = rw c.in-Ok-Command.field-0-is at c.in-Ok-Command.ensures in
    let reply = reply_of c.in-Whole.reply in
    let does = does_command c.args.world.now.0 c.perform-performed.new.self.0 c.in-Some.account (command_of Three r.request) (command_view c.in-Ok-Command.command) reply is c.in-Whole.ensures.does c.perform-performed.ensures.before c.perform-performed.ensures.others c.perform-performed.ensures.many in
    on_ok_weaker c.put_lines-in-Whole.result (λ told before w.
    told ∙ ap (λ x. c.args.out.now.items ++ x) (sym (written_done c.args.accounts.now c.args.world.now.0 c.perform-performed.new.self.0 before r c.in-Some.account reply c.in-Some.ensures.some c.shows_names.ensures.names does w))) c.put_lines-in-Whole.ensures.ok
