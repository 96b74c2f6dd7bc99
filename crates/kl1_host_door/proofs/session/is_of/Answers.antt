use Rattle.std.proofs.Common.{ap, sym, ◌∙◌}
use Rattle.kl1_host_door.specs.declared.limits.TheConstants.{SECRET_BYTES}
use Rattle.kl1_host_door.specs.Sessions.{is_end}
use Rattle.kl1_host_door.proofs.Texts.{rest_of, its_name}
use Rattle.kl1_host_door.proofs.session.is_of.Goals as goal

pub returns-then-is_same_key : goal.returns-then-is_same_key
returns-then-is_same_key c =
    c.is_end.ensures ∙ ap is_end (rest_of SECRET_BYTES c.args.text.now)
    ∙ its_name c.args.text.now c.args.session.now c.if-text-lt-SECRET_BYTES.false (sym c.is_same_key.ensures ∙ c.if-is_same_key.true)
