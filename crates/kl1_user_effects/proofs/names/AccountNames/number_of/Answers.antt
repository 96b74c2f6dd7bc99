use Rattle.kl1_user_effects.proofs.Words.{ℕ, sym, ap, ◌∙◌}
use Rattle.std.proofs.Common.{Some, None}
use Rattle.kl1_user_effects.proofs.KnownTexts.{number_is}
use Rattle.kl1_user_effects.proofs.names.AccountNames.number_of.Goals as goal

pub returns-in-Some-get : goal.returns-in-Some-get
returns-in-Some-get c =
    ap (λ (n : ℕ). Some n) c.of_number.ensures
    ∙ number_is c.self.inside.numbers.entries c.args.self.now.names c.args.text.now (Some c.in-Some-get.number.now) (sym c.in-None.ensures) (ap (λ s. s.names) c.self.view_is) (sym c.in-Some-get.ensures.value)

pub returns-in-None-get : goal.returns-in-None-get
returns-in-None-get c =
    number_is c.self.inside.numbers.entries c.args.self.now.names c.args.text.now None (sym c.in-None.ensures) (ap (λ s. s.names) c.self.view_is) (sym c.in-None-get.ensures.value)
