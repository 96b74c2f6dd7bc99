use Rattle.kl1_user_effects.proofs.Words.{sym, ap, ◌∙◌}
use Rattle.kl1_user_effects.proofs.KnownTexts.{found_none, put_known, put_names}
use Rattle.kl1_user_effects.proofs.names.AccountNames.learn.Goals as goal

pub invariant_of-self : goal.invariant_of-self
invariant_of-self c =
    put_known c.self.inside.numbers c.args.self.now.names c.args.text c.args.number (ap (λ s. s.names) c.self.view_is)
    (found_none c.number_of.result c.args.self.now.names c.args.text c.number_of.ensures (sym c.is_some.ensures ∙ c.if-is_some.false))
    c.insert.new.self.entries c.in-Ok.ensures.entries c.self.invariant

pub returns-clause-names : goal.returns-clause-names
returns-clause-names c =
    put_names c.self.inside.numbers c.args.self.now.names c.args.text c.args.number (ap (λ s. s.names) c.self.view_is)
    (found_none c.number_of.result c.args.self.now.names c.args.text c.number_of.ensures (sym c.is_some.ensures ∙ c.if-is_some.false))
    c.insert.new.self.entries c.in-Ok.ensures.entries
