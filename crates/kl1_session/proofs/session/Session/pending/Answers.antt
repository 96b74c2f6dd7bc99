use Rattle.std.proofs.Common.{ap, ◌∙◌, min, arith}
use Rattle.std.proofs.lemmas.Grind.{common_steps}
use Rattle.kl1_session.proofs.Kept.{pending_some, no_load}
use Rattle.kl1_session.proofs.session.Session.pending.Goals as goal

pub returns-in-Some-clause-value : goal.returns-in-Some-clause-value
returns-in-Some-clause-value c =
    pending_some c.self.inside.source c.self.inside.kept.items c.args.self.now c.in-Some.count c.min.result c.self.invariant c.self.view_is c.in-Some.is (c.min.ensures ∙ ap (λ x. min c.in-Some.count x) (c.len-kept.ensures ∙ (let h = c.self.inside.kept.ok in grind (arith, common_steps))))

pub returns-in-Some-clause-line : goal.returns-in-Some-clause-line
returns-in-Some-clause-line c = λ h. absurd (no_load c.self.inside.source c.self.inside.kept.items c.args.self.now c.in-Some.count c.self.invariant c.self.view_is c.in-Some.is h)
