use Rattle.std.proofs.Common.{◌≡◌, Bool, true, false, ◌&&◌, refl, sym, ap, ◌∙◌}
use Rattle.kl1_user_account.specs.Giving.{is_other}
use Rattle.kl1_user_account.proofs.ToldAmong.{tells_none, tells_all}
use Rattle.kl1_user_account.proofs.given.told_by.Goals as goal

pub returns-then-not-held : goal.returns-then-not-held
returns-then-not-held c = ap (λ b. b && (c.args.stands && is_other c.args.asked c.args.number)) c.if-not-held.true

pub returns-then-not-stands : goal.returns-then-not-stands
returns-then-not-stands c = ap (λ b. c.args.held && (b && is_other c.args.asked c.args.number)) c.if-not-stands.true ∙ tells_none c.args.held

pub returns-then-not-is_other : goal.returns-then-not-is_other
returns-then-not-is_other c = ap (λ b. c.args.held && (c.args.stands && b)) (sym c.is_other.ensures ∙ c.if-not-is_other.true) ∙ (ap (λ b. c.args.held && b) (tells_none c.args.stands) ∙ tells_none c.args.held)

pub returns : goal.returns
returns c = (tells_all c.args.held c.args.stands (is_other c.args.asked c.args.number) c.if-not-held.false c.if-not-stands.false (sym c.is_other.ensures ∙ c.if-not-is_other.false), refl)
