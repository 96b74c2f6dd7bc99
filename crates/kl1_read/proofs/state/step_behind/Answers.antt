use Rattle.std.proofs.Common.{◌≡◌, map, reverse, subst, IfOk}
use Rattle.kl1_read.specs.declared.joined.Joined.TheVariants.{Bad, More, Whole}
use Rattle.kl1_read.specs.Views.{numbered_token}
use Rattle.kl1_read.specs.Meanings.{fit}
use Rattle.kl1_read.specs.States.{step_answer}
use Rattle.kl1_read.proofs.Steps.{joined_on}
use Rattle.kl1_read.proofs.state.step_behind.Goals as goal

pub returns-in-Bad-clause-value : goal.returns-in-Bad-clause-value
returns-in-Bad-clause-value c =
    joined_on c.in_ok-join.field-0 Bad c.args.left.now c.join.new.left (reverse c.args.frames.now.items) c.args.done.now.items c.args.piece (map numbered_token c.args.rest.now) c.in-Bad.is c.in_ok-join.ensures.value

pub returns-in-More-clause-value : goal.returns-in-More-clause-value
returns-in-More-clause-value c =
    joined_on c.in_ok-join.field-0 (More c.in-More.behind) c.args.left.now c.join.new.left (reverse c.args.frames.now.items) c.args.done.now.items c.args.piece (map numbered_token c.args.rest.now) c.in-More.is c.in_ok-join.ensures.value

pub returns-in-Whole-clause-value : goal.returns-in-Whole-clause-value
returns-in-Whole-clause-value c =
    subst (λ x. IfOk c.step_out.result (λ s. fit (step_answer c.step_out.new.frames.items c.step_out.new.done.items c.step_out.new.left s) ≡ x)) (joined_on c.in_ok-join.field-0 (Whole c.in-Whole.whole c.in-Whole.behind) c.args.left.now c.join.new.left (reverse c.args.frames.now.items) c.args.done.now.items c.args.piece (map numbered_token c.args.rest.now) c.in-Whole.is c.in_ok-join.ensures.value) c.step_out.ensures.value
