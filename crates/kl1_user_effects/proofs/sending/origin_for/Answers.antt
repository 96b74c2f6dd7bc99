use Rattle.kl1_user_effects.proofs.Words.{◌+◌, sym, ◌∙◌, arith, leb-true, leb-false}
use Rattle.kl1_user_effects.proofs.Messages.{used, IsAimed, sends_none, sends_ended, sends_crowded, sends_limited, sends_full, sends_allowed}
use Rattle.kl1_user_effects.proofs.sending.origin_for.Goals as goal
use Rattle.kl1_user_effects.proofs.sending.origin_for.Goals.{In-Some}

pub returns-in_default : goal.returns-in_default
returns-in_default c =
    sends_none c.args.shoens.now.shoens (used c.args.most c.args.variables c.args.nodes c.args.entries) c.args.number c.args.message (sym c.is_number.ensures ∙ c.if-not-is_number.false) (sym c.is_message.ensures ∙ c.if-not-is_message.false) (sym c.origin_at.ensures ∙ c.in_default.is)

aimed : (c : In-Some) → IsAimed c.args.shoens.now.shoens (used c.args.most c.args.variables c.args.nodes c.args.entries) c.args.number c.args.message c.in-Some.origin
aimed c = record { number = sym c.is_number.ensures ∙ c.if-not-is_number.false; message = sym c.is_message.ensures ∙ c.if-not-is_message.false; kept = sym c.origin_at.ensures ∙ c.in-Some.is }

pub returns-then-not-lives : goal.returns-then-not-lives
returns-then-not-lives c = sends_ended (aimed (goal.at.returns-then-not-lives c).In-Some) (sym c.lives.ensures ∙ c.if-not-lives.true)

pub returns-then-most-variables : goal.returns-then-most-variables
returns-then-most-variables c = sends_crowded (aimed (goal.at.returns-then-most-variables c).In-Some) (sym c.lives.ensures ∙ c.if-not-lives.false) c.if-most-variables.true

pub returns-then-not-is_within : goal.returns-then-not-is_within
returns-then-not-is_within c =
    let a = leb-false (c.args.nodes + c.nodes_of.result) c.args.most.nodes (sym c.is_within.ensures ∙ c.if-not-is_within.true) in
    sends_limited (aimed (goal.at.returns-then-not-is_within c).In-Some) (sym c.lives.ensures ∙ c.if-not-lives.false) (omega (arith, c.if-most-variables.false)) (omega (arith, a, c.nodes_of.ensures.value))

pub returns-then-most-entries : goal.returns-then-most-entries
returns-then-most-entries c =
    let a = leb-true (c.args.nodes + c.nodes_of.result) c.args.most.nodes (sym c.is_within.ensures ∙ c.if-not-is_within.false) in
    sends_full (aimed (goal.at.returns-then-most-entries c).In-Some) (sym c.lives.ensures ∙ c.if-not-lives.false) (omega (arith, c.if-most-variables.false)) (omega (arith, a, c.nodes_of.ensures.value)) c.if-most-entries.true

pub returns : goal.returns
returns c =
    let a = leb-true (c.args.nodes + c.nodes_of.result) c.args.most.nodes (sym c.is_within.ensures ∙ c.if-not-is_within.false) in
    sends_allowed (aimed (goal.at.returns c).In-Some) (sym c.lives.ensures ∙ c.if-not-lives.false) (omega (arith, c.if-most-variables.false)) (omega (arith, a, c.nodes_of.ensures.value)) (omega (arith, c.if-most-entries.false))
