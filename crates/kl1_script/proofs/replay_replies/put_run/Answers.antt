use Rattle.std.proofs.Common.{◌≡◌, ◌++◌, Bool, true, false, ap, sym, ◌∙◌, subst}
use Rattle.std.proofs.lemmas.List.{append-nil}
use Rattle.kl1_model_server.specs.Journal.{runs, entry_step}
use Rattle.kl1_user.specs.Accounts.{state_of}
use Rattle.kl1_script.specs.Replays.{if_accepted}
use Rattle.kl1_script.specs.Steps.{Went}
use Rattle.kl1_script.proofs.FirstSteps.{nothing_told, run_told}
use Rattle.kl1_script.proofs.replay_replies.put_run.Goals as goal

pub returns-then-not-accepted-clause-told : goal.returns-then-not-accepted-clause-told
returns-then-not-accepted-clause-told g c = λ f fits.
    let refused : c.in_ok-accepted.accepted ≡ false = cc in
    let o = if_accepted (entry_step (state_of f c.args.replayed.now) (runs c.args.reductions)) in
    let P : Bool → Type 0 = λ b. Went b o (state_of f c.run.new.self) in
    sym (append-nil c.args.out.now.items) ∙ ap (λ x. c.args.out.now.items ++ x) (nothing_told o (state_of f c.run.new.self) (subst P refused (c.in_ok-accepted.ensures.step f fits)))

pub returns-clause-told : goal.returns-clause-told
returns-clause-told g c = λ f fits.
    let accepted : c.in_ok-accepted.accepted ≡ true = cc in
    let P : Bool → Type 0 = λ b. Went b (if_accepted (entry_step (state_of f c.args.replayed.now) (runs c.args.reductions))) (state_of f c.run.new.self) in
    c.in_ok-put_reply.ensures.ok ∙ ap (λ x. c.args.out.now.items ++ x) (sym (run_told c.args.reductions (state_of f c.args.replayed.now) (state_of f c.run.new.self) (subst P accepted (c.in_ok-accepted.ensures.step f fits))))
