use Rattle.std.proofs.Common.{◌≡◌, [], ap, ◌∙◌, sym}
use Rattle.kl1_model.specs.State.{State}
use Rattle.kl1_model_server.specs.Journal.{Journal, Kept, fresh_kept}
use Rattle.kl1_user.specs.Accounts.{Reading}
use Rattle.kl1_user.specs.Readings.{reading_of}
use Rattle.kl1_journal.specs.Keeping.{kept_of}
use Rattle.kl1_journal.proofs.Keeps.{kept_fresh, fresh_names}
use Rattle.kl1_journal.proofs.journaled_account.JournaledAccount.new.Goals as goal

pub invariant_of-result : goal.invariant_of-result
invariant_of-result g c =
    let is : (f : Reading) → kept_of f (c.in_ok-user.user, c.new.result.journal) ≡ fresh_kept c.args.rules c.args.name =
    λ f. ap (λ (s : State). let z : Kept = record { state = s; journal = c.new.result.journal } in z) (c.in_ok-user.ensures.fresh f) ∙ ap (λ (j : Journal). let z : Kept = record { state = (fresh_kept c.args.rules c.args.name).state; journal = j } in z) c.new.ensures in
    (c.requires ∙ sym c.in_ok-user.ensures.names, kept_fresh c.in_ok-user.user c.new.result.journal c.args.rules c.args.name c.in_ok-user.ensures.names is, fresh_names c.in_ok-user.user.names c.in_ok-user.ensures.names)

pub returns-clause-fresh : goal.returns-clause-fresh
returns-clause-fresh g c =
    λ f. ap (λ (s : State). let z : Kept = record { state = s; journal = c.new.result.journal } in z) (c.in_ok-user.ensures.fresh f) ∙ ap (λ (j : Journal). let z : Kept = record { state = (fresh_kept c.args.rules c.args.name).state; journal = j } in z) c.new.ensures

pub returns-clause-rules : goal.returns-clause-rules
returns-clause-rules g c = ap (λ (s : State). s.rules) (c.in_ok-user.ensures.fresh (reading_of []))
