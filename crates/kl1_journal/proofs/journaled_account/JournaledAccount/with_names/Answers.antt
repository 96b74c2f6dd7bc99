use Rattle.std.proofs.Common.{◌≡◌, [], ap, ◌∙◌, subst}
use Rattle.kl1_model.specs.State.{State}
use Rattle.kl1_model_server.specs.Journal.{Journal, Kept}
use Rattle.kl1_atoms.specs.Names.{AreNames}
use Rattle.kl1_user.specs.Accounts.{Reading}
use Rattle.kl1_user.specs.Readings.{reading_of}
use Rattle.kl1_journal.specs.Keeping.{kept_of, kept_since_reset}
use Rattle.kl1_journal.proofs.Keeps.{kept_named}
use Rattle.kl1_journal.proofs.NameLists.{list_of_names}
use Rattle.kl1_journal.proofs.journaled_account.JournaledAccount.with_names.Goals as goal

pub with_names-requires-2-clause-list : goal.with_names-requires-2-clause-list
with_names-requires-2-clause-list g c = list_of_names c.args.rules c.args.texts.now c.requires.names

pub invariant_of-result : goal.invariant_of-result
invariant_of-result g c =
    let is : (f : Reading) → kept_of f (c.in_ok-user.user, c.in_ok-journal.journal.journal) ≡ kept_since_reset c.args.rules c.args.name c.args.texts.now =
    λ f. ap (λ (s : State). let z : Kept = record { state = s; journal = c.in_ok-journal.journal.journal } in z) (c.in_ok-user.ensures.fresh f) ∙ ap (λ (j : Journal). let z : Kept = record { state = (kept_since_reset c.args.rules c.args.name c.args.texts.now).state; journal = j } in z) c.in_ok-journal.ensures in
    let names = subst AreNames c.in_ok-user.ensures.knows (g.met.A.AtomSource.one_to_one c.with_names-2.new.names c.with_names-2.new.seat c.with_names-2.ensures.keeps.of) in
    (c.in_ok-user.ensures.knows, kept_named c.in_ok-user.user c.in_ok-journal.journal.journal c.args.rules c.args.name c.args.texts.now c.requires.names names is, names)

pub returns-clause-fresh : goal.returns-clause-fresh
returns-clause-fresh g c =
    λ f. ap (λ (s : State). let z : Kept = record { state = s; journal = c.in_ok-journal.journal.journal } in z) (c.in_ok-user.ensures.fresh f) ∙ ap (λ (j : Journal). let z : Kept = record { state = (kept_since_reset c.args.rules c.args.name c.args.texts.now).state; journal = j } in z) c.in_ok-journal.ensures

pub returns-clause-rules : goal.returns-clause-rules
returns-clause-rules g c = ap (λ (s : State). s.rules) (c.in_ok-user.ensures.fresh (reading_of []))
