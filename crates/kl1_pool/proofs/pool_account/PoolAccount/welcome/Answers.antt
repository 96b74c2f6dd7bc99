use Rattle.std.proofs.Common.{not, ◌&&◌, ◌∙◌, ap}
use Rattle.kl1_model.specs.Choice.{quiet}
use Rattle.kl1_journal.specs.Keeping.{kept_of}
use Rattle.kl1_pool.specs.Names.{is_called}
use Rattle.kl1_pool.specs.PoolAccounts.{PoolAccountValue}
use Rattle.kl1_pool.specs.Showing.{IsFound}
use Rattle.kl1_pool.proofs.Answering.{seen_of_some}
use Rattle.kl1_pool.proofs.pool_account.PoolAccount.welcome.Goals as goal

-- who comes is shown the journal of an account of the name that was given
pub returns-clause-seen : goal.returns-clause-seen
returns-clause-seen g c = λ yes.
    let held = c.args.self.now.held in
    let counts = c.shows_counts.ensures in
    let named = is_called c.args.name.now in
    let found : IsFound g.K.PoolIds.rules named held = record {
      kept = counts.kept;
      names = counts.names;
      keeps_to = counts.rules;
      called = c.is_called.ensures.0 c.if-not-is_called.false ∙ c.as_slice.ensures ∙ c.unpacked-called.ensures.value ∙ c.text.ensures;
    } in
    seen_of_some g.K.PoolIds.rules named held c.args.self.now.past.events (λ j ended. g.L.JournalReader.reads c.args.comer.now c.look.new.reader j ended) found (c.look.ensures.seen c.if-not-look.false)

pub returns-clause-due : goal.returns-clause-due
returns-clause-due g c = λ yes f fits.
    c.due_ticket.ensures.due f fits ∙ ap (λ (x : PoolAccountValue). not x.is_out && not (quiet (kept_of f c.due_ticket.new.self.held).state)) c.look.ensures.same
