use Rattle.std.proofs.Common.{ap, sym, subst, ◌∙◌, ◌<◌, ◌^◌, List}
use Rattle.kl1_model.specs.Event.{reduce as reduce_event}
use Rattle.kl1_codes.specs.Numbered.{Numbered, ArePlaced}
use Rattle.kl1_user_events.specs.Views.{reduced_or}
use Rattle.kl1_tally.specs.declared.amounts.TheConstants.{MOST_ACCOUNTS}
use Rattle.std.specs.Prelude.{slice_get}
use Rattle.kl1_tally.specs.Seats.{Book}
use Rattle.kl1_model.specs.declared.rules.Rules.{Rules}
use Rattle.kl1_pool.specs.Parts.{HasRoomFor}
use Rattle.kl1_pool.specs.PoolAccounts.{StandsIn, PoolAccountValue}
use Rattle.kl1_command.specs.Told.{events_by, steps_by}
use Rattle.kl1_pool.proofs.Shown.{held_follows}
use Rattle.kl1_pool.proofs.PoolAccounts.{held_counts, kept_counts, of_tally, within, step_past, step_ended, held_stays, named_still}
use Rattle.kl1_pool.proofs.pool_account.PoolAccount.reduce.Goals as goal

-- the seat has room for the names of the account's rules
pub reduce-requires-clause-room : goal.reduce-requires-clause-room
reduce-requires-clause-room g c = subst (λ (of : Rules). HasRoomFor of c.self.inside.kept.0) (sym c.self.invariant.5) c.self.invariant.0.1

pub invariant_of-self-2 : goal.invariant_of-self-2
invariant_of-self-2 g c =
    let p = c.self.inside.past in
    let b = c.self.inside.book in
    let old = c.self.inside.kept.1 in
    let new = c.reduce.new.self.1 in
    let r = reduced_or c.in_ok-refused.refused in
    let room = subst (λ (x : Book). x.events < 2 ^ 63) (sym (ap (λ (x : PoolAccountValue). x.book) c.self.view_is)) c.requires.room in
    let counts = held_counts p b old new (reduce_event c.args.goal.0 c.args.clause.0) r c.shows_replay-2.ensures.names c.in_ok-refused.ensures.step c.self.invariant.4 (λ entry. room) in
    let stays = held_stays old new (reduce_event c.args.goal.0 c.args.clause.0) r c.shows_replay-2.ensures.names c.in_ok-refused.ensures.step in (
      c.reduce.ensures.of,
      subst (λ (ms : List Numbered). ArePlaced (StandsIn g.K.PoolIds.codes) ms) (sym c.reduce.ensures.modules) c.self.invariant.1,
      of_tally g.K.TicketIds.tally b c.count_step.new.book (events_by r) (steps_by r) c.count_step.ensures.book c.self.invariant.2,
      within MOST_ACCOUNTS b c.count_step.new.book (events_by r) (steps_by r) c.count_step.ensures.book c.self.invariant.3,
      kept_counts p p b c.count_step.new.book old.1 new.1 r c.self.invariant.4 counts.0 (sym (step_ended p b c.in_ok-refused.refused)) c.count_step.ensures.book,
      stays.0 ∙ c.self.invariant.5,
      named_still g.K.Names.names b c.count_step.new.book (events_by r) (steps_by r) c.self.inside.name old.0.own_name new.0.own_name c.count_step.ensures.book stays.1 c.self.invariant.6,
      ap (λ (x : Book). slice_get g.K.ShownIds.histories x.account) c.count_step.ensures.book ∙ c.self.invariant.7,
      held_follows c.self.inside.shown.last p p old new (reduce_event c.args.goal.0 c.args.clause.0) r c.shows_replay.ensures.kept c.shows_replay-2.ensures.names c.reduce.ensures.before c.in_ok-refused.ensures.step
          (sym (step_past p old.1 c.in_ok-refused.refused)) c.self.invariant.8,
    )
