use Rattle.std.proofs.Common.{◌≡◌, ◌∙◌, ap, sym, subst}
use Rattle.kl1_model_server.specs.Journal.{done}
use Rattle.kl1_user_events.specs.Views.{event_of, reply_of}
use Rattle.kl1_tally.specs.declared.amounts.TheConstants.{MOST_ACCOUNTS}
use Rattle.kl1_journal.specs.Keeping.{Held, kept_of}
use Rattle.kl1_model.specs.declared.rules.Rules.{Rules}
use Rattle.kl1_pool.specs.Parts.{HasRoomFor}
use Rattle.kl1_pool.specs.PoolAccounts.{StandsIn, PoolAccountValue}
use Rattle.kl1_command.specs.Told.{events_by, steps_by}
use Rattle.std.specs.Prelude.{slice_get}
use Rattle.kl1_tally.specs.Seats.{Book}
use Rattle.kl1_pool.proofs.Shown.{held_follows}
use Rattle.kl1_pool.proofs.Tells.{ended_is}
use Rattle.kl1_pool.proofs.PoolAccounts.{held_counts, kept_counts, of_tally, within, placed_in, held_stays, named_still}
use Rattle.kl1_pool.proofs.pool_account.PoolAccount.apply.Goals as goal

-- the seat has room for the names of the account's rules
pub apply-requires-clause-room : goal.apply-requires-clause-room
apply-requires-clause-room g c = subst (λ (of : Rules). HasRoomFor of c.self.inside.kept.0) (sym c.self.invariant.5) c.self.invariant.0.1

pub count-requires-clause-one : goal.count-requires-clause-one
count-requires-clause-one g c =
    (held_counts c.self.inside.past c.self.inside.book c.self.inside.kept.1 c.apply.new.self.1 (event_of c.args.event.now) (reply_of c.in_ok-reply.reply) c.shows_replay-2.ensures.names c.in_ok-reply.ensures.step c.self.invariant.4 (c.is_full.ensures.room c.if-is_full.false)).1

pub count-requires-clause-room : goal.count-requires-clause-room
count-requires-clause-room g c =
    (held_counts c.self.inside.past c.self.inside.book c.self.inside.kept.1 c.apply.new.self.1 (event_of c.args.event.now) (reply_of c.in_ok-reply.reply) c.shows_replay-2.ensures.names c.in_ok-reply.ensures.step c.self.invariant.4 (c.is_full.ensures.room c.if-is_full.false)).0.few

pub invariant_of-self-2 : goal.invariant_of-self-2
invariant_of-self-2 g c =
    let p = c.self.inside.past in
    let b = c.self.inside.book in
    let old = c.self.inside.kept.1 in
    let new = c.apply.new.self.1 in
    let r = reply_of c.in_ok-reply.reply in
    let counts = held_counts p b old new (event_of c.args.event.now) r c.shows_replay-2.ensures.names c.in_ok-reply.ensures.step c.self.invariant.4 (c.is_full.ensures.room c.if-is_full.false) in
    let stays = held_stays old new (event_of c.args.event.now) r c.shows_replay-2.ensures.names c.in_ok-reply.ensures.step in (
      c.apply.ensures.of,
      placed_in c.args.codes.now.table.now g.K.PoolIds.codes (StandsIn c.apply.new.codes.table.now) new.0.modules c.requires.codes c.apply.ensures.same c.apply.ensures.placed,
      of_tally g.K.TicketIds.tally b c.count.new.book (events_by r) (steps_by r) c.count.ensures.book c.self.invariant.2,
      within MOST_ACCOUNTS b c.count.new.book (events_by r) (steps_by r) c.count.ensures.book c.self.invariant.3,
      kept_counts p c.past_after-self-inside.result b c.count.new.book old.1 new.1 r c.self.invariant.4 counts.0 c.past_after-self-inside.ensures c.count.ensures.book,
      stays.0 ∙ c.self.invariant.5,
      named_still g.K.Names.names b c.count.new.book (events_by r) (steps_by r) c.self.inside.name old.0.own_name new.0.own_name c.count.ensures.book stays.1 c.self.invariant.6,
      ap (λ (x : Book). slice_get g.K.ShownIds.histories x.account) c.count.ensures.book ∙ c.self.invariant.7,
      held_follows c.self.inside.shown.last p c.past_after-self-inside.result old new (event_of c.args.event.now) r c.shows_replay.ensures.kept c.shows_replay-2.ensures.names c.apply.ensures.before c.in_ok-reply.ensures.step
          (c.past_after-self-inside.ensures ∙ ended_is p old.1 b r c.self.invariant.4) c.self.invariant.8,
    )

pub returns-clause-step : goal.returns-clause-step
returns-clause-step g c = λ room f fits.
    subst (λ (h : Held). done (kept_of f h) (event_of c.args.event.now) ≡ record { kept = kept_of f c.apply.new.self.1; reply = reply_of c.in_ok-reply.reply }) (ap (λ (x : PoolAccountValue). x.held) c.self.view_is) (c.in_ok-reply.ensures.step f fits)
