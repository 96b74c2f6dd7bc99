-- What an account of a pool keeps over an event.
use Rattle.std.proofs.Common.{◌≡◌, ℕ, ◌<◌, false, List, ap, sym, ◌∙◌, subst, refl}
use Rattle.std.specs.Prelude.{◌↔◌, Option, Some, None, slice_get}
use Rattle.kl1_model.specs.Event as model
use Rattle.kl1_model_server.specs.Journal.{Journal, Done, done}
use Rattle.kl1_model_server.proofs.Replays.{names_stay, rules_stay}
use Rattle.kl1_atoms.specs.Names.{AreNames}
use Rattle.kl1_codes.specs.Numbered.{Numbered, ArePlaced}
use Rattle.kl1_codes.proofs.Placing.{placed_still}
use Rattle.atomic_table.specs.Seated.{TableId}
use Rattle.boxcar.specs.Table.{Shelves}
use Rattle.kl1_tally.specs.Seats.{Book}
use Rattle.kl1_user_events.specs.Views.{reduced_or}
use Rattle.kl1_user_events.specs.declared.refusal.Refusal.{Refusal}
use Rattle.kl1_journal.specs.Keeping.{Reading, Fits, Held, kept_of}
use Rattle.kl1_user.specs.Readings.{reading_of, reading_fits}
use Rattle.kl1_pool.specs.declared.totals_before_reset.TotalsBeforeReset.{TotalsBeforeReset}
use Rattle.kl1_command.specs.Told.{events_by, steps_by}
use Rattle.kl1_pool.specs.Counted.{IsCounted, with_more, past_by, is_run, ended, HasRoom}
use Rattle.kl1_pool.specs.Names.{IsNamed}
use Rattle.kl1_pool.specs.PoolAccounts.{StandsIn}
use Rattle.kl1_pool.proofs.Tells.{done_counts, ended_is}

-- what a book is to tell after an event
pub held_counts : (p : TotalsBeforeReset) (b : Book) (old new : Held) (e : model.Event) (reply : model.Reply) → AreNames new.0.names → ((f : Reading) → Fits new.0.names f → done (kept_of f old) e ≡ record { kept = kept_of f new; reply = reply }) → IsCounted p old.1 b → HasRoom b e →
    IsCounted (past_by p old.1 reply) new.1 (with_more b (events_by reply) (steps_by reply)) × (is_run reply ≡ false)
held_counts p b old new e reply names is counted room =
    let f = reading_of new.0.names in
    let d : Done = record { kept = kept_of f new; reply = reply } in
    done_counts p b (kept_of f old) e d (is f (reading_fits new.0.names names)) counted room

-- so by what was counted
pub kept_counts : (p q : TotalsBeforeReset) (b c : Book) (j k : Journal) (reply : model.Reply) → IsCounted p j b → IsCounted (past_by p j reply) k (with_more b (events_by reply) (steps_by reply)) → q ≡ ended p b reply → c ≡ with_more b (events_by reply) (steps_by reply) → IsCounted q k c
kept_counts p q b c j k reply was is past book =
    subst (λ (x : Book). IsCounted q k x) (sym book) (subst (λ (x : TotalsBeforeReset). IsCounted x k (with_more b (events_by reply) (steps_by reply))) (sym (past ∙ ended_is p j b reply was)) is)

-- a reduction leaves the past
pub step_past : (p : TotalsBeforeReset) (j : Journal) (o : Option Refusal) → past_by p j (reduced_or o) ≡ p
step_past p j None = refl
step_past p j (Some r) = refl

pub step_ended : (p : TotalsBeforeReset) (b : Book) (o : Option Refusal) → ended p b (reduced_or o) ≡ p
step_ended p b None = refl
step_ended p b (Some r) = refl

-- modules that stand in a source of codes stand in those that have the same places
pub placed_back : (old new : ℕ × ℕ → Type 0) (ms : List Numbered) → ((p : ℕ × ℕ) → old p ↔ new p) → ArePlaced new ms → ArePlaced old ms
placed_back old new ms same = placed_still new old (λ p. ((same p).1, (same p).0)) ms

-- a book that grew is of the tally and of the account that it was of
pub of_tally : (t : TableId) (b c : Book) (e n : ℕ) → c ≡ with_more b e n → b.tally ≡ t → c.tally ≡ t
of_tally t b c e n is of = ap (λ (x : Book). x.tally) is ∙ of

pub within : (most : ℕ) (b c : Book) (e n : ℕ) → c ≡ with_more b e n → b.account < most → c.account < most
within most b c e n is less = subst (λ (x : Book). x.account < most) (sym is) less

-- modules that stand in a table of codes as it is lent stand in the table that a type names
pub placed_in : (codes named : Shelves) (has : ℕ × ℕ → Type 0) (ms : List Numbered) → codes ≡ named → ((p : ℕ × ℕ) → StandsIn codes p ↔ has p) → ArePlaced has ms → ArePlaced (StandsIn named) ms
placed_in codes named has ms is same placed = subst (λ (x : Shelves). ArePlaced (StandsIn x) ms) is (placed_back (StandsIn codes) has ms same placed)

-- no event changes the rules or the name of an account
pub held_stays : (old new : Held) (e : model.Event) (reply : model.Reply) → AreNames new.0.names → ((f : Reading) → Fits new.0.names f → done (kept_of f old) e ≡ record { kept = kept_of f new; reply = reply }) →
    (new.0.rules ≡ old.0.rules) × (new.0.own_name ≡ old.0.own_name)
held_stays old new e reply names is =
    let f = reading_of new.0.names in
    let d = is f (reading_fits new.0.names names) in
    (sym (ap (λ (x : Done). x.kept.state.rules) d) ∙ rules_stay (kept_of f old).state e, sym (ap (λ (x : Done). x.kept.state.own_name) d) ∙ names_stay (kept_of f old).state e)

-- an account is still called by its name
pub named_still : (names : List (List ℕ)) (b c : Book) (e n : ℕ) (name old new : List ℕ) → c ≡ with_more b e n → new ≡ old → IsNamed names b.account name old → IsNamed names c.account name new
named_still names b c e n name old new is same named = record {
  is = same ∙ named.is;
  listed = λ other at. named.listed other (sym (ap (λ (x : Book). slice_get names x.account) is) ∙ at);
}
