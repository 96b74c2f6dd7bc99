-- What commands do by the room that there is.
use Rattle.std.proofs.Common.{◌≡◌, ℕ, zero, suc, ◌-◌, ◌<◌, ◌≤◌, min, Bool, true, false, if◌then◌else◌, ap, sym, ◌∙◌, subst, refl, arith}
use Rattle.std.specs.Prelude.{Option, Some, None}
use Rattle.kl1_model.specs.Event as model
use Rattle.kl1_model.specs.Choice.{Chosen, first}
use Rattle.kl1_model_server.specs.Journal.{is_entry, Kept, done}
use Rattle.kl1_model_server.specs.JournalText.{page_of}
use Rattle.kl1_model_server.specs.Command.{Command, does, run, shows, said}
use Rattle.kl1_user_events.specs.Views.{reply_of}
use Rattle.kl1_user_events.specs.declared.reply.Reply.{Reply}
use Rattle.kl1_command.specs.declared.performed.Performed.{Performed}
use Rattle.kl1_command.specs.declared.performed.Performed.TheVariants as performed
use Rattle.kl1_command.specs.Performing.{Performs}
use Rattle.kl1_command.specs.Room.{HasRoomFor, less, done_in_vain, done_within, run_in_vain, act_in_vain, PerformsInVain, PerformsWithin}

-- an event, by the room
pub does_within : (room : Option ℕ) (s after : Kept) (e : model.Event) (reply : Reply) → done_within room s e ≡ record { kept = after; reply = reply_of reply } → PerformsWithin room s (does e) (performed.Whole reply) after
does_within None s after e reply is = is
does_within (Some zero) s after e reply is = is
does_within (Some (suc n)) s after e reply is = is

-- a page of the journal, by the room
pub shows_within : (room : Option ℕ) (s : Kept) (from count : ℕ) (reply : Reply) → reply_of reply ≡ model.listed (page_of s.journal from count) → PerformsWithin room s (shows from count) (performed.Whole reply) s
shows_within None s from count reply is = ap (said s) (sym is)
shows_within (Some zero) s from count reply is = ap (said s) (sym is)
shows_within (Some (suc n)) s from count reply is = ap (said s) (sym is)

-- nothing, by the room
pub none_within : (room : Option ℕ) (s after : Kept) (c : Command) → after ≡ s → PerformsWithin room s c performed.Memory after
none_within None s after c same = same
none_within (Some zero) s after c same = same
none_within (Some (suc n)) s after c same = same

-- what is done without a book
pub within_none : (room : Option ℕ) (s after : Kept) (c : Command) (p : Performed) → None ≡ room → Performs s c p after → PerformsWithin room s c p after
within_none room s after c p e h = subst (λ r. PerformsWithin r s c p after) e h

-- what is done if there is no room
pub within_full : (room : Option ℕ) (s after : Kept) (c : Command) (p : Performed) → Some 0 ≡ room → PerformsInVain s c p after → PerformsWithin room s c p after
within_full room s after c p e h = subst (λ r. PerformsWithin r s c p after) e h

some_room : (n : ℕ) (s after : Kept) (k : ℕ) (p : Performed) → 0 < n → Performs s (run (min k n)) p after → PerformsWithin (Some n) s (run k) p after
some_room zero s after k p some h = absurd (let z : 0 < 0 = some in omega (arith, z))
some_room (suc n) s after k p some h = h

-- a run that is held to the room
pub within_some : (room : Option ℕ) (n : ℕ) (s after : Kept) (k : ℕ) (p : Performed) → Some n ≡ room → 0 < n → Performs s (run (min k n)) p after → PerformsWithin room s (run k) p after
within_some room n s after k p e some h = subst (λ r. PerformsWithin r s (run k) p after) e (some_room n s after k p some h)

-- a run in vain of no steps
pub vain_zero : (s : Kept) (most : ℕ) → most ≡ 0 → act_in_vain s (run most) ≡ record { kept = s; reply = model.ran 0 }
vain_zero s most e = subst (λ m. act_in_vain s (run m) ≡ record { kept = s; reply = model.ran 0 }) (sym e) refl

-- a run in vain if no goal can step
pub vain_quiet : (s : Kept) (most : ℕ) → None ≡ first s.state → act_in_vain s (run most) ≡ record { kept = s; reply = model.ran 0 }
vain_quiet s zero e = refl
vain_quiet s (suc k) e = ap (run_in_vain s) (sym e)

-- a run in vain if one can
pub vain_refused : (s : Kept) (most : ℕ) (c : Chosen) → 0 < most → Some c ≡ first s.state → act_in_vain s (run most) ≡ record { kept = s; reply = model.refused model.journal_full }
vain_refused s zero c some e = absurd (let z : 0 < 0 = some in omega (arith, z))
vain_refused s (suc k) c some e = ap (run_in_vain s) (sym e)

-- room for one entry, if there is some for more
pub room_for_one : (room : Option ℕ) (done most : ℕ) → done < most → HasRoomFor most room → HasRoomFor 1 (less room done)
room_for_one None done most more h = tt
room_for_one (Some room) done most more h = let z : most ≤ room = h in let one : 1 ≤ room - done = omega (arith, more, z) in one

-- a run is held to the room
pub fits_room : (room : Option ℕ) (k n : ℕ) → Some n ≡ room → HasRoomFor (min k n) room
fits_room room k n e = let z : min k n ≤ n = omega arith in subst (λ r. HasRoomFor (min k n) r) e z

no_entry : (X : Type 0) (b : Bool) → b ≡ false → b ≡ true → X
no_entry X true other entry = cc
no_entry X false other entry = cc

vain_by : (b : Bool) (s after : Kept) (e : model.Event) (reply : model.Reply) → is_entry e ≡ b → (is_entry e ≡ true → (reply ≡ model.refused model.journal_full) × (after ≡ s)) → (is_entry e ≡ false → done s e ≡ record { kept = after; reply = reply }) → done_in_vain s e ≡ record { kept = after; reply = reply }
vain_by true s after e reply is entry other =
    ap (λ (b : Bool). if b then said s (model.refused model.journal_full) else done s e) is
    ∙ ap (λ (r : model.Reply). said s r) (sym (entry is).0) ∙ ap (λ (k : Kept). said k reply) (sym (entry is).1)
vain_by false s after e reply is entry other = ap (λ (b : Bool). if b then said s (model.refused model.journal_full) else done s e) is ∙ other is

-- an event, by how much room there is: an entry without room is refused, all else is done
pub done_by_room : (room : ℕ) (s after : Kept) (e : model.Event) (reply : model.Reply) → (room ≡ 0 → is_entry e ≡ true → (reply ≡ model.refused model.journal_full) × (after ≡ s)) → ((is_entry e ≡ true → 0 < room) → done s e ≡ record { kept = after; reply = reply }) → done_within (Some room) s e ≡ record { kept = after; reply = reply }
done_by_room zero s after e reply full has = vain_by (is_entry e) s after e reply refl (full refl) (λ other. has (λ entry. no_entry (0 < 0) (is_entry e) other entry))
done_by_room (suc n) s after e reply full has = has (λ entry. let some : 0 < suc n = omega arith in some)
