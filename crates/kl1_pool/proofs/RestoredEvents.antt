-- What becomes of one entry, by the reply to it or by how its run ended.
use Rattle.std.proofs.Common.{◌≡◌, ℕ, zero, suc, ◌+◌, ◌-◌, ◌<◌, ◌≤◌, Bool, true, false, if◌then◌else◌, [], ◌∷◌, refl, sym, ap, ◌∙◌, subst, arith}
use Rattle.std.specs.Prelude.{Option, Some, None}
use Rattle.std.proofs.lemmas.Option.{same_Some, none-some}
use Rattle.kl1_model.specs.State.{State, has_runs}
use Rattle.kl1_model.specs.Event as model
use Rattle.kl1_model.specs.Event.{ran, Transition, is_refused}
use Rattle.kl1_model.specs.Step.{step}
use Rattle.kl1_model.proofs.TreeSteps.{refusals_change_nothing}
use Rattle.kl1_model_server.specs.Journal.{Entry, loads, starts, sends, steps, answers, forgets, runs, run_length, entry_step, first_step, first_steps, Kept, Done, done}
use Rattle.kl1_user_events.specs.Views.{refusal_of}
use Rattle.kl1_journal_entries.specs.Lined.{entry_of}
use Rattle.kl1_command.specs.declared.first_step.FirstStep.{FirstStep}
use Rattle.kl1_command.specs.declared.first_step.FirstStep.TheVariants as first_step
use Rattle.kl1_command.specs.Told.{told_by, told_steps}
use Rattle.kl1_command.specs.Room.{HasRoomFor, less, done_within}
use Rattle.kl1_command.specs.Stepping.{RunsOn, IsEnd}
use Rattle.kl1_command.proofs.Runs.{all_done}
use Rattle.kl1_pool.specs.declared.restoring.RestoreEnd.TheVariants as ending
use Rattle.kl1_pool.specs.declared.restoring.EntryResult.{EntryResult}
use Rattle.kl1_pool.specs.declared.restoring.EntryResult.TheVariants as result
use Rattle.kl1_pool.specs.Restoring.{Leads, IsNext, IsEntryDone, result_by, result_of_run, told_of, told_entry}
use Rattle.kl1_pool.proofs.FirstSteps.{steps_on, runs_first, run_refused, quiet_refused, step_refused, run_does, run_is_refused}
use Rattle.kl1_pool.proofs.ToldEntries.{told_event}
use Rattle.kl1_pool.proofs.RestoredEntries.{told_is}

-- nothing of an entry is done
pub none_of : (s : State) (y : Entry) → (first_steps 0 s ≡ record { state = s; reply = ran 0 }) × IsNext (y ∷ []) 0
none_of s y = (refl, let z : 0 ≤ run_length y = omega arith in z)

-- with room an event is done as without a book
with_room : (room : Option ℕ) (k : Kept) (e : model.Event) → HasRoomFor 1 room → done_within room k e ≡ done k e
with_room None k e h = refl
with_room (Some zero) k e h = let z : 1 ≤ 0 = h in absurd (omega (arith, z))
with_room (Some (suc n)) k e h = refl

-- an event that is an entry does what the entry does
entry_does : (s : State) (e : model.Event) (y : Entry) → entry_of e ≡ Some y → entry_step s y ≡ step s e
entry_does s (model.load text) y is = sym (ap (entry_step s) (same_Some (loads text) y is))
entry_does s (model.start allowance low high t) y is = sym (ap (entry_step s) (same_Some (starts allowance low high t) y is))
entry_does s (model.control n m) y is = sym (ap (entry_step s) (same_Some (sends n m) y is))
entry_does s (model.answer n report t) y is = sym (ap (entry_step s) (same_Some (answers n report t) y is))
entry_does s (model.forget n count) y is = sym (ap (entry_step s) (same_Some (forgets n count) y is))
entry_does s (model.reduce goal clause) y is = sym (ap (entry_step s) (same_Some (steps goal clause) y is))
entry_does s (model.read q) y is = absurd (none-some y is)
entry_does s model.login y is = absurd (none-some y is)
entry_does s model.logout y is = absurd (none-some y is)
entry_does s model.reset y is = absurd (none-some y is)

by_reply : (s after : State) (y : Entry) (r : model.Reply) (b : Bool) → is_refused r ≡ b → (entry_step s y).state ≡ after → (entry_step s y).reply ≡ r → (is_refused (entry_step s y).reply ≡ true → (entry_step s y).state ≡ s) →
    IsEntryDone s y (if b then result.Stopped 0 ending.Refused else result.Whole) after
by_reply s after y r true is state reply stays =
    let refusal = ap is_refused reply ∙ is in
    (ap (λ (t : State). let z : Transition = record { state = t; reply = ran 0 } in z) (sym (stays refusal) ∙ state), (refusal, (none_of s y).1))
by_reply s after y r false is state reply stays = (ap is_refused reply ∙ is, sym state)

-- what becomes of an entry whose event is done with room
pub event_done : (room : Option ℕ) (k after : Kept) (e : model.Event) (y : Entry) (r : model.Reply) (x : EntryResult) → HasRoomFor 1 room → entry_of e ≡ Some y → done_within room k e ≡ record { kept = after; reply = r } → x ≡ result_by r →
    IsEntryDone k.state y x after.state
event_done room k after e y r x has is does so =
    let same = entry_does k.state e y is in
    let d : done k e ≡ record { kept = after; reply = r } = sym (with_room room k e has) ∙ does in
    let state : (entry_step k.state y).state ≡ after.state = ap (λ (t : Transition). t.state) same ∙ ap (λ (z : Done). z.kept.state) d in
    let reply : (entry_step k.state y).reply ≡ r = ap (λ (t : Transition). t.reply) same ∙ ap (λ (z : Done). z.reply) d in
    let stays : is_refused (entry_step k.state y).reply ≡ true → (entry_step k.state y).state ≡ k.state =
    λ refusal. ap (λ (t : Transition). t.state) same ∙ refusals_change_nothing k.state e (sym (ap (λ (t : Transition). is_refused t.reply) same) ∙ refusal) in
    subst (λ q. IsEntryDone k.state y q after.state) (sym so) (by_reply k.state after.state y r (is_refused r) refl state reply stays)

none_told : (r : model.Reply) → is_refused r ≡ true → told_by r ≡ told_of [] 0
none_told (model.loaded name) h = absurd (let z : false ≡ true = h in cc)
none_told (model.opened n) h = absurd (let z : false ≡ true = h in cc)
none_told model.sent h = absurd (let z : false ≡ true = h in cc)
none_told model.reduced h = absurd (let z : false ≡ true = h in cc)
none_told (model.ran n) h = absurd (let z : false ≡ true = h in cc)
none_told (model.shown text) h = absurd (let z : false ≡ true = h in cc)
none_told (model.status_is c charged allowance alive) h = absurd (let z : false ≡ true = h in cc)
none_told (model.listed texts) h = absurd (let z : false ≡ true = h in cc)
none_told (model.quiet_is a) h = absurd (let z : false ≡ true = h in cc)
none_told (model.welcome name) h = absurd (let z : false ≡ true = h in cc)
none_told model.bye h = absurd (let z : false ≡ true = h in cc)
none_told model.was_reset h = absurd (let z : false ≡ true = h in cc)
none_told model.forgot h = absurd (let z : false ≡ true = h in cc)
none_told (model.refused r) h = refl

by_told : (s : State) (e : model.Event) (y : Entry) (r : model.Reply) (b : Bool) → is_refused r ≡ b → entry_of e ≡ Some y → (step s e).reply ≡ r → told_by r ≡ told_entry y (if b then result.Stopped 0 ending.Refused else result.Whole)
by_told s e y r true by is reply = none_told r by
by_told s e y r false by is reply = sym (ap told_by reply) ∙ told_event s e y is (ap is_refused reply ∙ by)

-- and what is counted of it
pub event_told : (room : Option ℕ) (k after : Kept) (e : model.Event) (y : Entry) (r : model.Reply) (x : EntryResult) → HasRoomFor 1 room → entry_of e ≡ Some y → done_within room k e ≡ record { kept = after; reply = r } → x ≡ result_by r → told_by r ≡ told_entry y x
event_told room k after e y r x has is does so =
    let d : done k e ≡ record { kept = after; reply = r } = sym (with_room room k e has) ∙ does in
    subst (λ q. told_by r ≡ told_entry y q) (sym so) (by_told k.state e y r (is_refused r) refl is (ap (λ (z : Done). z.reply) d))

-- a run that the account's rules have not
pub run_without : (s : State) (n : ℕ) → has_runs s.rules ≡ false → IsEntryDone s (runs n) (result.Stopped 0 ending.Refused) s
run_without s n h = (refl, (run_is_refused s n h, (none_of s (runs n)).1))

-- steps of a run that are all done, and that go on where others ended
pub runs_lead : (s mid after : Kept) (n m : ℕ) → Leads s.state n mid.state → RunsOn mid m after → Leads s.state (n + m) after.state
runs_lead s mid after n m begun on =
    let sum : m ≡ m + 0 = omega arith in
    steps_on n m s.state mid.state after.state begun (runs_first m 0 m mid after sum (all_done mid after m on))

-- how a piece of a run ended that was cut short is how the run ended
pub end_of_all : (all begun piece n : ℕ) (o : FirstStep) (after : Kept) → begun + piece ≤ all → n < piece → IsEnd piece n o after → IsEnd all (begun + n) o after
end_of_all all begun piece n first_step.Done after within less end = let whole : n ≡ piece = end in absurd (omega (arith, less, whole))
end_of_all all begun piece n first_step.Quiet after within less end = (omega (arith, within, less), end.1)
end_of_all all begun piece n (first_step.Refused r) after within less end = (omega (arith, within, less), end.1)
end_of_all all begun piece n first_step.Memory after within less end = let few : begun + n < all = omega (arith, within, less) in few

-- what becomes of a run of which `n` steps are done
pub run_done : (s after : Kept) (all n : ℕ) (last : FirstStep) (x : EntryResult) → has_runs s.state.rules ≡ true → n ≤ all → Leads s.state n after.state → IsEnd all n last after → x ≡ result_of_run n last → IsEntryDone s.state (runs all) x after.state
run_done s after all n last x has few those end is = subst (λ q. IsEntryDone s.state (runs all) q after.state) (sym is) (by_last last end)
  where
    not_whole : n < all → is_refused (first_step after.state).reply ≡ true → IsEntryDone s.state (runs all) (result.Stopped n ending.Refused) after.state
    not_whole less stuck = (those, (ap (λ (t : Transition). is_refused t.reply) (run_does s.state all has) ∙ run_refused all n s.state after.state less those stuck, few))

    by_last : (o : FirstStep) → IsEnd all n o after → IsEntryDone s.state (runs all) (result_of_run n o) after.state
    by_last first_step.Done e =
        let whole : entry_step s.state (runs all) ≡ record { state = after.state; reply = ran all } =
        run_does s.state all has ∙ subst (λ m. first_steps m s.state ≡ record { state = after.state; reply = ran m }) e those in
        (ap (λ (t : Transition). is_refused t.reply) whole, sym (ap (λ (t : Transition). t.state) whole))
    by_last first_step.Quiet e = not_whole e.0 (quiet_refused after.state e.1)
    by_last (first_step.Refused r) e = not_whole e.0 (step_refused after (refusal_of r) e.1)
    by_last first_step.Memory e = (those, few)

-- and what is counted of it
pub run_told : (s after : Kept) (all n : ℕ) (last : FirstStep) (x : EntryResult) → IsEnd all n last after → x ≡ result_of_run n last → told_steps n ≡ told_entry (runs all) x
run_told s after all n last x end is = subst (λ q. told_steps n ≡ told_entry (runs all) q) (sym is) (by_last last end)
  where
    some : told_steps n ≡ told_of [] n
    some = told_is n (0 + n) n (0 + n) (omega arith) (omega arith)

    by_last : (o : FirstStep) → IsEnd all n o after → told_steps n ≡ told_entry (runs all) (result_of_run n o)
    by_last first_step.Done e = let same : n ≡ all = e in told_is n (all + 0 + 0) n (all + 0 + 0) (omega (arith, same)) (omega (arith, same))
    by_last first_step.Quiet e = some
    by_last (first_step.Refused r) e = some
    by_last first_step.Memory e = some

-- the room that is left after a piece is enough for the rest
pub room_less : (all begun n : ℕ) (room left : Option ℕ) → left ≡ less room n → HasRoomFor (all - begun) room → HasRoomFor (all - (begun + n)) left
room_less all begun n None left is has = subst (HasRoomFor (all - (begun + n))) (sym is) tt
room_less all begun n (Some k) left is has = subst (HasRoomFor (all - (begun + n))) (sym is) (let enough : all - begun ≤ k = has in omega (arith, enough))

-- there is room for a part of what there is room for
pub room_enough : (all n : ℕ) (room : Option ℕ) → n ≤ all → HasRoomFor all room → HasRoomFor n room
room_enough all n None few has = tt
room_enough all n (Some k) few has = let enough : all ≤ k = has in let some : n ≤ k = omega (arith, few, enough) in some
