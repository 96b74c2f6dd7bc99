-- A journal only grows while no more events are counted before the last reset.
use Rattle.std.proofs.Common.{◌≡◌, ℕ, suc, ◌+◌, ◌≤◌, ◌⊎◌, inl, inr, Bool, true, false, List, [], ◌∷◌, refl, sym, ap, ◌∙◌, arith}
use Rattle.std.specs.Prelude.{fold}
use Rattle.std.specs.List.{AllByRecursion}
use Rattle.kl1_model.specs.declared.rules.Rules.{Rules}
use Rattle.kl1_model.specs.State.{State, fresh_with}
use Rattle.kl1_model.specs.Event.{Event, load, start, control, reduce, read, login, logout, reset, answer, forget}
use Rattle.kl1_model_server.specs.Journal.{Entry, loads, starts, sends, steps, answers, forgets, runs, entry_step, Journal, new_journal, Kept, done}
use Rattle.kl1_model_server.specs.laws.HistoryLaws.{IsReplay}
use Rattle.kl1_model_server.specs.laws.TextLaws.{HasLine, IsWritten}
use Rattle.kl1_model_server.proofs.Replays.{replays_stay}
use Rattle.kl1_model_server.proofs.WrittenStays.{written_stays}
use Rattle.kl1_command.specs.Told.{ends_journal}
use Rattle.kl1_pool.specs.declared.totals_before_reset.TotalsBeforeReset.{TotalsBeforeReset}
use Rattle.kl1_pool.specs.Counted.{events_in, past_after, past_by}
use Rattle.kl1_pool.specs.laws.EndedLaws.{kept_after, past_of, HaveNoReset, SameEndedGrows}

-- entries that have lines and are no events are none
no_entries : (rules : Rules) (es : List Entry) → AllByRecursion (HasLine rules) es → events_in es ≡ 0 → es ≡ []
no_entries rules [] lines none = refl
no_entries rules (loads text ∷ es) lines none = let z : suc (events_in es) ≡ 0 = none in absurd (omega (arith, z))
no_entries rules (starts allowance low high t ∷ es) lines none = let z : suc (events_in es) ≡ 0 = none in absurd (omega (arith, z))
no_entries rules (sends n m ∷ es) lines none = let z : suc (events_in es) ≡ 0 = none in absurd (omega (arith, z))
no_entries rules (steps goal clause ∷ es) lines none = let z : suc (events_in es) ≡ 0 = none in absurd (omega (arith, z))
no_entries rules (answers n report t ∷ es) lines none = let z : suc (events_in es) ≡ 0 = none in absurd (omega (arith, z))
no_entries rules (forgets n count ∷ es) lines none = let z : suc (events_in es) ≡ 0 = none in absurd (omega (arith, z))
no_entries rules (runs n ∷ es) lines none =
    let z : n + events_in es ≡ 0 = none in
    let some : 1 ≤ n = lines.0.0 in
    absurd (omega (arith, z, some))

-- a reset of an account whose journal has no entries changes nothing
reset_stays : (k : Kept) → IsReplay k → k.journal.image ≡ [] → k.journal.entries ≡ [] → (done k reset).kept ≡ k
reset_stays k replay image none =
    let s = k.state in
    let j = k.journal in
    let name = s.own_name in
    let fresh : fresh_with j.rules name j.names j.sessions ≡ s =
    sym (ap (λ (es : List Entry). fold (λ (t : State) (e : Entry). (entry_step t e).state) (fresh_with j.rules name j.names j.sessions) es) none) ∙ replay.is in
    let names : j.names ≡ s.names = ap (λ (t : State). t.names) fresh in
    let state : fresh_with s.rules name s.names s.sessions ≡ s =
    ap (λ (r : Rules). fresh_with r name s.names s.sessions) (sym replay.rules) ∙ ap (λ (ns : List (List ℕ)). fresh_with j.rules name ns s.sessions) (sym names) ∙ ap (λ (n : ℕ). fresh_with j.rules name j.names n) (sym replay.sessions) ∙ fresh in
    let journal : new_journal s.rules s.names s.sessions ≡ j =
    ap (λ (r : Rules). new_journal r s.names s.sessions) (sym replay.rules) ∙ ap (λ (ns : List (List ℕ)). new_journal j.rules ns s.sessions) (sym names) ∙ ap (λ (n : ℕ). new_journal j.rules j.names n) (sym replay.sessions)
    ∙ ap (λ (bs : List ℕ). let i : Journal = record { rules = j.rules; sessions = j.sessions; names = j.names; image = bs; entries = [] } in i) (sym image)
    ∙ ap (λ (es : List Entry). let i : Journal = record { rules = j.rules; sessions = j.sessions; names = j.names; image = j.image; entries = es } in i) (sym none) in
    ap (λ (t : State). let x : Kept = record { state = t; journal = new_journal s.rules s.names s.sessions } in x) state ∙ ap (λ (i : Journal). let x : Kept = record { state = s; journal = i } in x) journal

-- an event after which as many events are counted is no reset, or changes nothing
pub unless_ended : (p : TotalsBeforeReset) (k : Kept) (e : Event) → IsReplay k → IsWritten k.journal → (past_by p k.journal (done k e).reply).events ≡ p.events → ((done k e).kept ≡ k) ⊎ (e ≡ reset → ⊥)
unless_ended p k reset replay written same =
    let z : p.events + events_in k.journal.entries ≡ p.events = same in
    let none : events_in k.journal.entries ≡ 0 = omega (arith, z) in
    inl (reset_stays k replay written.image (no_entries k.journal.rules k.journal.entries written.entries none))
unless_ended p k (load text) replay written same = inr (λ z. cc)
unless_ended p k (start allowance low high t) replay written same = inr (λ z. cc)
unless_ended p k (control n m) replay written same = inr (λ z. cc)
unless_ended p k (reduce goal clause) replay written same = inr (λ z. cc)
unless_ended p k (read q) replay written same = inr (λ z. cc)
unless_ended p k login replay written same = inr (λ z. cc)
unless_ended p k logout replay written same = inr (λ z. cc)
unless_ended p k (answer n report t) replay written same = inr (λ z. cc)
unless_ended p k (forget n count) replay written same = inr (λ z. cc)

pub more_by : (b : Bool) (p : TotalsBeforeReset) (j : Journal) → p.events ≤ (past_after b p j).events
more_by true p j = let z : p.events ≤ p.events + events_in j.entries = omega arith in z
more_by false p j = let z : p.events ≤ p.events = omega arith in z

-- never fewer are counted
more_of : (p : TotalsBeforeReset) (k : Kept) (es : List Event) → p.events ≤ (past_of p k es).events
more_of p k [] = let z : p.events ≤ p.events = omega arith in z
more_of p k (e ∷ es) =
    let q = past_by p k.journal (done k e).reply in
    let one : p.events ≤ q.events = more_by (ends_journal (done k e).reply) p k.journal in
    let all : q.events ≤ (past_of q (done k e).kept es).events = more_of q (done k e).kept es in
    let z : p.events ≤ (past_of q (done k e).kept es).events = omega (arith, one, all) in
    z

with_one : (k : Kept) (e : Event) (es : List Event) → ((done k e).kept ≡ k) ⊎ (e ≡ reset → ⊥) → (fs : List Event) × HaveNoReset fs × (kept_after (done k e).kept fs ≡ kept_after (done k e).kept es) → (fs : List Event) × HaveNoReset fs × (kept_after k fs ≡ kept_after (done k e).kept es)
with_one k e es (inl stays) rest = (rest.0, rest.1, sym (ap (λ (x : Kept). kept_after x rest.0) stays) ∙ rest.2)
with_one k e es (inr other) rest = (e ∷ rest.0, (other, rest.1), rest.2)

pub same_ended_grows : SameEndedGrows
same_ended_grows p k [] replay written bytes same = ([], tt, refl)
same_ended_grows p k (e ∷ es) replay written bytes same =
    let next = (done k e).kept in
    let q = past_by p k.journal (done k e).reply in
    let one : p.events ≤ q.events = more_by (ends_journal (done k e).reply) p k.journal in
    let all : q.events ≤ (past_of q next es).events = more_of q next es in
    let whole : (past_of q next es).events ≡ p.events = same in
    let here : q.events ≡ p.events = omega (arith, one, all, whole) in
    let rest : (past_of q next es).events ≡ q.events = omega (arith, whole, here) in
    with_one k e es (unless_ended p k e replay written.journal here) (same_ended_grows q next es (replays_stay k e replay) (written_stays k e bytes.0 written) bytes.1 rest)
