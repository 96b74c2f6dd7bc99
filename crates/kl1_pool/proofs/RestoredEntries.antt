-- Entries that are done one after another, and what is counted of them.
use Rattle.std.proofs.Common.{◌≡◌, ℕ, ◌+◌, not, Bool, true, false, List, [], ◌∷◌, ◌++◌, take, drop, length, length-append, refl, sym, ap, ◌∙◌, subst, arith}
use Rattle.std.proofs.lemmas.Bool.{and_parts, and_from}
use Rattle.std.proofs.lemmas.List.{append_assoc, map-append, length-map, take-map}
use Rattle.kl1_model.specs.State.{State}
use Rattle.kl1_model.specs.Event.{ran, is_refused}
use Rattle.kl1_model_server.specs.Journal.{Entry, loads, starts, sends, steps, answers, forgets, runs, entry_step, first_steps}
use Rattle.kl1_model_server.specs.laws.ReplayLaws.{are_accepted}
use Rattle.kl1_command.specs.Told.{Told}
use Rattle.kl1_pool.specs.Counted.{events_in, reduces_in}
use Rattle.kl1_pool.specs.declared.restoring.RestoreEnd.{RestoreEnd}
use Rattle.kl1_pool.specs.declared.restoring.RestoreEnd.TheVariants as ending
use Rattle.kl1_pool.specs.declared.restoring.Restored.{Restored}
use Rattle.kl1_pool.specs.declared.restoring.EntryResult.{EntryResult}
use Rattle.kl1_pool.specs.declared.restoring.EntryResult.TheVariants as result
use Rattle.kl1_pool.specs.Restoring.{after_entries, entry_by, entries_by, told_of, told_sum, told_entry, IsEndAt, IsRestored}
use Rattle.kl1_pool.proofs.Tells.{events_more, reduces_more}

front_of : (xs ys : List Entry) → take (length xs) (xs ++ ys) ≡ xs
front_of [] ys = refl
front_of (x ∷ xs) ys = ap (λ (zs : List Entry). x ∷ zs) (front_of xs ys)

rest_of : (xs ys : List Entry) → drop (length xs) (xs ++ ys) ≡ ys
rest_of [] ys = refl
rest_of (x ∷ xs) ys = rest_of xs ys

accepted_more : (s : State) (xs : List Entry) (e : Entry) → are_accepted s xs ≡ true → is_refused (entry_step (after_entries s xs) e).reply ≡ false → are_accepted s (xs ++ e ∷ []) ≡ true
accepted_more s [] e all one = and_from (not (is_refused (entry_step s e).reply)) true (ap not one) refl
accepted_more s (x ∷ xs) e all one =
    let p = and_parts (not (is_refused (entry_step s x).reply)) (are_accepted (entry_step s x).state xs) all in
    and_from (not (is_refused (entry_step s x).reply)) (are_accepted (entry_step s x).state (xs ++ e ∷ [])) p.0 (accepted_more (entry_step s x).state xs e p.1 one)

after_more : (s : State) (xs : List Entry) (e : Entry) → after_entries s (xs ++ e ∷ []) ≡ (entry_step (after_entries s xs) e).state
after_more s [] e = refl
after_more s (x ∷ xs) e = after_more (entry_step s x).state xs e

-- the first `n` of these entries, all accepted, have led to this account
pub record AreDone (s : State) (es : List Entry) (n : ℕ) (now : State) : Type 0 where
  pub accepted : are_accepted s (take n es) ≡ true
  pub state : now ≡ after_entries s (take n es)

-- which entries are left after `n`
pub record AreLeft (es rest : List Entry) (n : ℕ) : Type 0 where
  pub split : es ≡ take n es ++ rest
  pub count : length (take n es) ≡ n

pub none_left : (es : List Entry) → AreLeft es es 0
none_left es = record { split = refl; count = refl }

pub none_done : (s : State) (es : List Entry) → AreDone s es 0 s
none_done s es = record { accepted = refl; state = refl }

next_taken : (es rest : List Entry) (e : Entry) (n : ℕ) → AreLeft es (e ∷ rest) n → take (n + 1) es ≡ take n es ++ e ∷ []
next_taken es rest e n left =
    let front = take n es in
    let sum : length (front ++ e ∷ []) ≡ n + 1 = length-append front (e ∷ []) ∙ ap (λ k. k + 1) left.count in
    let whole : es ≡ (front ++ e ∷ []) ++ rest = left.split ∙ sym (append_assoc front (e ∷ []) rest) in
    ap (λ k. take k es) (sym sum) ∙ ap (take (length (front ++ e ∷ []))) whole ∙ front_of (front ++ e ∷ []) rest

-- one entry more
pub left_more : (es rest : List Entry) (e : Entry) (n : ℕ) → AreLeft es (e ∷ rest) n → AreLeft es rest (n + 1)
left_more es rest e n left =
    let taken = next_taken es rest e n left in
    record {
      split = left.split ∙ sym (append_assoc (take n es) (e ∷ []) rest) ∙ ap (λ xs. xs ++ rest) (sym taken);
      count = ap length taken ∙ length-append (take n es) (e ∷ []) ∙ ap (λ k. k + 1) left.count;
    }

pub done_more : (s : State) (es rest : List Entry) (e : Entry) (n : ℕ) (now after : State) → AreLeft es (e ∷ rest) n → AreDone s es n now → is_refused (entry_step now e).reply ≡ false → after ≡ (entry_step now e).state → AreDone s es (n + 1) after
done_more s es rest e n now after left done accepted is =
    let taken = sym (next_taken es rest e n left) in
    record {
      accepted = ap (are_accepted s) (sym taken) ∙ accepted_more s (take n es) e done.accepted (ap (λ t. is_refused (entry_step t e).reply) (sym done.state) ∙ accepted);
      state = is ∙ ap (λ t. (entry_step t e).state) done.state ∙ sym (after_more s (take n es) e) ∙ ap (after_entries s) taken;
    }

-- no more are done
pub restored_at : (s : State) (es rest : List Entry) (r : Restored) (now after : State) → AreLeft es rest r.entries → AreDone s es r.entries now → first_steps r.steps now ≡ record { state = after; reply = ran r.steps } → IsEndAt r.end now rest r.steps → IsRestored s es r after
restored_at s es rest r now after left done led ended =
    let sum : length es ≡ r.entries + length rest = ap length left.split ∙ length-append (take r.entries es) rest ∙ ap (λ k. k + length rest) left.count in
    let rest_is : rest ≡ drop r.entries es = sym (rest_of (take r.entries es) rest) ∙ ap (drop (length (take r.entries es))) (sym left.split) ∙ ap (λ k. drop k es) left.count in
    record {
      few = omega (arith, sum);
      accepted = done.accepted;
      steps = subst (λ t. first_steps r.steps t ≡ record { state = after; reply = ran r.steps }) done.state led;
      ended = subst (λ t. IsEndAt r.end t (drop r.entries es) r.steps) done.state (subst (λ xs. IsEndAt r.end now xs r.steps) rest_is ended);
    }

-- why no more are done, with the entries after the next one
pub ends_before : (end : RestoreEnd) (s : State) (e : Entry) (rest : List Entry) (k : ℕ) → IsEndAt end s (e ∷ []) k → IsEndAt end s (e ∷ rest) k
ends_before ending.All s e rest k h = absurd (let z : e ∷ [] ≡ [] = h.0 in cc)
ends_before ending.Refused s e rest k h = h
ends_before ending.Memory s e rest k h = h
ends_before ending.Full s e rest k h = h

pub told_is : (a b c d : ℕ) → a ≡ b → c ≡ d → (let t : Told = record { events = a; steps = c; is_reset = false } in t) ≡ record { events = b; steps = d; is_reset = false }
told_is a b c d e f = ap (λ (n : ℕ). let t : Told = record { events = n; steps = c; is_reset = false } in t) e ∙ ap (λ (n : ℕ). let t : Told = record { events = b; steps = n; is_reset = false } in t) f

-- what is counted of one entry more
pub told_more : (es rest : List Entry) (e : Entry) (n : ℕ) → AreLeft es (e ∷ rest) n → told_sum (told_of (take n es) 0) (told_of (e ∷ []) 0) ≡ told_of (take (n + 1) es) 0
told_more es rest e n left =
    let taken = next_taken es rest e n left in
    let events = events_more (take n es) (e ∷ []) in
    let reduces = reduces_more (take n es) (e ∷ []) in
    told_is (events_in (take n es) + 0 + (events_in (e ∷ []) + 0)) (events_in (take n es ++ e ∷ []) + 0) (reduces_in (take n es) + 0 + (reduces_in (e ∷ []) + 0)) (reduces_in (take n es ++ e ∷ []) + 0) (omega (arith, events)) (omega (arith, reduces))
    ∙ ap (λ xs. told_of xs 0) (sym taken)

-- and of first steps after entries
pub told_steps_more : (xs : List Entry) (k : ℕ) → told_sum (told_of xs 0) (told_of [] k) ≡ told_of xs k
told_steps_more xs k = told_is (events_in xs + 0 + (0 + k)) (events_in xs + k) (reduces_in xs + 0 + (0 + k)) (reduces_in xs + k) (omega arith) (omega arith)

-- ---- entries as they are done, whose answers tell no variable or are as they are

-- those that are left of them are those that are left, as they are done
pub left_by : (b : Bool) (es rest : List Entry) (n : ℕ) → AreLeft es rest n → AreLeft (entries_by b es) (entries_by b rest) n
left_by b es rest n left =
    let taken = take-map (entry_by b) n es in
    record {
      split = ap (entries_by b) left.split ∙ map-append (entry_by b) (take n es) rest ∙ ap (λ xs. xs ++ entries_by b rest) (sym taken);
      count = ap length taken ∙ length-map (take n es) (entry_by b) ∙ left.count;
    }

-- as much is counted of an entry
events_by : (b : Bool) (e : Entry) → events_in (entry_by b e ∷ []) ≡ events_in (e ∷ [])
events_by b (loads text) = refl
events_by b (starts allowance low high t) = refl
events_by b (sends n m) = refl
events_by b (steps goal clause) = refl
events_by b (answers n report t) = refl
events_by b (forgets n count) = refl
events_by b (runs n) = refl

reduces_by : (b : Bool) (e : Entry) → reduces_in (entry_by b e ∷ []) ≡ reduces_in (e ∷ [])
reduces_by b (loads text) = refl
reduces_by b (starts allowance low high t) = refl
reduces_by b (sends n m) = refl
reduces_by b (steps goal clause) = refl
reduces_by b (answers n report t) = refl
reduces_by b (forgets n count) = refl
reduces_by b (runs n) = refl

pub told_by_entry : (b : Bool) (e : Entry) (r : EntryResult) → told_entry (entry_by b e) r ≡ told_entry e r
told_by_entry b e result.Whole =
    told_is (events_in (entry_by b e ∷ []) + 0) (events_in (e ∷ []) + 0) (reduces_in (entry_by b e ∷ []) + 0) (reduces_in (e ∷ []) + 0)
    (ap (λ n. n + 0) (events_by b e)) (ap (λ n. n + 0) (reduces_by b e))
told_by_entry b e (result.Stopped k end) = refl
