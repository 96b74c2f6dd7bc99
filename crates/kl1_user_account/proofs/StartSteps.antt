-- What refuses a goal of the console, and the step of a start that nothing refuses.
use Rattle.kl1_user_account.proofs.Words.{◌≡◌, ℕ, suc, ◌+◌, not, ◌&&◌, Bool, true, if◌then◌else◌, List, [], ◌∷◌, length, sym, ap, ap₂, ◌∙◌, nat_le, Option, Some, None, Limits, Term, highest, goal_nodes, State, names_of, with_names, Transition, start, opened, refuse, unless, are_too_many, is_full, syntax, too_many_names, limit_passed, journal_full, with_entry, may_start, has_room_to_start, start_goal, goals_alive, step, start_by, Known, with_texts, Refusal, texts_of, Counted, HasNames, has_room_beside, refusals_of, refused_or, IsFree, IsStartable, names_used}
use Rattle.std.specs.Prelude.{nat_lt}
use Rattle.std.proofs.Math.Bool.{not-not}
use Rattle.kl1_model.specs.State.{limits_of}
use Rattle.kl1_model.specs.Event.{Refusal as Reason}
use Rattle.kl1_user_account.proofs.Counting.{not_less}

-- ---- names, room and the journal

-- whether names are too many, by their number
pub many_is : (n most : ℕ) → not (nat_le n most) ≡ nat_lt most n
many_is n most = ap not (not_less n most) ∙ not-not (nat_lt most n)

-- what a state refuses a goal of the console for, if there is room for it or not
abbrev pub refusals_at : State → Term → Bool → List (Bool × Reason)
refusals_at s goal has_room = (are_too_many s.rules (with_names s.names (names_of goal)), too_many_names) ∷ (not has_room, limit_passed) ∷ (is_full s, journal_full) ∷ []

-- that is known by its names and counts
pub refusals_in : (s : State) (names : List Known) (c : Counted) (goal : Term) (texts : List (List ℕ)) (has_room : Bool) → HasNames s names c → texts ≡ with_names [] (names_of goal) → refusals_at s goal has_room ≡ refusals_of c names texts has_room
refusals_in s names c goal texts has_room at are =
    let R : Bool → Bool → List (Bool × Reason) = λ many full. (many, too_many_names) ∷ (not has_room, limit_passed) ∷ (full, journal_full) ∷ [] in
    let count : length (with_names s.names (names_of goal)) ≡ length (with_texts (texts_of names) texts) =
    ap length (sym (ap (λ (ns : List (List ℕ)). with_texts ns texts) (sym at.names_are) ∙ names_used s.names texts goal are)) in
    ap₂ R (ap₂ (λ (l : Limits) (n : ℕ). not (nat_le n l.names)) at.most_are count ∙ many_is (length (with_texts (texts_of names) texts)) c.most.names)
    (ap₂ (λ (n : ℕ) (m : Limits). not (nat_lt n m.entries)) at.entries_are at.most_are)

-- ---- a start

-- room by what is counted of a state
room_in : (s : State) (names : List Known) (c : Counted) (goal : Term) → HasNames s names c → has_room_to_start s goal ≡ has_room_beside c (highest goal) (goal_nodes goal)
room_in s names c goal at =
    let more = suc (suc (highest goal)) in
    ap (λ (m : Limits). nat_lt (goals_alive s) m.goals && nat_le (s.variables + more) m.variables && nat_le (s.nodes + goal_nodes goal) m.nodes && nat_lt s.last_shoen m.shoens) at.most_are
    ∙ rw (at.goals_are, at.variables_are, at.nodes_are, at.shoens_are)

-- a goal that may be started, with its names, the room that there is for it and what was found to refuse it, if anything does
pub record IsJudged (names : List Known) (c : Counted) (allowance low high : ℕ) (goal : Term) (texts : List (List ℕ)) (has_room : Bool) (o : Option Refusal) : Type 0 where
  pub may : may_start allowance low high goal ≡ true
  pub texts_are : texts ≡ with_names [] (names_of goal)
  pub has : has_room ≡ has_room_beside c (highest goal) (goal_nodes goal)
  pub refuses : (s : State) (after : Transition) → unless s (refusals_of c names texts has_room) after ≡ refused_or s after o

-- its step
pub start_steps : (names : List Known) (c : Counted) (allowance low high : ℕ) (goal : Term) (texts : List (List ℕ)) (has_room : Bool) (o : Option Refusal) → IsJudged names c allowance low high goal texts has_room o → (s : State) → HasNames s names c →
    step s (start allowance low high goal) ≡ refused_or s (record { state = with_entry (start_goal s allowance low high goal); reply = opened (suc s.last_shoen) }) o
start_steps names c allowance low high goal texts has_room o j s at =
    let done : Transition = record { state = with_entry (start_goal s allowance low high goal); reply = opened (suc s.last_shoen) } in
    ap (λ b. if b then start_by s allowance low high goal else refuse s syntax) j.may
    ∙ ap (λ b. unless s (refusals_at s goal b) done) (room_in s names c goal at ∙ sym j.has)
    ∙ ap (λ rs. unless s rs done) (refusals_in s names c goal texts has_room at j.texts_are)
    ∙ j.refuses s done

-- it may be started, if nothing refuses it
pub startable : (names : List Known) (c : Counted) (allowance low high : ℕ) (goal code : Term) (texts : List (List ℕ)) (has_room : Bool) → IsJudged names c allowance low high goal texts has_room None → IsFree c names texts has_room → code ≡ goal → IsStartable names c allowance low high goal code
startable names c allowance low high goal code texts has_room j free code_is = record {
  code_is = code_is;
  may = j.may;
  free = rw (j.texts_are, j.has) at free;
  steps = start_steps names c allowance low high goal texts has_room None j;
}
