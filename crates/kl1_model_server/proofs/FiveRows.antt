-- Rows of the fifth rules, computed from the definitions.
use Rattle.std.specs.Prelude.{◌≡◌, refl, codes, List, [], ◌∷◌, ◌++◌, Option, Some, None, pos, ℕ, replicate, true, false, map, option_map, length}
use Rattle.std.specs.Fmt.{digits}
use Rattle.kl1_model.specs.declared.rules.Rules.{Rules}
use Rattle.kl1_model.specs.declared.rules.Rules.TheVariants.{Three, Four, Five}
use Rattle.kl1_model.specs.Term.{Term, variable, integer, atom, structure, none, more}
use Rattle.kl1_model.specs.Meaning.{pair}
use Rattle.kl1_model.specs.Unify.{mgu_within}
use Rattle.kl1_model.specs.Tree.{path_within}
use Rattle.kl1_model.specs.Token.{tokens_within}
use Rattle.kl1_model.specs.reader.Reader.{expression_at, parted_by, grouped_by}
use Rattle.kl1_model.specs.State.{State, fresh}
use Rattle.kl1_model.specs.Event.{Reply, answer, refused, syntax, are_too_many}
use Rattle.kl1_model_server.specs.Journal.{Journal, Kept, Done, entry_step, answers, forgets, steps, runs, new_journal, fresh_kept, stepped, replay}
use Rattle.kl1_model_server.specs.JournalText.{entry_in, heading_in, journal_lines}
use Rattle.kl1_model_server.specs.Command.{parse, act, reply_lines}
use Rattle.kl1_model_server.specs.Script.{done_by}

-- an account with its journal after lines of commands
abbrev after : Kept → List (List ℕ) → Kept
after k [] = k
after k (l ∷ ls) = after (done_by k (parse k.state.rules l)).kept ls

-- the lines of the reply to a command
abbrev told : Kept → List ℕ → List (List ℕ)
told k l = reply_lines (done_by k (parse k.state.rules l)).reply

-- an account whose goal has asked the console for a term
abbrev asking : Rules → Kept
asking rules = after (fresh_kept rules (codes "alice")) (codes "start 9 0 9 console:read(X)" ∷ codes "run 9" ∷ [])

-- the last variable, those that count, and the entries
abbrev counts : Kept → List ℕ
counts k = k.state.last_variable ∷ k.state.variables ∷ k.state.entries ∷ []

-- what was answered, as lines of the journal
abbrev noted_lines : Kept → List (List ℕ)
noted_lines k = journal_lines k.journal

-- an exception is reported with its goal
asked_row : told (asking Five) (codes "reports 1 1") ≡ codes "+ 2" ∷ codes "started" ∷ codes "exception(failure,console:read(_1),_5)" ∷ []
unfolding digits tokens_within expression_at parted_by grouped_by mgu_within path_within
asked_row = refl

-- a variable that is told is that of the account
told_is_bound_row : told (after (asking Five) (codes "answer 1 2 _1 = some(7)" ∷ codes "run 9" ∷ [])) (codes "value 1") ≡ codes "+ console:read(some(7))" ∷ []
unfolding digits tokens_within expression_at parted_by grouped_by mgu_within path_within
told_is_bound_row = refl

-- and counts nothing; the answer is an entry
told_counts_nothing_row : counts (after (asking Five) (codes "answer 1 2 _1 = some(7)" ∷ [])) ≡ 6 ∷ 3 ∷ 3 ∷ []
unfolding digits tokens_within expression_at parted_by grouped_by mgu_within path_within
told_counts_nothing_row = refl

-- one that the account hasn't made yet is new, as each that is written otherwise: in order of first occurrence
others_are_new_row : told (after (asking Five) (codes "answer 1 2 _1 = f(_99,X,_99)" ∷ codes "run 9" ∷ [])) (codes "value 1") ≡ codes "+ console:read(f(_7,_8,_7))" ∷ []
unfolding digits tokens_within expression_at parted_by grouped_by mgu_within path_within
others_are_new_row = refl

-- new ones alone count
others_count_row : counts (after (asking Five) (codes "answer 1 2 _1 = f(_99,X,_99)" ∷ [])) ≡ 8 ∷ 5 ∷ 3 ∷ []
unfolding digits tokens_within expression_at parted_by grouped_by mgu_within path_within
others_count_row = refl

-- one that the account has made, and that doesn't stand in the goal, is refused
gone_is_refused_row : told (asking Five) (codes "answer 1 2 _1 = f(_2)") ≡ codes "- 13 answer" ∷ []
unfolding digits tokens_within expression_at parted_by grouped_by mgu_within path_within
gone_is_refused_row = refl

-- so is what the substitute waits for, so that no term holds itself
awaited_is_refused_row : told (asking Five) (codes "answer 1 2 _1 = f(_5)") ≡ codes "- 13 answer" ∷ []
unfolding digits tokens_within expression_at parted_by grouped_by mgu_within path_within
awaited_is_refused_row = refl

-- and the last that the account has made
last_is_refused_row : told (asking Five) (codes "answer 1 2 _1 = f(_6)") ≡ codes "- 13 answer" ∷ []
unfolding digits tokens_within expression_at parted_by grouped_by mgu_within path_within
last_is_refused_row = refl

-- the one after it is new
next_is_new_row : told (after (asking Five) (codes "answer 1 2 _1 = f(_7)" ∷ codes "run 9" ∷ [])) (codes "value 1") ≡ codes "+ console:read(f(_7))" ∷ []
unfolding digits tokens_within expression_at parted_by grouped_by mgu_within path_within
next_is_new_row = refl

-- such a refusal leaves the account as it was
refused_changes_nothing_row : counts (after (asking Five) (codes "answer 1 2 _1 = f(_2)" ∷ [])) ≡ 6 ∷ 3 ∷ 2 ∷ []
unfolding digits tokens_within expression_at parted_by grouped_by mgu_within path_within
refused_changes_nothing_row = refl

-- one with a leading zero is new
leading_zero_is_new_row : told (after (asking Five) (codes "answer 1 2 _01 = 3" ∷ codes "run 9" ∷ [])) (codes "value 1") ≡ codes "+ console:read(_1)" ∷ []
unfolding digits tokens_within expression_at parted_by grouped_by mgu_within path_within
leading_zero_is_new_row = refl

-- the journal has what was told, and numbers from 2 ^ 62 on for the others
line_of_an_answer_row : noted_lines (after (asking Five) (codes "answer 1 2 X = f(_1,Y,_)" ∷ [])) ≡ codes "journal 5 0 0" ∷ codes "start 9 0 9 console:read(_1)" ∷ codes "run 1" ∷ codes "answer 1 2 '='(_4611686018427387904,f(_1,_4611686018427387905,_4611686018427387906))" ∷ []
unfolding digits tokens_within expression_at parted_by grouped_by mgu_within path_within
line_of_an_answer_row = refl

-- and its line is read as that entry
line_reads_back_row : entry_in Five (codes "answer 1 2 '='(_4611686018427387904,f(_1))") ≡ Some (answers 1 2 (pair (codes "=") (variable 4611686018427387904) (structure (codes "f") (more (variable 1) none))))
unfolding digits tokens_within expression_at parted_by grouped_by mgu_within path_within
line_reads_back_row = refl

-- other numbers for them are a fault
line_in_another_order_row : entry_in Five (codes "answer 1 2 '='(_4611686018427387905,1)") ≡ None
unfolding digits tokens_within expression_at parted_by grouped_by mgu_within path_within
line_in_another_order_row = refl

-- by the fourth rules all are new, and the line is what it was
fourth_as_before_row : noted_lines (after (asking Four) (codes "answer 1 2 _1 = f(_2,X)" ∷ [])) ≡ codes "journal 4 0 0" ∷ codes "start 9 0 9 console:read(_1)" ∷ codes "run 1" ∷ codes "answer 1 2 '='(_1,f(_2,_3))" ∷ []
unfolding digits tokens_within expression_at parted_by grouped_by mgu_within path_within
fourth_as_before_row = refl

-- which is read by their rules alone
fourth_line_row : entry_in Four (codes "answer 1 2 '='(_1,f(_2,_3))") ≡ Some (answers 1 2 (pair (codes "=") (variable 1) (structure (codes "f") (more (variable 2) (more (variable 3) none)))))
unfolding digits tokens_within expression_at parted_by grouped_by mgu_within path_within
fourth_line_row = refl

-- a line that tells variables is a fault by them
fourth_told_line_row : entry_in Four (codes "answer 1 2 '='(_4611686018427387904,f(_1))") ≡ None
unfolding digits tokens_within expression_at parted_by grouped_by mgu_within path_within
fourth_told_line_row = refl

-- new variables count
fourth_counts_all_row : counts (after (asking Four) (codes "answer 1 2 _1 = f(_2,X)" ∷ [])) ≡ 9 ∷ 6 ∷ 3 ∷ []
unfolding digits tokens_within expression_at parted_by grouped_by mgu_within path_within
fourth_counts_all_row = refl

-- an entry that tells variables is refused by the fourth rules, as its line was a fault before
fourth_refuses_told_row : (entry_step (asking Four).state (answers 1 2 (pair (codes "=") (variable 5) (integer (pos 1))))).reply ≡ refused syntax
unfolding digits tokens_within expression_at parted_by grouped_by mgu_within path_within
fourth_refuses_told_row = refl

-- the replay of the journal is the account
replayed_row : counts (record { state = replay (codes "alice") (after (asking Five) (codes "answer 1 2 _1 = f(X)" ∷ codes "run 9" ∷ codes "forget 1 2" ∷ [])).journal; journal = new_journal Five [] 0 }) ≡ 8 ∷ 4 ∷ 5 ∷ []
unfolding digits tokens_within expression_at parted_by grouped_by mgu_within path_within
replayed_row = refl

-- a report by which a substitute waits isn't let go
forget_waits_row : told (asking Five) (codes "forget 1 2") ≡ codes "- 13 answer" ∷ []
unfolding digits tokens_within expression_at parted_by grouped_by mgu_within path_within
forget_waits_row = refl

-- nor is one that isn't there
forget_none_row : told (asking Five) (codes "forget 1 3") ≡ codes "- 13 answer" ∷ []
unfolding digits tokens_within expression_at parted_by grouped_by mgu_within path_within
forget_none_row = refl

-- the one before it is
forget_first_row : told (asking Five) (codes "forget 1 1") ≡ codes "+ forgotten" ∷ []
unfolding digits tokens_within expression_at parted_by grouped_by mgu_within path_within
forget_first_row = refl

-- once
forget_twice_row : told (after (asking Five) (codes "forget 1 1" ∷ [])) (codes "forget 1 1") ≡ codes "- 13 answer" ∷ []
unfolding digits tokens_within expression_at parted_by grouped_by mgu_within path_within
forget_twice_row = refl

-- reports count on
reports_count_on_row : told (after (asking Five) (codes "forget 1 1" ∷ [])) (codes "reports 1 2") ≡ codes "+ 1" ∷ codes "exception(failure,console:read(_1),_5)" ∷ []
unfolding digits tokens_within expression_at parted_by grouped_by mgu_within path_within
reports_count_on_row = refl

-- those that were let go are refused
reports_gone_row : told (after (asking Five) (codes "forget 1 1" ∷ [])) (codes "reports 1 1") ≡ codes "- 13 answer" ∷ []
unfolding digits tokens_within expression_at parted_by grouped_by mgu_within path_within
reports_gone_row = refl

-- answers count on
answers_count_on_row : told (after (asking Five) (codes "forget 1 1" ∷ [])) (codes "answer 1 2 true") ≡ codes "+ sent" ∷ []
unfolding digits tokens_within expression_at parted_by grouped_by mgu_within path_within
answers_count_on_row = refl

-- an answered exception can go
answered_can_go_row : told (after (asking Five) (codes "answer 1 2 true" ∷ codes "run 1" ∷ [])) (codes "forget 1 2") ≡ codes "+ forgotten" ∷ []
unfolding digits tokens_within expression_at parted_by grouped_by mgu_within path_within
answered_can_go_row = refl

-- a shoen that lives isn't let go
living_stays_row : told (asking Five) (codes "forget 1 0") ≡ codes "- 13 answer" ∷ []
unfolding digits tokens_within expression_at parted_by grouped_by mgu_within path_within
living_stays_row = refl

-- one that has ended is, with an exception that nobody answered
ended_goes_row : told (after (asking Five) (codes "abort 1" ∷ codes "run 9" ∷ [])) (codes "forget 1 0") ≡ codes "+ forgotten" ∷ []
unfolding digits tokens_within expression_at parted_by grouped_by mgu_within path_within
ended_goes_row = refl

-- then there is none
gone_is_none_row : map (told (after (asking Five) (codes "abort 1" ∷ codes "run 9" ∷ codes "forget 1 0" ∷ []))) (codes "value 1" ∷ codes "status 1" ∷ codes "reports 1 1" ∷ codes "stop 1" ∷ codes "answer 1 2 true" ∷ codes "forget 1 0" ∷ []) ≡ replicate 6 (codes "- 4 noshoen" ∷ [])
unfolding digits tokens_within expression_at parted_by grouped_by mgu_within path_within
gone_is_none_row = refl

-- and its number isn't given again
number_is_not_given_again_row : told (after (asking Five) (codes "abort 1" ∷ codes "run 9" ∷ codes "forget 1 0" ∷ [])) (codes "start 9 0 9 true") ≡ codes "+ shoen 2" ∷ []
unfolding digits tokens_within expression_at parted_by grouped_by mgu_within path_within
number_is_not_given_again_row = refl

-- a letting go is an entry
line_of_forget_row : noted_lines (after (asking Five) (codes "abort 1" ∷ codes "run 9" ∷ codes "forget 1 0" ∷ [])) ≡ codes "journal 5 0 0" ∷ codes "start 9 0 9 console:read(_1)" ∷ codes "run 1" ∷ codes "abort 1" ∷ codes "run 1" ∷ codes "forget 1 0" ∷ []
unfolding digits tokens_within expression_at parted_by grouped_by mgu_within path_within
line_of_forget_row = refl

-- whose line is read
forget_reads_back_row : entry_in Five (codes "forget 1 0") ≡ Some (forgets 1 0)
unfolding digits tokens_within expression_at parted_by grouped_by mgu_within path_within
forget_reads_back_row = refl

-- by the fourth rules it is a fault
fourth_forget_line_row : entry_in Four (codes "forget 1 0") ≡ None
unfolding digits tokens_within expression_at parted_by grouped_by mgu_within path_within
fourth_forget_line_row = refl

-- and such a command is none
fourth_knows_no_forget_row : told (asking Four) (codes "forget 1 1") ≡ codes "- 1 syntax" ∷ []
unfolding digits tokens_within expression_at parted_by grouped_by mgu_within path_within
fourth_knows_no_forget_row = refl

-- the fifth rules have room for 4,096 names, those before for 1,024
more_names_row : map (λ rules. told (record { state = record (fresh rules (codes "alice")) { names = replicate 1024 (codes "n") }; journal = new_journal rules [] 0 }) (codes "start 9 0 9 X = y")) (Four ∷ Five ∷ []) ≡ (codes "- 7 names" ∷ []) ∷ (codes "+ shoen 1" ∷ []) ∷ []
unfolding digits tokens_within expression_at parted_by grouped_by mgu_within path_within
more_names_row = refl

-- and their journals tell more
headings_row : map (λ line. option_map (λ h. h.names) (heading_in line)) (codes "journal 5 0 4096" ∷ codes "journal 5 0 4097" ∷ codes "journal 4 0 1025" ∷ codes "journal 6 0 0" ∷ []) ≡ Some 4096 ∷ None ∷ None ∷ None ∷ []
unfolding digits tokens_within expression_at parted_by grouped_by mgu_within path_within
headings_row = refl

-- a shoen that ends keeps no control stream but that of the console
ended_controls_row : map (λ rules. map (λ h. h.control) (after (fresh_kept rules (codes "alice")) (codes "start 9 0 9 shoen:execute(true,0,1,1,C,R)" ∷ codes "run 9" ∷ [])).state.shoens) (Four ∷ Five ∷ []) ≡ (variable 3 ∷ variable 1 ∷ []) ∷ (variable 3 ∷ atom (codes "[]") ∷ []) ∷ []
unfolding digits tokens_within expression_at parted_by grouped_by mgu_within path_within
ended_controls_row = refl

-- a run whose entry is in no journal goes on as a new entry
run_after_an_image_row : (stepped (new_journal Five [] 0) 2 1 7).entries ≡ runs 1 ∷ []
unfolding digits tokens_within expression_at parted_by grouped_by mgu_within path_within
run_after_an_image_row = refl

-- and one that stands last is one longer
run_goes_on_row : (stepped (record (new_journal Five [] 0) { entries = steps 1 1 ∷ runs 6 ∷ [] }) 2 1 7).entries ≡ steps 1 1 ∷ runs 7 ∷ []
unfolding digits tokens_within expression_at parted_by grouped_by mgu_within path_within
run_goes_on_row = refl
