-- The words that this crate's proofs use, and where they come from.
pub use Rattle.std.proofs.Common.{add-one, append-nil, append_assoc, max, zero-add, ℤ, ⊎_elim}
pub use Rattle.std.proofs.Math.Bool.{or-true}
pub use Rattle.std.proofs.lemmas.Bool.{and_left, and_right, cases_Bool, cases_eq, ltb-false, ltb-true, not-false, not-true, or_from, or_parts, or_right}
pub use Rattle.std.proofs.lemmas.List.{drop_all, drop_more, take_rest}
pub use Rattle.std.proofs.lemmas.List.Elements.{filter-append, recursion_from_All}
pub use Rattle.std.proofs.lemmas.Result.{on_ok_weaker}
pub use Rattle.std.proofs.lemmas.Simd.{map-map}
pub use Rattle.std.specs.Global.{Vec}
pub use Rattle.std.specs.List.{filter}
pub use Rattle.std.specs.Prelude.{IsTrue, OnErr, bytes_eq, cond, is_some}
pub use Rattle.kl1_model.specs.Choice.{is_in_run}
pub use Rattle.kl1_model.specs.Control.{message_term}
pub use Rattle.kl1_model.specs.Ending.{ended_below, settle}
pub use Rattle.kl1_model.specs.Event.{is_full, needs_entry, reduce, reduced, step_refused, with_reduction}
pub use Rattle.kl1_model.specs.Goal.{is_goal}
pub use Rattle.kl1_model.specs.Instance.{body_variable}
pub use Rattle.kl1_model.specs.Look.{number_of_term}
pub use Rattle.kl1_model.specs.Meaning.{highest, is_numbered, numbered_after, variables_in, variables_of}
pub use Rattle.kl1_model.specs.Nodes.{goal_nodes, structures_of}
pub use Rattle.kl1_model.specs.Opening.{clipped_to, open_child, open_shoen, start_goal, started_shoen, with_next_variables}
pub use Rattle.kl1_model.specs.Reduction.{Action, acted, commits, gives_way, goes, heard, moved, names, obeyed, opens, or_exhaustion, raises, reduce_goal, unifies}
pub use Rattle.kl1_model.specs.Report.{aborted_report, exhaustion, illegal_input, started_report}
pub use Rattle.kl1_model.specs.Sending.{with_control_tail}
pub use Rattle.kl1_model.specs.State.{fresh, names_of, without_goal}
pub use Rattle.kl1_model.specs.Term.{each_substituted, occurs_in, sizes}
pub use Rattle.kl1_model.specs.Text.{is_text}
pub use Rattle.kl1_model.specs.Tree.{charge, is_enabled, is_enabled_in}
pub use Rattle.kl1_model.specs.Unify.{Equation, conflicts, eliminates, equations_size, highest_among, remains}
unfoldable pub use Rattle.kl1_model.specs.Unify.{mgu_within}
pub use Rattle.kl1_model.specs.code.Steps.{allowed_more, named_by, reduced_by}
pub use Rattle.kl1_model.specs.code.TermCode.{nodes_of}
pub use Rattle.kl1_model.specs.code.Unifying.{after}
pub use Rattle.kl1_model.specs.declared.built_in.BuiltIn.TheVariants.{Exhaustion, Failure, True}
pub use Rattle.kl1_model.specs.declared.message.Message.TheVariants.{Abort, Allow, Start, Stop}
pub use Rattle.kl1_model.specs.laws.TreeLaws.{ParentsAreLower}
pub use Rattle.kl1_atoms.specs.Knowing.{no_names, option_cases}
pub use Rattle.kl1_store.proofs.Constants.{Grown-binding, one_by}
pub use Rattle.kl1_store.proofs.Grows.{Grown-same}
pub use Rattle.kl1_store.proofs.Telling.{is_told}
pub use Rattle.kl1_store.proofs.Terms.{term_of-binding}
pub use Rattle.kl1_store.proofs.Unifying.{Grown-bound}
pub use Rattle.kl1_store.specs.Held.{with_binding}
pub use Rattle.kl1_store.specs.Hooks.{point_of, told_by}
pub use Rattle.kl1_store.specs.Unification.{IsSolved, SettlesTo}
pub use Rattle.kl1_store.specs.Unifies.{OnlyBound, equation_of}
pub use Rattle.kl1_store.specs.declared.point.Point.{Point}
pub use Rattle.kl1_store.specs.declared.unified.Unified.{Unified}
pub use Rattle.kl1_store_hooks.proofs.Hooked.{HasGrown-same, HasGrown-trans, grown_among}
pub use Rattle.kl1_shoen_paths.proofs.Paths.{parent_at, path_among, path_zero}
pub use Rattle.kl1_goals.proofs.Changing.{length_all}
pub use Rattle.kl1_goals.specs.declared.standing.Standing.{Standing}
pub use Rattle.kl1_goals.specs.declared.standing.Standing.TheVariants.{Waits}
pub use Rattle.kl1_goals.specs.Lists.{enabled_in, is_after, is_in, looked_at, number_of, stood_by}
pub use Rattle.kl1_goals.specs.Tables.{AreInOrder, AreSingle, Ascend, Tabled}
pub use Rattle.kl1_clause.specs.Instructions.{IsRowOf}
pub use Rattle.kl1_clause.specs.declared.instruction.Instruction.{Instruction}
pub use Rattle.kl1_stream.proofs.Changes.{no_end}
pub use Rattle.kl1_stream.proofs.Messages.{front_solves, one_equation, sides}
pub use Rattle.kl1_stream.specs.Messages.{HasPut, IsNoVariable, PutAs}
pub use Rattle.kl1_shoen.proofs.Counting.{count_none, count_some}
pub use Rattle.kl1_shoen.proofs.Meaning.{Has, any_same, enabled_is}
pub use Rattle.kl1_shoen.specs.Changes.{with_control}
pub use Rattle.kl1_shoen.specs.Shifts.{AreShifts, shoens_of}
pub use Rattle.kl1_shoen.specs.Shoens.{AreLower, is_blocking_at, is_blocking_in, is_exhausted_in}
pub use Rattle.kl1_shoen.specs.declared.shift.Shift.{Shift}
pub use Rattle.kl1_match.proofs.Cells.{at_structure}
pub use Rattle.kl1_match.proofs.GoalCells.{AreFromOne, goal_row_below, numbered_from_one, one_left, one_right}
pub use Rattle.kl1_match.proofs.Places.{beyond_unbound, kept_with}
pub use Rattle.kl1_match.proofs.TermPairs.{or_group}
pub use Rattle.kl1_match.specs.GoalCells.{AreGoalVariables, goal_variables}
pub use Rattle.kl1_match.specs.Variables.{with_variables}
pub use Rattle.kl1_goals_moves.specs.Moves.{IsCandidate}
pub use Rattle.kl1_goals_moves.specs.declared.moves.Move.TheVariants.{Names, Raises, Unifies}
pub use Rattle.kl1_user_events.specs.Views.{refusal_of}
pub use Rattle.kl1_user_events.specs.declared.refusal.Refusal.{Refusal}
pub use Rattle.kl1_user_events.specs.declared.refusal.Refusal.TheVariants.{Step}
pub use Rattle.kl1_user_effects.proofs.Apart.{settles_apart, terminates_apart}
pub use Rattle.kl1_user_effects.proofs.Commits.{clipped_low, commit_turns, room_read, with_body}
pub use Rattle.kl1_user_effects.proofs.Effects.{aborted_in, allowing, child_of, controlled, goes_on_already, halted, is_stopped_already, one_order}
pub use Rattle.kl1_user_effects.proofs.Exchanged.{exchanged_fits, settled_alike, spare_fits, spare_reads, spare_texts, with_spare}
pub use Rattle.kl1_user_effects.proofs.Frames.{calm_controlled, found_number, found_stays, keeps_changed, keeps_more, never_absent, on_ok_both, others_keep, outlines_controlled, outlines_leaving}
pub use Rattle.kl1_user_effects.proofs.Goals.{all_stay, below_read, below_tells, count_read, monitors_read, others_read}
pub use Rattle.kl1_user_effects.proofs.Leaving.{broken_as, control_read, left_as, left_means, leaving_in, leaving_read, torn_in, torn_read}
pub use Rattle.kl1_user_effects.proofs.LateFree.{closed_free, free_same, free_then, same_free, sent_free, still_within, tail_is, tail_other, tail_variable, free_by, unbound_by}
pub use Rattle.kl1_user_effects.proofs.LateName.{settles_late, settles_early}
pub use Rattle.kl1_user_effects.proofs.Lists.{all_append, all_filter, all_of, all_then, held_by, maps_as, maps_both}
pub use Rattle.kl1_user_effects.proofs.Messages.{origin_in}
pub use Rattle.kl1_user_effects.proofs.NameReadings.{IsAtomAt, as_modules, atom_at, both_read, fits_modules, modules_fit, otherwise, otherwise_fits, otherwise_other, same_text, second_read}
pub use Rattle.kl1_user_effects.proofs.Publishing.{adds_to, fits_less, keeps_same}
pub use Rattle.kl1_user_effects.proofs.Spares.{ReadsSpares, names_once, numbers_short, reads_spares}
pub use Rattle.kl1_user_effects.proofs.States.{changed_count, changed_in, goals_in_by, in_grown, replaced_state, same_state, shoen_in_by, shoens_changed, shoens_in_by}
pub use Rattle.kl1_user_effects.proofs.Streams.{clash_turns, closed_turns, grown_turns, raised_turns, solved_turns}
pub use Rattle.kl1_user_effects.proofs.Substituting.{IsAsked, asked, asked_agree, has_grown, new_in, new_means, new_stays, next_grown, next_still, next_there, plain_turns, replaced_turns, reported_here, whole_turns}
pub use Rattle.kl1_user_effects.proofs.Walking.{StillEnds, ending_read, ends_turn, first_end, last_end, next_end, parents_read, path_read, paths_all, reached_after, reached_read}
pub use Rattle.kl1_user_effects.proofs.Words.{EmptyList, nil, has_forgetting, left_at, left_by, leaving, torn, control_left, Aborted, Adds, AllByRecursion, AllowsMessage, AreBelow, AreGoalsIn, AreNeeds, AreNumbered, AreOwned, AreQualifiedIn, AreSettled, AreSmall, AreUpTo, Atom, AtomNo, Binding, Bound, Breaks, Broken, BuiltIn, Candidate, Clash, Dropped, EndsOne, Err, Fits, Grown-trans, Grown-variable, HasGrown, HasRoom, Integer, IsBody, IsCalm, IsException, IsMadeIn, HasLate, KeepsLate, IsOriginIn, IsOwned, IsShoenIn, IsWalked, IsWhole, Journal, KeepsBy, KeepsFree, KeepsOthers, KeepsOutlines, Kept, Known, Living, MONITOR_PRIORITY, Means, Message, Needs, Ok, OnOk, Origin, RefusesMessage, Result, Sent, State, StaysFree, Structure, Terms, Told, ToldAs, Transition, Tree, aborted_below_in, after_reduction, aim_with, ap₂, atom, body_priorities, broken_at, bytes_eq-Decides, cases_lt, cell, change_shoen, changed, charged_in, clipped, close, close_late, close_of, closed_at, codes, committed, control, count_by, ended_each, ended_in, ending_in, ending_of, ends_in, eqb-false, equation, exception, exception_with, exchanged, exhausted_report, failure, false≢true, find, finished_each_late, finished_late, goal_with, goals_for, goals_of, grown, has_made_last, has_number, has_reached_in, has_substitutes, held_exchanged, inl, inr, integer, is_bound, is_goal_of, is_living, is_living_child_of, is_monitor_of, is_number, is_of_any, is_on_path_in, is_other, is_reported, is_reported_at, is_reported_of, is_late_tail, is_variable, journal_full, keeps_names, le-leb, le-ltb, leb-false, leb-true, length-append, length-map, length_push, limits_of, list_any, list_any-append, lives_in, lt-leb, lt-ltb, map-append, message_nodes, mgu, more, nat_le, nat_lt, newly_exhausted, none, not, number_by, occurs, or_cases, origin_with, outline, parents_in, path, path_in, plain, priorities_by, raised, reached_in, read_exchanged, refuse, replace, replace_in_state, replaced, replaced_by, report, report_each, report_each_late, report_late, report_of, report_tail, reported_at, reported_on, resumed_of, resumed_report, sent, sent_on, settle_charged_late, shoen_at, spare, state_with, step, still_known, stopped_of, stopped_report, structure, substituted_by, sum_by-cons, syntax, take, take_all, take_more, term_of-Atom, term_of-Integer, term_of-unbound, term_of-variable, terminate_each, terminated, terminated_report, texts_of, told_in, unheard, unified, unwrap_or, variable, with_entry, with_name, with_names, with_variable, without_monitor, zero, ◌+◌, ◌-◌, ◌<◌, ◌^◌, ◌≤◌}
unfoldable pub use Rattle.kl1_user_effects.proofs.Words.{with_texts}
pub use Rattle.kl1_user_effects.proofs.Works.{after_report, base, changed_turns, changed_turns_by, changes, finds, grown_made, last_made, next_in, no_report_turns, read_as, report_turns, rereads, tailed, turns_as, turns_none, turns_then, unmade_turns}
pub use Rattle.kl1_user_effects.proofs.KnownTexts.{added_new, collected, known_named, named_turns, new_named}
pub use Rattle.kl1_user_effects.proofs.Swapping.{exchanged_variables, in_same, no_atom_means}
pub use Rattle.kl1_user_effects.specs.Calling.{IsNewName, name_of}
pub use Rattle.kl1_user_effects.specs.Drafts.{goal_at, names_with}
pub use Rattle.kl1_user_effects.specs.Frames.{SameFlags}
pub use Rattle.kl1_user_effects.specs.Moving.{name_for}
pub use Rattle.kl1_user_effects.specs.Naming.{NameShelf}
pub use Rattle.kl1_user_effects.specs.Settled.{AreEnabled, IsEnabled, control_at}
pub use Rattle.kl1_user_effects.specs.declared.spelled.Spelled.{Spelled}
pub use Rattle.kl1_ready.proofs.Plans.{plan_moves, plan_reads}
pub use Rattle.kl1_ready.proofs.Ready.{nobody_lets}
pub use Rattle.kl1_ready.proofs.SettledStays.{HangsOnNone, StaysAlone, settled_more, stays_settled}
pub use Rattle.kl1_ready.proofs.Words.{AreNames, AreShoensIn, Bool, CanDo, Cell, CellName, Contains, Control, DoesNothing, ExecuteArguments, Goal, Grown, Held, Hook, IsFormed, IsIn, IsMove, IsOrder, IsPlan, IsReadyAt, IsSettled, IsTaskIn, Judges, Knows, List, Made, MatchOption, Monitor, Move, MoveIn, MovesBy, None, Numbered, Option, Place, Predicate, Program, Qualified, Reading, Reads, ReadsBy, Reduces, Replacement, Shoen, Some, Substitutes, Task, Term, Variable, [], aim, among_contains, and_parts, ap, arith, breaks_off, built, contents, control_as, control_at, control_with, drop, eq-eqb, eqb-true, false, found_in, found_shoen_in, get_or, if◌then◌else◌, is_among, is_enabled_at, is_monitor, is_monitor_task, length, map, meaning, moves, ne_eqb, option_copied, option_map, order_at, reading_fits, reading_of, reads, refl, rules, shifted_by, shoen_with, subst, substituted, suc, sym, taken_places, task_action, task_clause, task_with, tells, tells_other, text_of, true, whole, with_last, worked, ℕ, ◌&&◌, ◌++◌, ◌==◌, ◌||◌, ◌∙◌, ◌∷◌, ◌≡◌}
unfoldable pub use Rattle.kl1_ready.proofs.Words.{path_within}
pub use Rattle.kl1_ready.specs.Ready.{ready_at}
pub use Rattle.kl1_machine.specs.Bringing.{AreOthers, Brings, BuildsAnswer, CanAnswer, CanStart, IsPublished, answered_by, change_of, given_by, goal_of}
pub use Rattle.kl1_machine.specs.Effects.{Becomes, Charges, Chosen, Commits, Puts, Tells, Turns, TurnsAs, any_reached, counting, having_goals, having_shoens, shifting_shoens, with_goal, with_goals, with_shoen}
pub use Rattle.kl1_machine.specs.Ending.{LifeEnds, LivesEnd}
pub use Rattle.kl1_machine.specs.Machines.{IsBack, IsBegun, IsMachine, Keeps, Trail, made, most_names, trail_of}
pub use Rattle.kl1_machine.specs.Moving.{IsMade, JoinsAs, Making, MovesAs, OpensAs, OpensChild, UnifiesAs}
pub use Rattle.kl1_machine.specs.Naming.{CanBecome, CanPublish, HasName, HoldsSpare, IsBoundLast, IsFree, IsNamed, IsNameless, LateAs, NamesIn, Patches, Publishes, ReadsAll, ReadsNew, ReadsText, SparesLast, Spells, StandsFor, UsesName, with_text}
pub use Rattle.kl1_machine.specs.Plain.{ArePlain, IsPlain, IsPlainShoen, bare}
pub use Rattle.kl1_machine.specs.Reducing.{IsSteppable, ReadsAlike, Refuses}
pub use Rattle.kl1_machine.specs.Rescheduling.{AllSettled, AreLet, AreSettledBut, IsLet, LetsStill, Looks, Reschedules, Schedules, Shifts, Wakes, WasLet, all_told, unlooked, unready}
pub use Rattle.kl1_machine.specs.Rested.{IsRested}
pub use Rattle.kl1_machine.specs.Sending.{usage_of}
pub use Rattle.kl1_machine.specs.Since.{AreElsewhere, HasCome, HasNoMonitor, IsOnlyMonitor, KeepsControl, Since, StillSince}
pub use Rattle.kl1_machine.specs.Starting.{BuildsGoal, OpensStreams, ReadsNames, naming}
pub use Rattle.kl1_machine.specs.Stepping.{StepsAs}
pub use Rattle.kl1_machine.specs.declared.counts.Counts.{Counts}
pub use Rattle.kl1_machine.specs.declared.machine.Machine.{Machine}
pub use Rattle.kl1_machine.specs.declared.machine.answering.Answer.{Answer}
pub use Rattle.kl1_machine.specs.declared.machine.naming.Named.{Named}
pub use Rattle.kl1_machine.specs.declared.machine.naming.Named.TheVariants.{Does}
pub use Rattle.kl1_ready.specs.declared.planning.Plan.{Plan}
pub use Rattle.kl1_ready.specs.declared.planning.PlannedMove.{PlannedMove}
