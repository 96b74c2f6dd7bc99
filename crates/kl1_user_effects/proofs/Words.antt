-- The words that this crate's proofs use, and where they come from.
pub use Rattle.std.proofs.Common.{Bool, IsSome, List, [], add-one, ap, ap₂, arith, bytes_eq, cond, drop, false, get_or, if◌then◌else◌, inl, inr, is_some, le_trans, length, length-append, length-take, map, not, refl, rules, subst, suc, sym, take, true, vec_capacity, vec_len, zero, ℕ, ◌&&◌, ◌*◌, ◌++◌, ◌+◌, ◌-◌, ◌<◌, ◌==◌, ◌^◌, ◌||◌, ◌∙◌, ◌∷◌, ◌≡◌, ◌≤◌, ◌⊎◌}
pub use Rattle.std.proofs.Math.Bool.{and-false, or-true}
pub use Rattle.std.proofs.Math.Nat.{max-le, min-le_right}
pub use Rattle.std.proofs.lemmas.Bool.{cases_Bool, cases_lt, eq-eqb, eqb-false, eqb-true, false_from_ne_true, false≢true, le-leb, le-ltb, leb-false, leb-true, lt-leb, lt-ltb, ne_eqb, or_cases, or_from, or_parts}
pub use Rattle.std.proofs.lemmas.Bool.Decides.{same_from_decides}
pub use Rattle.std.proofs.lemmas.List.{append-nil, append_assoc, get_or-take, get_or_default, length-map, length_push, map-append, take-append-drop, take_all, take_more}
pub use Rattle.std.proofs.lemmas.List.Elements.{Contains-append_left, Contains-append_right}
pub use Rattle.std.proofs.lemmas.List.Folds.{list_any-append}
pub use Rattle.std.proofs.lemmas.List.Sorted.{Contains-permutation, IsNonDecreasingBy-from_sort, searched}
pub use Rattle.std.proofs.lemmas.List.Sums.{sum_by-cons}
pub use Rattle.std.proofs.lemmas.Map.Views.{Contains-from_any}
pub use Rattle.std.proofs.lemmas.Simd.{map-map}
pub use Rattle.std.proofs.lemmas.Slice.Eq.{bytes_eq-Decides}
pub use Rattle.std.specs.HashMap.{HashMap}
pub use Rattle.std.specs.List.{AllByRecursion, Contains, list_any}
pub use Rattle.std.specs.List.Sorted.{IsNonDecreasing, IsPermutation}
pub use Rattle.std.specs.Map.{lookup}
pub use Rattle.std.specs.Prelude.{MatchResult, None, OnOk, Option, Some, codes, count_by, filter, find, is_ok, nat_le, nat_lt, option_and_then, option_map, slice_get, unwrap_or}
pub use Rattle.std.specs.declared.result.Result.{Result}
pub use Rattle.std.specs.declared.result.Result.TheVariants.{Err, Ok}
pub use Rattle.indexmap.proofs.CallerLemmas.{insert_entry-new}
pub use Rattle.indexmap.specs.IndexMap.{insert_entry}
pub use Rattle.kl1_model.specs.Control.{Control, control_of, message_nodes}
pub use Rattle.kl1_model.specs.Ending.{after_reduction, ended_at, ending_of, ends_now, has_goal, has_living_child, has_reached, lives, newly_exhausted, terminate, terminate_each, without_monitor}
pub use Rattle.kl1_model.specs.Event.{Transition, control, is_number, journal_full, limit_passed, no_shoen, refuse, sent, shoen_ended, syntax, with_entry}
pub use Rattle.kl1_model.specs.Instance.{body_instance, body_priorities, fresh_variables}
pub use Rattle.kl1_model.specs.Match.{Candidate}
pub use Rattle.kl1_model.specs.Meaning.{cell, nil}
pub use Rattle.kl1_model.specs.Module.{Clause, Module, goals_of, is_among}
pub use Rattle.kl1_model.specs.Nodes.{goals_nodes}
pub use Rattle.kl1_model.specs.Reduction.{committed, equation, goals_from, grown, has_room_for, raised, replaced_by, substituted_by, unified}
pub use Rattle.kl1_model.specs.Report.{broken_at, close, closed_at, exception, exception_with, exhausted_report, failure, has_made_last, is_reported, report, report_each, report_tail, reported_at, reported_on, resumed_report, stopped_report, terminated_report}
pub use Rattle.kl1_model.specs.Sending.{is_message, send_living, send_to, sent_on}
pub use Rattle.kl1_model.specs.State.{State, change_shoen, has_forgetting, has_substitutes, is_living, limits_of, monitor, names_of_module, reduces, replace_all, replace_in_goal, replace_in_origin, replace_in_shoen, replace_in_state, replace_in_task, shoen_at, substitutes, with_name, with_names}
pub use Rattle.kl1_model.specs.Step.{step}
pub use Rattle.kl1_model.specs.Term.{Replacement, Term, Terms, atom, integer, more, none, occurs, replace, replace_each, structure, variable}
pub use Rattle.kl1_model.specs.Text.{is_built_in, text_of}
pub use Rattle.kl1_model.specs.Tree.{charged_of, is_living_child, parents_of, path}
unfoldable pub use Rattle.kl1_model.specs.Tree.{path_within}
pub use Rattle.kl1_model.specs.Unify.{mgu}
pub use Rattle.kl1_model.specs.code.Steps.{clipped, close_of, is_reported_at, is_reported_of, priority_of, report_of, resumed_of, stopped_of}
pub use Rattle.kl1_model.specs.code.Unifying.{replaced}
pub use Rattle.kl1_model.specs.declared.built_in.BuiltIn.{BuiltIn}
pub use Rattle.kl1_model.specs.declared.built_in.BuiltIn.TheVariants.{Colon, EmptyList}
pub use Rattle.kl1_model.specs.declared.life.Life.TheVariants.{Aborted, Living, Terminated}
pub use Rattle.kl1_model.specs.declared.limits.Limits.{Limits}
pub use Rattle.kl1_model.specs.declared.limits.TheConstants.{MONITOR_PRIORITY}
pub use Rattle.kl1_model.specs.declared.message.Message.{Message}
pub use Rattle.kl1_model.specs.declared.rules.Rules.{Rules}
pub use Rattle.kl1_text.proofs.BuiltInLaws.{of_text, place-below, place_found}
pub use Rattle.kl1_text.specs.BuiltIns.{built_in_at, built_in_of, place_of}
pub use Rattle.kl1_text.specs.Reading.{Reads}
pub use Rattle.kl1_text.specs.declared.atom_no.AtomNo.{AtomNo}
pub use Rattle.kl1_text.specs.declared.cell_name.CellName.{CellName}
pub use Rattle.kl1_atoms.specs.Knowing.{adds_one, option_cases, publishes_same, publishes_then, still_known}
pub use Rattle.kl1_atoms.specs.Names.{Adds, AreNames, HasRoom, added, number_by, number_in, text_by, text_in}
pub use Rattle.kl1_atoms.specs.declared.known.Known.{Known}
pub use Rattle.kl1_store.proofs.Grows.{Grown-trans, Grown-variable}
pub use Rattle.kl1_store.proofs.InModules.{qualified_later}
pub use Rattle.kl1_store.proofs.Meetings.{named}
pub use Rattle.kl1_store.proofs.Renamed.{renamed_everywhere, term_of-renamed}
pub use Rattle.kl1_store.proofs.Terms.{term_of-Atom, term_of-Integer, term_of-Structure, term_of-structure, term_of-unbound, term_of-variable}
pub use Rattle.kl1_store.proofs.Walking.{bound_at, found_itself}
pub use Rattle.kl1_store.specs.Held.{Held, IsIn, IsLower, IsWalked, Shape, arguments_of, found, is_bound, with_variable}
pub use Rattle.kl1_store.specs.Hooks.{HasGrown, Hook, Kept}
pub use Rattle.kl1_store.specs.InModules.{AreQualifiedIn, in_module, qualified_list, qualified_term}
pub use Rattle.kl1_store.specs.Later.{IsLater}
unfoldable pub use Rattle.kl1_store.specs.Meaning.{term_of}
pub use Rattle.kl1_store.specs.Renames.{binding_renamed, cell_renamed, held_renamed, shape_renamed}
pub use Rattle.kl1_store.specs.Sound.{Grown, IsBoundTo, IsFormed}
pub use Rattle.kl1_store.specs.Unification.{UnifiesAs}
pub use Rattle.kl1_store.specs.declared.binding.Binding.{Binding}
pub use Rattle.kl1_store.specs.declared.cell.Cell.{Cell}
pub use Rattle.kl1_store.specs.declared.cell.Cell.TheVariants.{Atom, Integer, Structure, Variable}
pub use Rattle.kl1_store.specs.declared.mark.Mark.{Mark}
pub use Rattle.kl1_store.specs.declared.qualified.Qualified.{Qualified}
pub use Rattle.kl1_store.specs.declared.unified.Unified.TheVariants.{Bound, Clash}
pub use Rattle.kl1_store_hooks.specs.Hanging.{HangsOnEach}
pub use Rattle.kl1_shoen_paths.proofs.Below.{among_contains, contains_among}
pub use Rattle.kl1_shoen_paths.specs.declared.shoen.Origin.{Origin}
pub use Rattle.kl1_shoen_paths.specs.declared.shoen.Shoen.{Shoen}
pub use Rattle.kl1_goals.specs.Lists.{is_goal_of, is_monitor, is_monitor_of, is_monitor_task, is_other}
pub use Rattle.kl1_goals.specs.declared.goal.Goal.{Goal}
pub use Rattle.kl1_goals.specs.declared.task.Task.{Task}
pub use Rattle.kl1_goals.specs.declared.task.Task.TheVariants.{Monitor, Reduces, Substitutes}
pub use Rattle.kl1_clause.proofs.Growth.{all_grow, with_both, with_more, with_none, with_one}
pub use Rattle.kl1_clause.proofs.Language.{bytes_eq_comm, found_in_language, missed_in_language}
pub use Rattle.kl1_clause.specs.NameList.{IsNameList}
unfoldable pub use Rattle.kl1_clause.specs.NameList.{is_of_language, with_text, with_texts}
pub use Rattle.kl1_codes.specs.Finding.{contents}
pub use Rattle.kl1_codes.specs.Numbered.{AreRead, IsRead, Numbered}
pub use Rattle.kl1_codes.specs.Shelves.{Program}
pub use Rattle.kl1_stream.proofs.Pairs.{pair_means, with_pair}
pub use Rattle.kl1_stream.proofs.Tails.{BreaksOff, off_is}
pub use Rattle.kl1_stream.specs.Exceptions.{IsException, IsExceptionWith}
pub use Rattle.kl1_stream.specs.Reports.{Breaks, ClosedAs, EndsAt, HasSent, ToldAs}
pub use Rattle.kl1_stream.specs.declared.told.Told.{Told}
pub use Rattle.kl1_stream.specs.declared.told.Told.TheVariants.{Broken, Dropped, Sent}
pub use Rattle.kl1_shoen.specs.Shoens.{AreBelow, AreNumbered, Tree, aborted_below_in, changed, charged_in, control_left, has_number, has_reached_in, is_living_child_of, is_on_path_in, lives_in, parents_in, path_in, shoen_in}
pub use Rattle.kl1_goals_moves.specs.Bodies.{AreNeeds, IsBody}
pub use Rattle.kl1_goals_moves.specs.Kinds.{IsKind}
pub use Rattle.kl1_goals_moves.specs.Orders.{IsOrder}
pub use Rattle.kl1_goals_moves.specs.declared.kind.Kind.{Kind}
pub use Rattle.kl1_goals_moves.specs.declared.needs.Needs.{Needs}
pub use Rattle.kl1_goals_moves.specs.declared.order.ExecuteArguments.{ExecuteArguments}
pub use Rattle.kl1_user_events.specs.declared.refusal.Refusal.TheVariants.{Ended, Journal, Limit, NoShoen}
pub use Rattle.kl1_user_effects.specs.Account.{Means, aim, aim_with, goal_with, meaning, origin_with, shoen_with, state_with, task_with, texts_of, told_in}
pub use Rattle.kl1_user_effects.specs.Calling.{keeps_names, spare}
pub use Rattle.kl1_user_effects.specs.Drafts.{goals_for, is_of_any, one_for}
pub use Rattle.kl1_user_effects.specs.Endings.{ended_each, left_at, life_at}
pub use Rattle.kl1_user_effects.specs.Exchanging.{AreSpared, IsRowOf, IsSpared, exchanged, held_exchanged, pair_of, read_exchanged, swapped, swapped_all, swapped_one, touched}
pub use Rattle.kl1_user_effects.specs.Fitting.{Fits, Reading, built, marked_fits, marked_reading, reading_fits, reading_of}
pub use Rattle.kl1_user_effects.specs.Frames.{IsCalm, KeepsBy, plain}
pub use Rattle.kl1_user_effects.specs.Kept.{AreGoalsIn, AreOwned, AreShoensIn, AreUpTo, IsKeptIn, IsOriginIn, IsOwned, IsShoenIn, IsTaskIn}
pub use Rattle.kl1_user_effects.specs.Late.{HasLate, IsNoTail, KeepsFree, KeepsLate, StaysFree, close_late, finished_each_late, finished_late, is_late_tail, is_tail_of, is_variable, report_each_late, report_late, settle_charged_late}
pub use Rattle.kl1_user_effects.specs.Messages.{AllowsMessage, Counts, RefusesMessage, Usage}
pub use Rattle.kl1_user_effects.specs.Moving.{priorities_by}
pub use Rattle.kl1_user_effects.specs.Naming.{AreNumbersOf, AreSmall, Grows, Keeps, ReadsDraft}
pub use Rattle.kl1_user_effects.specs.Outlines.{KeepsOthers, KeepsOutlines, outline}
pub use Rattle.kl1_user_effects.specs.Reports.{leaving, left_by, torn, unheard}
pub use Rattle.kl1_user_effects.specs.Settled.{AreSettled, IsSettled, TaskDoes, awaited_by_task, control_with, task_clause}
pub use Rattle.kl1_user_effects.specs.Shelving.{AreKnown, known_of}
pub use Rattle.kl1_user_effects.specs.Walks.{EndsLives, EndsOne, ended_in, ending_in, ends_in, reached_in, terminated}
pub use Rattle.kl1_user_effects.specs.Wholes.{IsWhole}
pub use Rattle.kl1_user_effects.specs.Works.{IsMadeIn, Knows, Made, Turns, worked}
