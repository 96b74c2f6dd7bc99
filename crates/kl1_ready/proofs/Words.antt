-- The words that this crate's proofs use, and where they come from.
pub use Rattle.std.proofs.Math.Dec.{eqb}
pub use Rattle.std.proofs.lemmas.Bool.{and_parts, or_right}
pub use Rattle.std.proofs.lemmas.Bool.Decides.{same_from_decides}
pub use Rattle.std.proofs.lemmas.List.{nil_from_length}
pub use Rattle.std.proofs.lemmas.List.Filters.{dedup_is}
pub use Rattle.std.proofs.lemmas.List.Kept.{Contains-dedup_nat, Contains-from_dedup}
pub use Rattle.std.proofs.lemmas.List.Sorted.{list_any-IsPermutation}
pub use Rattle.std.proofs.lemmas.Map.Keys.{IsStrictlyIncreasing-dedup}
pub use Rattle.std.proofs.lemmas.Option.{MatchOption-at_some, slice_get-get_or}
pub use Rattle.std.proofs.lemmas.Result.{IfOk-weaker}
pub use Rattle.std.specs.List.{dedup}
pub use Rattle.std.specs.Prelude.{Contains, MatchOption, option_copied, slice_get}
pub use Rattle.std.specs.Vec.{vec_len}
pub use Rattle.kl1_model.proofs.ControlStays.{control_stays}
pub use Rattle.kl1_model.proofs.LookStays.{substitutes_stay}
pub use Rattle.kl1_model.proofs.Substitutions.{replaced_is, values_of}
pub use Rattle.kl1_model.proofs.TermStays.{is_replaced, left_alone, term_stays}
pub use Rattle.kl1_model.specs.Control.{awaits_message, breaks_off, ends, tells, tells_other}
pub use Rattle.kl1_model.specs.Look.{goal_look}
pub use Rattle.kl1_model.specs.Match.{clauses_of}
pub use Rattle.kl1_model.specs.Reduction.{moves, read_action, reads, task_action}
pub use Rattle.kl1_model.specs.Term.{substituted}
pub use Rattle.kl1_model.specs.code.Waits.{awaited_by_control, awaited_by_found, LeavesEach, awaited_by_substitute, awaited_by_term, look_clause, move_by, substitute_clause, term_clause}
pub use Rattle.kl1_model.specs.code.Steps.{monitor_action, substitute_move}
pub use Rattle.kl1_model.specs.laws.WaitsLaws.{control_substituted}
pub use Rattle.kl1_atoms.specs.Knowing.{no_names, option_cases}
pub use Rattle.kl1_store.proofs.Later.{is_later}
pub use Rattle.kl1_store.specs.Later.{bound_since}
pub use Rattle.kl1_clause.specs.Clauses.{AreCompiled}
pub use Rattle.kl1_clause.specs.Predicates.{AreSome, FoundAs}
pub use Rattle.kl1_clause.specs.declared.predicate.Predicate.{Predicate}
pub use Rattle.kl1_codes.specs.Finding.{Asks, Finds}
pub use Rattle.kl1_codes.specs.Shelves.{with_last}
pub use Rattle.kl1_stream.specs.Controls.{control_as}
pub use Rattle.kl1_stream.specs.declared.control.Control.{Control}
pub use Rattle.kl1_stream.specs.declared.control.Control.TheVariants.{Awaits}
pub use Rattle.kl1_shoen.specs.Shoens.{is_enabled_at}
pub use Rattle.kl1_match.specs.declared.place.Place.{Place}
pub use Rattle.kl1_goals.specs.Readies.{clause_in}
pub use Rattle.kl1_goals.specs.declared.standing.Standing.{Standing}
pub use Rattle.kl1_goals.specs.declared.standing.Standing.TheVariants.{Commits, Waits}
pub use Rattle.kl1_goals_moves.proofs.Hooked.{hangs_on_same}
pub use Rattle.kl1_goals_moves.proofs.JudgedStays.{does_stays, substitute_does_stays}
pub use Rattle.kl1_goals_moves.specs.Calls.{call_at}
pub use Rattle.kl1_goals_moves.specs.Judged.{DoesAs, IsCalling, SubstituteDoes}
pub use Rattle.kl1_goals_moves.specs.Kinds.{IsCall}
pub use Rattle.kl1_goals_moves.specs.Moves.{HasPredicate, IsMove, MoveIn, MovesAs, taken_places}
pub use Rattle.kl1_goals_moves.specs.Orders.{order_at}
pub use Rattle.kl1_goals_moves.specs.Standing.{StandsAs}
pub use Rattle.kl1_goals_moves.specs.Substitutes.{SubstituteMoves, SubstituteStands, move_by_clause, substitute_move_of}
pub use Rattle.kl1_goals_moves.specs.declared.call.Call.{Call}
pub use Rattle.kl1_goals_moves.specs.declared.kind.Kind.TheVariants.{Calls}
pub use Rattle.kl1_goals_moves.specs.declared.moves.Move.{Move}
pub use Rattle.kl1_user_effects.proofs.Lists.{all_then}
pub use Rattle.kl1_user_effects.proofs.States.{aim_is, aim_later, found_in, found_shoen_in, kind_at}
pub use Rattle.kl1_user_effects.proofs.Words.{AreNames, AreShoensIn, Bool, Cell, CellName, Clause, ExecuteArguments, Goal, Grown, HangsOnEach, Held, Hook, IsFormed, IsIn, IsKind, IsOrder, IsSettled, IsTaskIn, Kind, Knows, List, Made, Module, Monitor, None, Numbered, Option, Program, Qualified, Reading, Reads, Reduces, Replacement, Rules, Shoen, Some, Substitutes, Task, TaskDoes, Term, Variable, [], aim, among_contains, ap, arguments_of, arith, awaited_by_task, built, contains_among, contents, control_of, control_with, drop, eq-eqb, eqb-true, false, get_or, if◌then◌else◌, inl, inr, is_among, is_monitor, is_monitor_task, length, map, meaning, ne_eqb, option_map, qualified_term, reading_fits, reading_of, refl, rules, shoen_in, shoen_with, subst, suc, sym, task_clause, task_with, text_of, true, worked, ℕ, ◌&&◌, ◌++◌, ◌<◌, ◌==◌, ◌||◌, ◌∙◌, ◌∷◌, ◌≡◌}
unfoldable pub use Rattle.kl1_user_effects.proofs.Words.{path_within, term_of}
pub use Rattle.kl1_user_effects.specs.Account.{whole}
pub use Rattle.kl1_user_effects.specs.Installing.{shifted_by}
pub use Rattle.kl1_user_effects.specs.Settled.{awaited_by_monitor, control_at, control_clause, front_with, monitor_clause}
pub use Rattle.kl1_ready.specs.Plans.{CanDo, DoesNothing, IsPlan, Judges, MovesBy, ReadsBy, is_read, move_or_go}
pub use Rattle.kl1_ready.specs.Ready.{IsReadyAt, IsReadyBy}
pub use Rattle.kl1_ready.specs.declared.planning.Plan.{Plan}
pub use Rattle.kl1_ready.specs.declared.planning.PlannedMove.{PlannedMove}
