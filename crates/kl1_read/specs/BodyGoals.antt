-- The goals of a body as terms, with the priorities that they name.
use Rattle.std.specs.Prelude.{ℕ, ◌<◌, length, Bool, List, [], ◌∷◌, ◌++◌, map, Option, Some, None, option_map, if◌then◌else◌}
use Rattle.std.specs.List.{list_all}
use Rattle.std.specs.Borrow.{Bor}
use Rattle.kl1_model.specs.Term.{Term}
use Rattle.kl1_model.specs.Grammar as grammar
use Rattle.kl1_model.specs.Grammar.{GoalTree, plain_goal, urgent_goal}
use Rattle.kl1_model.specs.reader.Reader.{Answer, then_read, then_skip, if_there, behind_at, behind_open, behind_close, behind_comma, digits_in_front, priority_in_front, body_at}
use Rattle.kl1_model.specs.Meaning.{expression_term, is_writable}
use Rattle.kl1_model.specs.Module.{BodyGoal, without_priority, with_priority, trees_of}
use Rattle.kl1_read.specs.declared.numbered.Numbered.{Numbered}
use Rattle.kl1_read.specs.declared.goal_terms.GoalTerm.{GoalTerm}
use Rattle.kl1_read.specs.declared.goal_terms.Following.{Following}
use Rattle.kl1_read.specs.declared.goal_terms.Following.TheVariants.{Bad, Last, More}
use Rattle.kl1_read.specs.Views.{numbered_token}
use Rattle.kl1_read.specs.Meanings.{reading, answer_map}

-- a goal that was read, as its term and its priority
abbrev pub goal_of_term : GoalTerm → BodyGoal
goal_of_term g = record { goal = g.term; priority = g.priority }

-- the term of a goal's tree, with its priority
abbrev pub goal_named : GoalTree → BodyGoal
goal_named (plain_goal e) = without_priority (expression_term e)
goal_named (urgent_goal e quotes n) = with_priority n (expression_term e)

-- the goals of the body in front of tokens
unfoldable pub goals_read : List grammar.Numbered → Answer (List BodyGoal)
goals_read ts = answer_map (λ b. map goal_named (trees_of b)) (body_at reading ts)

-- whether a text can write the terms of goals
abbrev pub are_written : List BodyGoal → Bool
are_written gs = list_all (λ g. is_writable g.goal) gs

-- goals that a text can write, with what is after them
abbrev pub written : Answer (List BodyGoal) → Answer (List BodyGoal)
written None = None
written (Some r) = if are_written r.0 then Some r else None

-- the goals of the body in front of tokens, if a text can write each
abbrev pub written_goals : List grammar.Numbered → Answer (List BodyGoal)
written_goals ts = written (goals_read ts)

-- the goals that terms are, of which only the last may name a priority
abbrev pub goals_named : Option ℕ → List Term → List BodyGoal
goals_named p [] = []
goals_named p (t ∷ []) = record { goal = t; priority = p } ∷ []
goals_named p (t ∷ u ∷ ts) = without_priority t ∷ goals_named p (u ∷ ts)

-- what is after the word `priority` in front of a `(`
abbrev pub behind_word : List grammar.Numbered → Option (List grammar.Numbered)
behind_word ts = option_map (λ r. r.1) (priority_in_front ts)

-- the priority after `@`
abbrev pub priority_read : List grammar.Numbered → Answer ℕ
priority_read ts = then_skip (behind_word ts) (λ us. then_skip (behind_open us) (λ vs. then_read (digits_in_front vs) (λ n ws. then_skip (behind_close ws) (λ xs. Some (n, xs)))))

-- these goals, and those that were read after them
abbrev pub with_front : List BodyGoal → Answer (List BodyGoal) → Answer (List BodyGoal)
with_front gs x = answer_map (λ hs. gs ++ hs) x

-- goes on after goals, with others after a comma
abbrev pub goals_after : (List grammar.Numbered → Answer (List BodyGoal)) → List BodyGoal → List grammar.Numbered → Answer (List BodyGoal)
goals_after others gs ws = if_there (behind_comma ws) (Some (gs, ws)) (λ xs. with_front gs (others xs))

-- goes on after terms that are goals, of which the last may name a priority
abbrev pub terms_after : (List grammar.Numbered → Answer (List BodyGoal)) → List Term → List grammar.Numbered → Answer (List BodyGoal)
terms_after others ts us =
    if_there (behind_at us) (Some (goals_named None ts, us)) (λ vs. then_read (priority_read vs) (λ n ws. goals_after others (goals_named (Some n) ts) ws))

-- fewer tokens than these are left after goals that others follow
abbrev pub FollowsLess : ℕ → Following → Type 0
FollowsLess n Bad = Unit {0}
FollowsLess n (Last rest) = Unit {0}
FollowsLess n (More rest) = length rest.now < n

-- a priority that was read, with what is after it
abbrev pub priority_view : Option (ℕ × Bor (List Numbered)) → Answer ℕ
priority_view None = None
priority_view (Some r) = Some (r.0, map numbered_token r.1.now)

-- goals that were read, with what is after them
abbrev pub goals_view : Option (Bor (List Numbered)) → List BodyGoal → Answer (List BodyGoal)
goals_view None gs = None
goals_view (Some rest) gs = Some (gs, map numbered_token rest.now)

-- the goals so far, if none follow, or with those that follow
abbrev pub following_view : Following → List BodyGoal → Answer (List BodyGoal)
following_view Bad gs = None
following_view (Last rest) gs = Some (gs, map numbered_token rest.now)
following_view (More rest) gs = with_front gs (written_goals (map numbered_token rest.now))
