-- What a substitute can do by the look at its term, and what it waits for.
use Rattle.std.proofs.Common.{◌≡◌, ℕ, sym, ap, subst}
use Rattle.std.specs.Prelude.{Option}
use Rattle.kl1_model.specs.Term.{Term}
use Rattle.kl1_model.specs.Look.{goal_look}
use Rattle.kl1_model.specs.code.Steps as model
use Rattle.kl1_goals_moves.specs.declared.look.Look.{Look}
use Rattle.kl1_goals_moves.specs.declared.look.Look.TheVariants as look
use Rattle.kl1_goals_moves.specs.declared.moves.Move.{Move}
use Rattle.kl1_goals_moves.specs.Looks.{look_of}
use Rattle.kl1_goals_moves.specs.Substitutes.{giving_way, substitute_move_of, SubstituteMoves}

-- by 0 it does what the look says
gives_as : (N : Type 0) (t : Term) (x : Look) → look_of x ≡ goal_look t → let m : Option (Move N) = giving_way x in substitute_move_of m (model.substitute_move (goal_look t))
gives_as N t look.Right e = ap model.substitute_move (sym e)
gives_as N t (look.Waits v) e = ap model.substitute_move (sym e)
gives_as N t look.Wrong e = ap model.substitute_move (sym e)

pub moves_as : {N : Type 0} (t : Term) (clause : ℕ) (x : Look) (found : Option (Move N)) → clause ≡ 0 → found ≡ giving_way x → look_of x ≡ goal_look t → SubstituteMoves t clause found
moves_as {N = N} t clause x found z own e =
    let P : Option (Move N) → Type 0 = λ o. substitute_move_of o (model.substitute_move (goal_look t)) in
    let Q : ℕ → Type 0 = λ n. SubstituteMoves t n found in
    subst Q (sym z) (subst P (sym own) (gives_as N t x e))
