use Rattle.std.proofs.Common.{ap, sym, ◌∙◌, refl, subst, List, ℕ}
use Rattle.std.proofs.lemmas.List.{take_rest}
use Rattle.kl1_model_server.specs.Cut.{has_feed}
use Rattle.kl1_lines.specs.Places.{IsSplit}
use Rattle.kl1_session.proofs.Ends.{load_goes_past, load_ends}
use Rattle.kl1_session.proofs.ended.load_end_in.Goals as goal

pub returns-in-None-clause-none : goal.returns-in-None-clause-none
returns-in-None-clause-none c =
    λ _. load_goes_past c.args.size c.saturating_sub-missing.result c.args.kept.now c.args.piece.now c.saturating_sub-missing.ensures c.requires (ap has_feed (sym (take_rest c.args.piece.now c.saturating_sub-missing.result)) ∙ c.in-None.ensures.none refl)

pub returns-in-Some-clause-some : goal.returns-in-Some-clause-some
returns-in-Some-clause-some c =
    let P : List ℕ → Type 0 = λ x. IsSplit x c.in-Some.tail.now c.in-Some.behind.now in
    load_ends c.args.size c.saturating_sub-missing.result c.args.kept.now c.args.piece.now c.in-Some.tail.now c.in-Some.behind.now c.saturating_sub-missing.ensures c.if-piece-missing.false c.requires (subst P (take_rest c.args.piece.now c.saturating_sub-missing.result) c.in-Some.ensures.some)
