use Rattle.kl1_user_effects.proofs.Words.{sym, ap, ◌∙◌, inl, inr, option_map, CellName}
use Rattle.kl1_user_effects.proofs.exchanging.number_or_spare.Goals as goal

pub returns-in-Some : goal.returns-in-Some
returns-in-Some c = inl (sym c.number_of.ensures ∙ ap (option_map (λ (x : CellName). x.number)) c.in-Some.is)

pub returns-in-None : goal.returns-in-None
returns-in-None c = inr (sym c.number_of.ensures ∙ ap (option_map (λ (x : CellName). x.number)) c.in-None.is, c.spare.ensures)
