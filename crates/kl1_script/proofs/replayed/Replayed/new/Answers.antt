use Rattle.std.proofs.Common.{◌∙◌, List, ℕ, ap, sym, subst}
use Rattle.kl1_model.specs.State.{fresh_with}
use Rattle.kl1_model.specs.State.{State}
use Rattle.kl1_user.specs.Readings.{reading_of}
use Rattle.kl1_codes.specs.Numbered.{ArePlaced}
use Rattle.kl1_script.proofs.RulesKept.{room_kept}
use Rattle.kl1_script.proofs.replayed.Replayed.new.Goals as goal

-- the seat has room for the names of the account's rules
pub invariant_of-result : goal.invariant_of-result
invariant_of-result g c =
    let user = c.in_ok-user.user in
    let rules = ap (λ (s : State). s.rules) (c.in_ok-user.ensures.fresh (reading_of user.names)) in
    let placed = subst (ArePlaced (g.C.CodeSource.has c.args.codes)) (sym c.in_ok-user.ensures.modules) tt in
    (c.with_names.ensures.keeps.of, c.in_ok-user.ensures.knows, room_kept g.A.AtomSource.place c.args.seat c.with_names.new.seat c.args.rules user.rules rules c.with_names.ensures.keeps.stays c.requires.room, placed)

pub returns : goal.returns
returns g c = λ f. c.in_ok-user.ensures.fresh f ∙ ap (λ (n : List ℕ). fresh_with c.args.rules n c.args.texts.now c.args.sessions) c.replay_name-name.ensures
