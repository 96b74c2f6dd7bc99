use Rattle.std.proofs.Common.{◌≡◌, ◌<◌, length, arith, refl, sym, ◌∙◌, None, subst, ℕ}
use Rattle.std.specs.List.{find}
use Rattle.std.proofs.lemmas.List.{length-map}
use Rattle.kl1_goals.specs.Lists.{has_number}
use Rattle.kl1_goals.specs.Slots.{number_in, goals_in}
use Rattle.kl1_goals.proofs.Changing.{field_read, find_absent, find_at}
use Rattle.kl1_goals.proofs.places.held_place.Goals as goal

pub returns-in-None : goal.returns-in-None
returns-in-None g c = find_absent c.args.number c.args.slots.now.items c.in-None.ensures

pub returns-else-index : goal.returns-else-index
returns-else-index g c =
    let ss = c.args.slots.now.items in
    let x = c.index.result.now in
    let count = length-map ss (number_in {N = g.row.N.Denot}) in
    let within : c.in-Some.place < length ss = omega (arith, c.in-Some.ensures.within, count) in
    let at = field_read number_in ss c.in-Some.place x within c.index.ensures in
    let P : ℕ → Type 0 = λ n. find (has_number n) (goals_in ss) ≡ None in
    subst P (sym at ∙ c.in-Some.ensures.is) (find_at 0 ss c.in-Some.place x c.requires within (sym c.index.ensures) ∙ rw c.if-index.false refl)
