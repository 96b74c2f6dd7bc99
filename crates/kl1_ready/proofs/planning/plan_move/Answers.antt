use Rattle.kl1_ready.proofs.Words.{◌≡◌, List, [], CellName, Made, Place, Predicate, taken_places, contents}
use Rattle.kl1_ready.proofs.Plans.{judged_as, IsFound, goal_found, nothing_found, move_found, no_predicate}
use Rattle.kl1_ready.proofs.planning.plan_move.Goals.{After-move_as_judged}
use Rattle.kl1_ready.proofs.planning.plan_move.Goals as goal

-- what was found is what the goal can do
found : (g : _) (c : After-move_as_judged g) (w : Made) (p : Predicate CellName) (places : List (Place CellName)) → w.rules ≡ c.args.modules.now.rules →
    IsFound c.args.modules.now c.args.store.now.held w c.args.goal.now c.args.clause places c.move_as_judged.new.trial.text c.args.cell p c.move_as_judged.result
found g c w p places rules = goal_found (record { rules = rules; task = c.requires.reduces; cell = c.requires.cell }) (c.move_as_judged.ensures.inside p places) (λ f judges.
    let by = c.stands_by.ensures c.if-not-stands_by.false in
    let j = judged_as c.args.cell c.args.clause c.rules.ensures c.requires.reduces by judges in
    rw c.rules.ensures at (c.move_as_judged.ensures.moves f judges.knows.reads c.in_default.not-Commits j.0 (contents c.args.modules.now.loaded) c.args.clause by j.1 p places))

pub returns-in_default-move_as_judged : goal.returns-in_default-move_as_judged
returns-in_default-move_as_judged g c w rules = nothing_found c.in_default-move_as_judged.is (found g (goal.at.returns-in_default-move_as_judged g c).After-move_as_judged w no_predicate [] rules)

pub returns : goal.returns
returns g c w rules = move_found _ c.in-Some.is (found g (goal.at.returns g c).After-move_as_judged w c.located_or_none.result.predicate (taken_places c.move_as_judged.new.trial) rules) c.located_or_none.ensures.some
