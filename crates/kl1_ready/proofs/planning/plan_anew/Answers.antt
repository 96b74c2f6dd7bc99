use Rattle.kl1_ready.proofs.Words.{◌≡◌, CellName, Goal, Made, Reduces, taken_places, contents, qualified_term}
use Rattle.kl1_ready.proofs.Plans.{IsFound, goal_found, nothing_found, move_found}
use Rattle.kl1_ready.proofs.planning.plan_anew.Goals.{In_ok-made}
use Rattle.kl1_ready.proofs.planning.plan_anew.Goals as goal

-- what was found is what the goal can do
found : (g : _) (c : In_ok-made g) (one : Goal CellName) (w : Made) → one.task ≡ Reduces c.args.cell → w.rules ≡ c.args.modules.now.rules →
    IsFound c.args.modules.now c.args.store.now.held w one c.args.clause (taken_places c.move_of.new.trial) c.move_of.new.trial.text c.args.cell c.predicate_of-located.result.predicate c.in_ok-made.field-0
found g c one w task rules = goal_found (record { rules = rules; task = task; cell = c.requires.cell }) c.in_ok-made.ensures.inside (λ f judges.
    let t = qualified_term f c.args.store.now.held c.args.cell in
    let kind = c.kind_of_qualified-kind.ensures.kind f judges.knows.reads in
    let has = c.predicate_of-located.ensures.has f judges.knows c.args.store.now.held t kind in
    rw c.rules-rules.ensures at (c.in_ok-made.ensures.moves f judges.knows.reads (contents c.args.modules.now.loaded) t kind has))

pub returns-in_default : goal.returns-in_default
returns-in_default g c one w task rules = nothing_found c.in_default.is (found g (goal.at.returns-in_default g c).In_ok-made one w task rules)

pub returns : goal.returns
returns g c one w task rules = move_found _ c.in-Some.is (found g (goal.at.returns g c).In_ok-made one w task rules) c.predicate_of-located.ensures.some
