use Rattle.kl1_ready.proofs.Words.{◌≡◌, ℕ, ◌<◌, refl, ap, subst, Some, option_map, CellName, Goal, Made, Qualified, Reduces, Commits, Calls, taken_places, contents, qualified_term, clause_in, DoesAs, IsCalling, Reading, Program, Held, Judges, term_clause}
use Rattle.kl1_ready.proofs.Ready.{call_has}
use Rattle.kl1_ready.proofs.Plans.{judged_as, IsFound, goal_found, nothing_found, move_found}
use Rattle.kl1_ready.proofs.planning.plan_commit.Goals.{In_ok-made}
use Rattle.kl1_ready.proofs.planning.plan_commit.Goals as goal

-- what is known of the term of a goal that was judged to commit to this clause
judged : {program : Program} {h : Held CellName} {g : Goal CellName} {f : Reading} {c place : ℕ} (x : Qualified CellName) → g.task ≡ Reduces x → g.standing ≡ Commits c place → Judges program h g f → (IsCalling (qualified_term f h x) × (0 < c)) × (term_clause program.rules (contents program.loaded) (qualified_term f h x) ≡ Some c)
judged {program = program} {h = h} {f = f} {c = c} x task stands judges = let j = judged_as x c refl task (ap clause_in stands) judges in (subst (DoesAs program.rules (qualified_term f h x)) stands j.0, j.1)

-- what was found is what the goal can do
found : (g : _) (c : In_ok-made g) (one : Goal CellName) (w : Made) → one.task ≡ Reduces c.args.cell → one.standing ≡ Commits c.args.clause c.args.place → w.rules ≡ c.args.modules.now.rules →
    IsFound c.args.modules.now c.args.store.now.held w one c.args.clause (taken_places c.commit_as_judged.new.trial) c.commit_as_judged.new.trial.text c.args.cell c.located_or_none-located.result.predicate c.in_ok-made.field-0
found g c one w task stands rules = goal_found (record { rules = rules; task = task; cell = c.requires.cell }) c.in_ok-made.ensures.inside (λ f judges.
    let ms = c.args.modules.now in
    let t = qualified_term f c.args.store.now.held c.args.cell in
    let j = judged c.args.cell task stands judges in
    let is = c.in-Some.ensures.call f judges.knows.reads j.0.0 in
    let compiled = c.located_or_none-located.ensures.clauses in
    let has = call_has ms.loaded (Calls c.in-Some.call) c.in-Some.call (option_map (λ l. l.predicate) c.find.result) c.located_or_none-located.result.predicate refl c.find.ensures.finds compiled f judges.knows c.args.store.now.held t is in
    c.in_ok-made.ensures.moves f judges.knows.reads ms.rules (contents ms.loaded) t is has j.0.1 j.1)

pub returns-in_default : goal.returns-in_default
returns-in_default g c one w task stands rules f judges = absurd (c.in_default.ensures.call f judges.knows.reads (judged c.args.cell task stands judges).0.0)

pub returns-in_default-2 : goal.returns-in_default-2
returns-in_default-2 g c one w task stands rules = nothing_found c.in_default-2.is (found g (goal.at.returns-in_default-2 g c).In_ok-made one w task stands rules)

pub returns : goal.returns
returns g c one w task stands rules = move_found _ c.in-Some-2.is (found g (goal.at.returns g c).In_ok-made one w task stands rules) c.located_or_none-located.ensures.some
