use Rattle.std.proofs.Common.{◌≡◌, ◌*◌, ◌+◌, ◌-◌, ◌^◌, min, ◌∙◌, arith}
use Rattle.kl1_pool.specs.declared.memory.TheConstants.{GOAL_BYTES, NAME_BYTES, SHOEN_BYTES, VARIABLE_BYTES, STRUCTURE_BYTES, REPORT_BYTES, ENTRY_BYTES, STEP_BYTES}
use Rattle.kl1_pool.proofs.Capped.{capped}
use Rattle.kl1_pool.proofs.memory.bytes_of.Goals as goal

pub returns : goal.returns
returns c =
    let u = c.args.usage.now in
    let goals = u.goals.count * GOAL_BYTES in
    let names = goals + u.names.count * NAME_BYTES in
    let shoens = names + u.shoens.count * SHOEN_BYTES in
    let variables = shoens + u.variables.count * VARIABLE_BYTES in
    let structures = variables + u.structures.count * STRUCTURE_BYTES in
    let reports = structures + u.reports.count * REPORT_BYTES in
    let a : c.add_counted-goals.result ≡ min goals (2 ^ 64 - 1) = omega (arith, c.add_counted-goals.ensures) in
    let b = c.add_counted-names.ensures ∙ capped c.add_counted-goals.result goals (u.names.count * NAME_BYTES) a in
    let d = c.add_counted-shoens.ensures ∙ capped c.add_counted-names.result names (u.shoens.count * SHOEN_BYTES) b in
    let e = c.add_counted-variables.ensures ∙ capped c.add_counted-shoens.result shoens (u.variables.count * VARIABLE_BYTES) d in
    let f = c.add_counted-structures.ensures ∙ capped c.add_counted-variables.result variables (u.structures.count * STRUCTURE_BYTES) e in
    let h = c.add_counted-reports.ensures ∙ capped c.add_counted-structures.result structures (u.reports.count * REPORT_BYTES) f in
    let entries = reports + u.entries.count * ENTRY_BYTES in
    let i = c.add_counted-entries.ensures ∙ capped c.add_counted-reports.result reports (u.entries.count * ENTRY_BYTES) h in
    c.add_counted.ensures ∙ capped c.add_counted-entries.result entries (c.args.steps * STEP_BYTES) i
