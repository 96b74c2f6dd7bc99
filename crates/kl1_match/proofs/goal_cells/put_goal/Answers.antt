use Rattle.std.specs.Prelude.{pos, IsOk}
use Rattle.std.proofs.Common.{rules, ◌∙◌, subst, arith}
use Rattle.kl1_store.specs.declared.cell.Cell.TheVariants.{Integer}
use Rattle.kl1_match.specs.Built.{BuildsRow}
use Rattle.kl1_store.proofs.Tops.{popped}
use Rattle.kl1_match.proofs.GoalCells.{goal_built}
use Rattle.kl1_match.proofs.goal_cells.put_goal.Goals as goal

pub unreachable-requires : goal.unreachable-requires
unreachable-requires g c =
    let done : IsOk c.put_row.result = c.put_row.ensures.room (record {
      structures_fit = c.requires.room.structures_fit;
      arguments_fit = c.requires.room.arguments_fit;
      stack_fits = omega (arith, c.requires.room.stack_fits, c.clear.ensures.capacity);
    }) in
    search rules

pub returns-clause-goal : goal.returns-clause-goal
returns-clause-goal g c =
    let rows = subst (λ xs. BuildsRow g.N.NameValue.built c.args.names.now c.args.store.now.held c.put_row.new.store.held xs c.args.row.now c.put_row.new.stack.items) c.as_slice-variables.ensures.value c.in-Ok.ensures.rows in
    let p = popped (Integer (pos 0)) c.put_row.new.stack.items c.pop.new.self.items c.pop.result c.pop.ensures.items (λ h. search rules) in
    goal_built g.N.NameValue.built c.args.names.now c.args.row.now c.args.scratch.now.variables.items c.args.store.now.held c.put_row.new.store.held c.put_row.new.stack.items (Integer (pos 0)) c.unwrap_or.result
    c.requires.variables rows tt (p.first ∙ search rules)
