use Rattle.std.proofs.Common.{◌≡◌, ◌+◌, length, arith, rules}
use Rattle.std.proofs.lemmas.Result.{on_ok_weaker}
use Rattle.kl1_match.proofs.Rooms.{few_structures}
use Rattle.kl1_match.proofs.goal_cells.reserve_goal_beside.Goals as goal

pub returns-clause-room : goal.returns-clause-room
returns-clause-room g c =
    let structures : c.in_ok-structures.structures ≡ length c.args.row.now + c.args.structures = search rules in
    let arguments : c.in_ok-arguments.arguments ≡ c.in_ok-own.own + c.args.arguments = search rules in
    on_ok_weaker c.reserve-2.result (λ h. record {
      structures_fit = omega (arith, few_structures c.args.row.now, h.structures, structures);
      arguments_fit = omega (arith, c.in_ok-own.ensures, h.arguments, arguments);
      stack_fits = omega (arith, c.in_ok-reserve.ensures.ok, c.clear.ensures.len);
    }) c.reserve-2.ensures.room

pub returns-clause-beside : goal.returns-clause-beside
returns-clause-beside g c =
    let structures : c.in_ok-structures.structures ≡ length c.args.row.now + c.args.structures = search rules in
    let arguments : c.in_ok-arguments.arguments ≡ c.in_ok-own.own + c.args.arguments = search rules in
    on_ok_weaker c.reserve-2.result (λ h. record {
      variables = h.variables;
      structures = omega (arith, few_structures c.args.row.now, h.structures, structures);
      arguments = omega (arith, c.in_ok-own.ensures, h.arguments, arguments);
      bindings = h.bindings;
    }) c.reserve-2.ensures.room
