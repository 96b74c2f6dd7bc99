-- the nodes so far, and those that are left with the places of their variables at the end, are all with these places; the places of the
-- variables seen are found; there is room
use Rattle.std.proofs.Common.{◌≡◌, [], ◌+◌, ◌≤◌, ◌++◌, None, map, length, vec_len, vec_capacity}
use Rattle.kl1_model.specs.Telling.{new_among}
use Rattle.kl1_term.specs.Nodes.{code_of}
use Rattle.kl1_term.specs.Telling.{Finds, anew_in}
use Rattle.kl1_term.specs.Variables.{variables_in}
use Rattle.kl1_term.proofs.telling.anew_nodes.Given as goal

abbrev pub invariant-loop-left : goal.invariant-loop-left
invariant-loop-left l =
    let all = new_among None [] (variables_in (map code_of l.nodes)) in
    record {
      finds : Finds l.places l.seen.items;
      seen : new_among None l.seen.items (variables_in (map code_of l.left)) ≡ all;
      same : map code_of l.out.items ++ anew_in all (map code_of l.left) ≡ anew_in all (map code_of l.nodes);
      room : vec_len l.out + length l.left ≤ vec_capacity l.out;
    }

abbrev pub decreases-loop-left : goal.decreases-loop-left
decreases-loop-left l = length l.left
