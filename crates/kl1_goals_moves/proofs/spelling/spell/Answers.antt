use Rattle.std.proofs.Common.{◌-◌, refl, arith}
use Rattle.kl1_model.specs.Look.{spelling}
use Rattle.kl1_model.specs.State.{most_spelled}
use Rattle.kl1_store.specs.Meaning.{term_of}
use Rattle.kl1_goals_moves.proofs.CodeLists.{code_taken, all_bytes, one_more, spelled_in_names}
use Rattle.kl1_goals_moves.proofs.spelling.spell.Goals as goal

pub push-requires : goal.push-requires
push-requires g c =
    let few = spelled_in_names c.args.rules in
    let count = c.codes.invariant.count in
    let some = c.in-Code.ensures.inside.0 in
    omega (arith, few, count, some)

pub codes-preserved : goal.codes-preserved
codes-preserved g c =
    let inside = c.in-Code.ensures.inside in
    record {
      rest_in = inside.1.1;
      count = one_more c.codes.text c.push.new.self c.in-Code.byte c.codes.left (most_spelled c.args.rules) c.push.ensures inside.0 c.codes.invariant.count;
      bytes = all_bytes c.codes.text c.push.new.self c.in-Code.byte c.push.ensures c.codes.invariant.bytes inside.1.0;
      value = λ f r.
          code_taken c.codes.text c.push.new.self c.in-Code.byte c.codes.left (c.codes.left - 1) (term_of f c.args.store.now.held c.codes.rest) (term_of f c.args.store.now.held c.in-Code.next) (spelling (most_spelled c.args.rules) (term_of f c.args.store.now.held c.args.codes))
          c.push.ensures refl (c.in-Code.ensures.front f r) (c.codes.invariant.value f r);
    }
