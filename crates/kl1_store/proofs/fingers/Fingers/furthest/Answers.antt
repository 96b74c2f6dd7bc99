use Rattle.std.proofs.Common.{refl, ◌∙◌, arith}
use Rattle.std.proofs.lemmas.List.Elements.{All-same}
use Rattle.kl1_store.specs.Fingers.{IsFinger}
use Rattle.kl1_store.proofs.Fingering.{beginning, each_now, first_finger, other_fingers}
use Rattle.kl1_store.proofs.fingers.Fingers.furthest.Goals as goal

pub loop-others-init : goal.loop-others-init
loop-others-init g c =
    let built = g.N.NameValue.built in
    record {
      list = refl;
      count = omega arith;
      right = λ h inside all. beginning built h c.args.list inside;
      rest = λ h all. All-same (IsFinger built h) c.as_slice-others.result.now c.args.self.now.places.items c.as_slice-others.ensures.value (each_now built h c.args.self.now all);
    }

pub loop-others-preserved : goal.loop-others-preserved
loop-others-preserved g c =
    let built = g.N.NameValue.built in
    let i = c.loop-others.invariant in
    let others = c.loop-others.others.now in
    let next = c.further-best.ensures in
    record {
      list = next.list ∙ i.list;
      count = next.count;
      right = λ h inside all. next.right h (i.right h inside all) (first_finger built h c.other-item.result others c.in-len1-up.len_at_least c.other-item.is (i.rest h all));
      rest = λ h all. other_fingers built h others c.in-len1-up.len_at_least (i.rest h all);
    }
