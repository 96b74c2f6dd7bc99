use Rattle.std.proofs.Common.{arith}
use Rattle.std.proofs.lemmas.Grind.{common_steps}
use Rattle.kl1_lines.proofs.DeviceLaws.{appends_more}
use Rattle.kl1_lines.proofs.output.write_all.Goals as goal

pub loop-place-preserved : goal.loop-place-preserved
loop-place-preserved g c = record {
  within = grind (arith, common_steps);
  appends = appends_more (g.S.Sink.contents c.args.sink.now) (g.S.Sink.contents c.loop-place.sink) (g.S.Sink.contents c.write.new.self) c.loop-place.place c.in_ok-place.field-0 c.args.bytes.now c.loop-place.invariant.appends c.in_ok-place.ensures.ok.appends;
  kept = grind (arith, common_steps);
}
