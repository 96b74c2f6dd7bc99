use Rattle.std.proofs.Common.{refl, length, arith, ◌∙◌}
use Rattle.std.proofs.lemmas.Option.{slice_get_read}
use Rattle.kl1_atoms.specs.Seats.{face_in}
use Rattle.kl1_atoms.specs.Knowing.{few_more, knows_first-more}
use Rattle.kl1_tests_threads.proofs.atoms.look_ups.learn.Goals as goal

pub loop-place-preserved : goal.loop-place-preserved
loop-place-preserved c = record {
  of = c.intern.ensures.of;
  room = c.intern.ensures.same ∙ c.loop-place.invariant.room;
  few = (let f = few_more (face_in c.loop-place.seat.badge.views).knows c.index-texts-place.result c.intern.result (face_in c.intern.new.seat.badge.views).knows c.intern.ensures.adds in let i = c.loop-place.invariant.few in omega arith);
  known = knows_first-more (face_in c.loop-place.seat.badge.views).knows c.index-texts-place.result c.intern.result (face_in c.intern.new.seat.badge.views).knows c.args.texts.now c.loop-place.place c.intern.ensures.adds
      (slice_get_read c.args.texts.now (length c.args.texts.now) c.loop-place.place c.index-texts-place.result refl c.loop-place-test.true c.index-texts-place.is) c.loop-place.invariant.known;
}
