use Rattle.std.proofs.Common.{refl, inl, length}
use Rattle.std.proofs.lemmas.Option.{slice_get_read}
use Rattle.kl1_atoms.specs.Seats.{face_in}
use Rattle.kl1_atoms.specs.Knowing.{knows_first-kept}
use Rattle.kl1_tests_threads.proofs.atoms.look_ups.found.Goals as goal

pub intern-number-requires-clause-room : goal.intern-number-requires-clause-room
intern-number-requires-clause-room c =
    inl (c.loop-place.invariant.known c.loop-place.place c.index-texts-place.result c.loop-place-test.true
    (slice_get_read c.args.texts.now (length c.args.texts.now) c.loop-place.place c.index-texts-place.result refl c.loop-place-test.true c.index-texts-place.is))

pub loop-place-preserved : goal.loop-place-preserved
loop-place-preserved c = record {
  of = c.intern-number.ensures.of;
  known = knows_first-kept (face_in c.loop-place.seat.badge.views).knows c.index-texts-place.result c.intern-number.result (face_in c.intern-number.new.seat.badge.views).knows c.args.texts.now (length c.args.texts.now)
      c.intern-number.ensures.adds c.loop-place.invariant.known;
}
