use Rattle.std.proofs.Common.{refl, inl, length, arith, ap, ◌∙◌}
use Rattle.std.proofs.lemmas.Option.{slice_get_read}
use Rattle.kl1_atoms.specs.Knowing.{few_more, knows_first-more, knows_first-kept}
use Rattle.kl1_tests_threads.proofs.atoms.sources.are_found_again.Goals as goal

pub loop-place-preserved : goal.loop-place-preserved
loop-place-preserved g c =
    record {
      of = c.intern.ensures.of;
      room = ap (λ p. p.0.1) c.intern.ensures.place ∙ c.loop-place.invariant.room;
      few = (let f = few_more (g.S.AtomSource.knows c.loop-place.seat) c.index-names-place.result c.intern.result (g.S.AtomSource.knows c.intern.new.seat) c.intern.ensures.adds in let i = c.loop-place.invariant.few in omega arith);
      known = knows_first-more (g.S.AtomSource.knows c.loop-place.seat) c.index-names-place.result c.intern.result (g.S.AtomSource.knows c.intern.new.seat) c.args.names.now c.loop-place.place c.intern.ensures.adds
          (slice_get_read c.args.names.now (length c.args.names.now) c.loop-place.place c.index-names-place.result refl c.loop-place-test.true c.index-names-place.is) c.loop-place.invariant.known;
    }

pub intern-requires-in-loop-place-2-clause-room : goal.intern-requires-in-loop-place-2-clause-room
intern-requires-in-loop-place-2-clause-room g c =
    inl (c.loop-place-2.invariant.known c.loop-place-2.place c.index-names-place-in-loop-place-2.result c.loop-place-2-test.true
    (slice_get_read c.args.names.now (length c.args.names.now) c.loop-place-2.place c.index-names-place-in-loop-place-2.result refl c.loop-place-2-test.true c.index-names-place-in-loop-place-2.is))

pub loop-place-2-preserved : goal.loop-place-2-preserved
loop-place-2-preserved g c = record {
  of = c.intern-in-loop-place-2.ensures.of;
  known = knows_first-kept (g.S.AtomSource.knows c.loop-place-2.seat) c.index-names-place-in-loop-place-2.result c.intern-in-loop-place-2.result (g.S.AtomSource.knows c.intern-in-loop-place-2.new.seat) c.args.names.now (length c.args.names.now)
      c.intern-in-loop-place-2.ensures.adds c.loop-place-2.invariant.known;
}
