use Rattle.std.proofs.Common.{ap, ◌∙◌}
use Rattle.kl1_atoms.specs.Knowing.{number_known, few_more}
use Rattle.kl1_tests_threads.proofs.atoms.sources.is_numbered.Goals as goal

-- the source's law, and what the look-up added
pub text_of-read-requires-clause-known : goal.text_of-read-requires-clause-known
text_of-read-requires-clause-known g c =
    number_known (g.S.AtomSource.knows c.args.seat.now) c.args.text c.intern-found.result (g.S.AtomSource.knows c.intern-found.new.seat)
    (g.met.S.AtomSource.one_to_one c.intern-found.new.self c.intern-found.new.seat c.intern-found.ensures.of) c.intern-found.ensures.adds

pub returns-clause-place : goal.returns-clause-place
returns-clause-place g c = c.text_of-read.ensures.place ∙ c.intern-found.ensures.place

pub returns-clause-room : goal.returns-clause-room
returns-clause-room g c = ap (λ p. p.0.1) (c.text_of-read.ensures.place ∙ c.intern-found.ensures.place)

pub returns-clause-others : goal.returns-clause-others
returns-clause-others g c = λ other is apart. c.text_of-read.ensures.others other (c.intern-found.ensures.others other is apart) (λ e. apart (e ∙ c.intern-found.ensures.place))

pub returns-clause-few : goal.returns-clause-few
returns-clause-few g c =
    rw c.text_of-read.ensures.same
    (few_more (g.S.AtomSource.knows c.args.seat.now) c.args.text c.intern-found.result (g.S.AtomSource.knows c.intern-found.new.seat) c.intern-found.ensures.adds)
