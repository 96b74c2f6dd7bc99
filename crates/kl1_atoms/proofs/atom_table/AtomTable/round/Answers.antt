use Rattle.std.proofs.Common.{true, arith}
use Rattle.kl1_text.specs.Words.{words_to_end}
use Rattle.kl1_atoms.specs.Rounds.{Compares, Gives, Drafts}
use Rattle.kl1_atoms.specs.declared.round.Round.TheVariants.{Made}
use Rattle.kl1_atoms.specs.Plays.{own, Looks, Publishes}
use Rattle.kl1_atoms.proofs.Rounding.{looked_seen, walks_seen, drafted_walks, published_walks, is_ready, two_steps, three_steps, published_else, kin_seen, kin_drafted, compared_gives}
use Rattle.kl1_atoms.proofs.atom_table.AtomTable.round.Goals as goal

pub compare-requires-clause-walks : goal.compare-requires-clause-walks
compare-requires-clause-walks c =
    walks_seen (own c.args.seat.now.me.0) (own c.look-value.new.seat.me.0) c.args.bucket c.look-value.result c.args.text.now c.args.passed c.args.drafted c.requires.walks
    (looked_seen (own c.args.seat.now.me.0) (own c.look-value.new.seat.me.0) c.args.bucket c.look-value.result c.look-value.ensures.tells.tells c.if-value-gt0.true)

pub publish-value-requires-clause-ready : goal.publish-value-requires-clause-ready
publish-value-requires-clause-ready c =
    let w = drafted_walks (own c.args.seat.now.me.0) (own c.look-value.new.seat.me.0) (own c.have_draft.new.seat.me.0) c.args.self.now.entries c.args.bucket c.look-value.result c.args.text.now c.args.passed c.args.drafted
    c.look-value.ensures.tells.tells c.if-value-gt0.false c.requires.walks c.requires.entries c.requires.way c.have_draft.ensures.tells.tells in
    (c.args.text.now, c.args.passed, is_ready (own c.have_draft.new.seat.me.0) c.args.text.now c.args.self.now.entries c.args.passed c.args.bucket w.0 w.1 c.requires.within c.requires.way)

pub returns-then-value-eq0-clause-gives : goal.returns-then-value-eq0-clause-gives
returns-then-value-eq0-clause-gives c =
    three_steps c.args.seat.now.me c.look-value.new.seat.me c.have_draft.new.seat.me c.publish-value.new.seat.me (λ f g. Looks f g c.args.bucket c.look-value.result)
    (λ f g. Drafts f g (words_to_end c.args.text.now)) (λ f g. Publishes f g c.args.bucket c.publish-value.result) (λ f g. Gives f g c.args.text.now c.args.passed Made)
    c.look-value.ensures.tells c.have_draft.ensures.tells c.publish-value.ensures.tells
    (published_walks (own c.args.seat.now.me.0) (own c.look-value.new.seat.me.0) (own c.have_draft.new.seat.me.0) (own c.publish-value.new.seat.me.0) c.args.self.now.entries c.args.bucket c.look-value.result
    c.publish-value.result c.args.text.now c.args.passed c.args.drafted c.look-value.ensures.tells.tells c.if-value-gt0.false c.requires.walks c.requires.entries c.requires.way
    c.have_draft.ensures.tells.tells c.publish-value.ensures.tells.tells c.if-value-eq0.true (let f = c.requires.few in omega arith))

pub compare-requires-2-clause-walks : goal.compare-requires-2-clause-walks
compare-requires-2-clause-walks c =
    let w = drafted_walks (own c.args.seat.now.me.0) (own c.look-value.new.seat.me.0) (own c.have_draft.new.seat.me.0) c.args.self.now.entries c.args.bucket c.look-value.result c.args.text.now c.args.passed c.args.drafted
    c.look-value.ensures.tells.tells c.if-value-gt0.false c.requires.walks c.requires.entries c.requires.way c.have_draft.ensures.tells.tells in
    walks_seen (own c.have_draft.new.seat.me.0) (own c.publish-value.new.seat.me.0) c.args.bucket c.publish-value.result c.args.text.now c.args.passed _ w.0
    (published_else (own c.have_draft.new.seat.me.0) (own c.publish-value.new.seat.me.0) c.args.bucket c.publish-value.result c.publish-value.ensures.tells.tells c.if-value-eq0.false)

pub returns-then-value-gt0-clause-gives : goal.returns-then-value-gt0-clause-gives
returns-then-value-gt0-clause-gives c =
    two_steps c.args.seat.now.me c.look-value.new.seat.me c.compare.new.seat.me (λ f g. Looks f g c.args.bucket c.look-value.result)
    (λ f g. Compares f g c.args.text.now c.args.passed c.args.drafted c.compare.result) (λ f g. Gives f g c.args.text.now c.args.passed c.compare.result) c.look-value.ensures.tells c.compare.ensures.gives
    (compared_gives (own c.args.seat.now.me.0) (own c.look-value.new.seat.me.0) (own c.compare.new.seat.me.0) c.args.text.now c.args.passed c.args.drafted c.compare.result
    (kin_seen (own c.args.seat.now.me.0) (own c.look-value.new.seat.me.0) c.args.bucket c.look-value.result
    (looked_seen (own c.args.seat.now.me.0) (own c.look-value.new.seat.me.0) c.args.bucket c.look-value.result c.look-value.ensures.tells.tells c.if-value-gt0.true)) c.compare.ensures.gives.tells)

pub returns-clause-gives : goal.returns-clause-gives
returns-clause-gives c =
    let kin = kin_drafted (own c.args.seat.now.me.0) (own c.look-value.new.seat.me.0) (own c.have_draft.new.seat.me.0) (own c.publish-value.new.seat.me.0) c.args.self.now.entries c.args.bucket c.look-value.result c.publish-value.result
    c.args.text.now c.args.passed c.args.drafted c.look-value.ensures.tells.tells c.if-value-gt0.false c.requires.walks c.requires.entries c.requires.way c.have_draft.ensures.tells.tells
    (published_else (own c.have_draft.new.seat.me.0) (own c.publish-value.new.seat.me.0) c.args.bucket c.publish-value.result c.publish-value.ensures.tells.tells c.if-value-eq0.false) in
    three_steps c.args.seat.now.me c.have_draft.new.seat.me c.publish-value.new.seat.me c.compare-2.new.seat.me (λ f g. Unit {0}) (λ f g. Publishes f g c.args.bucket c.publish-value.result)
    (λ f g. Compares f g c.args.text.now c.args.passed true c.compare-2.result) (λ f g. Gives f g c.args.text.now c.args.passed c.compare-2.result)
    (two_steps c.args.seat.now.me c.look-value.new.seat.me c.have_draft.new.seat.me (λ f g. Looks f g c.args.bucket c.look-value.result) (λ f g. Drafts f g (words_to_end c.args.text.now)) (λ f g. Unit {0})
    c.look-value.ensures.tells c.have_draft.ensures.tells tt)
    c.publish-value.ensures.tells c.compare-2.ensures.gives
    (compared_gives (own c.args.seat.now.me.0) (own c.publish-value.new.seat.me.0) (own c.compare-2.new.seat.me.0) c.args.text.now c.args.passed true c.compare-2.result kin c.compare-2.ensures.gives.tells)
