use Rattle.std.proofs.Common.{◌∙◌, sym, subst}
use Rattle.std.proofs.lemmas.Bool.{false≢true}
use Rattle.atomic_table.specs.Table.{Me}
use Rattle.kl1_atoms.specs.declared.face.View.{View}
use Rattle.kl1_atoms.specs.Plays.{own, In}
use Rattle.kl1_atoms.proofs.Glancing.{learned_ends}
use Rattle.kl1_atoms.proofs.Rounding.{goes_on}
use Rattle.kl1_atoms.proofs.atom_table.AtomTable.compare.Goals as goal

pub returns-else-has_text-clause-gives : goal.returns-else-has_text-clause-gives
returns-else-has_text-clause-gives c =
    let seen = c.requires.seen in
    goes_on c.args.seat.now.me c.has_text.new.seat.me c.args.text.now c.args.self.now.entries c.args.passed c.args.bucket c.args.drafted seen.0 c.has_text.ensures.same c.requires.first
    c.requires.walks seen.1 seen.2 c.requires.way c.requires.entries
    (λ e. false≢true (sym c.if-has_text.false ∙ (c.has_text.ensures.is seen.0 seen.1 seen.3 seen.4).1 e)) c.requires.small

pub learn-requires-clause-seen : goal.learn-requires-clause-seen
learn-requires-clause-seen c =
    let seen = c.requires.seen in (seen.0, subst (λ (m : Me (Unit {0}) View). In (own m.0).heard seen.0) (sym c.has_text.ensures.same) seen.1, seen.2)

pub returns-then-has_text-clause-gives : goal.returns-then-has_text-clause-gives
returns-then-has_text-clause-gives c =
    let seen = c.requires.seen in
    learned_ends c.args.seat.now.me c.has_text.new.seat.me c.learn.new.seat.me c.args.text.now c.args.self.now.entries c.args.passed c.args.bucket c.args.entry c.args.drafted seen.0 c.has_text.ensures.same c.learn.ensures.tells
    c.requires.walks seen.1 seen.2 seen.3 ((c.has_text.ensures.is seen.0 seen.1 seen.3 seen.4).0 c.if-has_text.true) c.requires.entries c.requires.entry c.requires.small
