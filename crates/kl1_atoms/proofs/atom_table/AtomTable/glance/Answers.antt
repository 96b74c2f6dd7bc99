use Rattle.kl1_atoms.proofs.Glancing.{glance_free, glance_other}
use Rattle.kl1_atoms.proofs.atom_table.AtomTable.glance.Goals as goal

pub returns-then-value-eq0-clause-tells : goal.returns-then-value-eq0-clause-tells
returns-then-value-eq0-clause-tells c =
    glance_free c.args.seat.now.me c.look-value.new.seat.me c.args.text.now c.args.self.now.entries c.args.passed c.args.bucket c.look-value.result c.look-value.ensures.tells c.if-value-eq0.true
    c.requires.entries c.requires.way c.requires.few c.requires.passed

pub returns-clause-tells : goal.returns-clause-tells
returns-clause-tells c =
    glance_other c.args.seat.now.me c.look-value.new.seat.me c.has_text.new.seat.me c.args.text.now c.args.self.now.entries c.args.passed c.args.bucket c.look-value.result c.has_text.result
    c.look-value.ensures.tells c.if-value-eq0.false c.requires.entries c.requires.way c.requires.few c.requires.passed c.has_text.ensures.same c.has_text.ensures.is c.if-has_text.false
