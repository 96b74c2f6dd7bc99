use Rattle.kl1_machine.proofs.Words.{◌==◌, false, refl, sym, ◌∙◌, found_shoen_in, tail_is, tail_variable, tail_other}
use Rattle.kl1_machine.proofs.Naming.{breaks_unless}
use Rattle.kl1_machine.proofs.machine.Machine.is_tail.Goals as goal

pub walk-requires : goal.walk-requires
walk-requires c = (found_shoen_in c.args.self.now.store.held c.args.number c.args.self.now.shoens.shoens c.in-Some.shoen c.requires.inside.shoens (sym c.lend.ensures.value ∙ (sym c.copied.ensures ∙ c.in-Some.is))).tail

pub returns-in-Variable : goal.returns-in-Variable
returns-in-Variable c = λ f. tail_is c.args.self.now.store.held f c.args.number c.args.variable c.args.self.now.shoens.shoens c.in-Some.shoen c.walk.result (c.in-Variable.other == c.args.variable) (sym c.lend.ensures.value ∙ (sym c.copied.ensures ∙ c.in-Some.is)) c.if-shoen.false (c.walk.ensures.means f)
    (tail_variable c.args.self.now.store.held f c.args.variable c.in-Variable.other c.walk.result c.in-Variable.is c.walk.ensures.walked)

pub returns-in_default-walk : goal.returns-in_default-walk
returns-in_default-walk c = λ f. tail_is c.args.self.now.store.held f c.args.number c.args.variable c.args.self.now.shoens.shoens c.in-Some.shoen c.walk.result false (sym c.lend.ensures.value ∙ (sym c.copied.ensures ∙ c.in-Some.is)) c.if-shoen.false (c.walk.ensures.means f)
    (tail_other c.args.self.now.store.held f c.args.variable c.walk.result c.walk.result c.mark-formed.ensures.formed c.walk.ensures.inside refl (breaks_unless c.walk.result c.in_default-walk.not-Variable))
