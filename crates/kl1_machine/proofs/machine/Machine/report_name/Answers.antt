use Rattle.kl1_machine.proofs.Words.{sym, ap, ◌∙◌, text_of, Term, atom, report, CellName, Atom, term_of-Atom, meaning, worked, turns_as, made}
use Rattle.kl1_machine.proofs.machine.Machine.report_name.Goals as goal

pub returns-clause-ok : goal.returns-clause-ok
returns-clause-ok c =
    let m = c.args.self.now in
    let h = m.store.held in
    let n = c.args.number in
    record {
      turns = λ ms.
          turns_as ms (λ f. report n (meaning f h (Atom c.of.result))) (λ f. report n (atom (text_of c.args.name))) h c.tell.new.self.store.held (made m) (made c.tell.new.self)
          (λ f knows s. ap (λ (t : Term). report n t (worked f s h (made m))) (sym (term_of-Atom f h c.of.result ∙ ap (λ (a : CellName). atom (f a)) c.of.ensures ∙ ap atom (knows.reads.texts c.args.name))))
          (c.in_ok-tell.ensures.ok.turns ms);
      machine = c.in_ok-tell.ensures.ok.machine;
      named = c.in_ok-tell.ensures.ok.named;
    }
