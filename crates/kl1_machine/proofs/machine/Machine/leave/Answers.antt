use Rattle.kl1_machine.proofs.Words.{◌≡◌, sym, ap, ◌∙◌, List, None, left_by, leaving, leaving_in, CellName, Shoen, changed, shoens_changed, changed_count, having_shoens}
use Rattle.kl1_machine.proofs.Shoens.{becomes_so, since_leaves, unleaving}
use Rattle.kl1_machine.proofs.machine.Machine.leave.Goals as goal

pub returns-in_default-clause-ok : goal.returns-in_default-clause-ok
returns-in_default-clause-ok c =
    let m = c.args.self.now in
    let none : left_by m.rules ≡ None = sym c.left.ensures ∙ c.in_default.is in
    let same : changed c.args.number (leaving m.rules) m.shoens.shoens ≡ m.shoens.shoens = unleaving m.rules c.args.number none m.shoens.shoens in
    record { is = ap (λ (hs : List (Shoen CellName)). having_shoens hs m) (sym same); machine = c.requires.machine }

pub returns : goal.returns
returns c =
    let m = c.args.self.now in
    let n = c.args.number in
    let e = c.len-numbered.ensures in
    let ok = rw (sym (sym c.left.ensures ∙ c.in-Some.is)) at c.leave.ensures.ok in
    record {
      ok =
          becomes_so c.leave.result m c.leave.new.self (changed n (leaving m.rules) m.shoens.shoens) m.shifts m.told
          (shoens_changed m.store.held n (leaving m.rules) (leaving_in m.rules m.store.held) m.shoens.shoens c.requires.machine.inside.shoens)
          (changed_count n (leaving m.rules) m.shoens.shoens) c.requires.machine ok;
      since = λ b.
          since_leaves c.leave.result b m c.leave.new.self n c.requires.monitor (record { numbered = e.numbered; lower = e.lower; worked = e.worked })
          c.requires.machine ok c.leave.ensures.err;
    }
