use Rattle.kl1_machine.proofs.Words.{refl, ap, ◌∙◌, Some, CellName, Atom, Point, with_binding, Grown-binding}
use Rattle.kl1_machine.proofs.Keeping.{Grows, grown_machine}
use Rattle.kl1_machine.proofs.Sincing.{still, since_store, since_spelled}
use Rattle.kl1_machine.proofs.Naming.{free_unbound}
use Rattle.kl1_machine.proofs.machine.Machine.bind_spare.Goals as goal
use Rattle.kl1_machine.proofs.Unifying.{same_grows}

pub unify_constant-requires-clause-unbound : goal.unify_constant-requires-clause-unbound
unify_constant-requires-clause-unbound c = free_unbound c.args.variable c.args.self.now.store.held c.requires.free c.mark-before.ensures.formed c.requires.within

pub returns : goal.returns
returns c =
    let m = c.args.self.now in
    let h = m.store.held in
    let k = c.unify_constant.new.self in
    let v = c.args.variable in
    let e = c.in_ok-unify_constant.ensures in
    let formed = c.mark-before.ensures.formed in
    let grows : Grows m k = record { grown = rw e.held (Grown-binding h v (Atom c.spare.result)); hooks = e.hooks } in
    let i = grown_machine m k grows c.requires.machine in
    record {
      ok = record {
        point = c.mark-before.result;
        marked = ap (λ (y : Point). y.sizes) c.mark-before.ensures.point;
        formed = formed;
        within = c.requires.within;
        unbound = free_unbound v h c.requires.free formed c.requires.within;
        bound = e.held ∙ ap (λ n. let a : CellName = record { number = n } in with_binding h v (Atom a)) c.spare.ensures;
        hooks = e.hooks;
        rest = refl;
        machine = record { inside = i.inside; last = i.last; placed = i.placed; known = i.known };
      };
      since = λ b s. since_spelled b (record m { store = k }) (Some (record { variable = v; before = c.mark-before.result })) (since_store b m k grows s);
    }

pub returns-in_err-unify_constant-clause-since : goal.returns-in_err-unify_constant-clause-since
returns-in_err-unify_constant-clause-since c b s =
    let m = c.args.self.now in
    let k = c.unify_constant.new.self in
    still c.from_residual.result b _ (since_store b m k (same_grows m k c.in_err-unify_constant.ensures.err c.unify_constant.ensures.hooks) s)
