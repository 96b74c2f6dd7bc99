use Rattle.kl1_machine.proofs.Words.{◌≡◌, List, sym, ◌∙◌, arith, subst, Some, on_ok_weaker, CellName, Qualified, taken_places, priorities_by, on_ok_both, never_absent, found_shoen_in, with_goals}
use Rattle.kl1_machine.proofs.Keeping.{Grows, grown_machine}
use Rattle.kl1_machine.proofs.Sincing.{still, since_store, since_counts}
use Rattle.kl1_machine.proofs.Bodies.{commits_exhausted, commits_body, with_needs, needs_machine}
use Rattle.kl1_machine.proofs.machine.Machine.commit.Goals as goal

pub unreachable-requires : goal.unreachable-requires
unreachable-requires c =
    let low = c.requires.owned.low in
    let high = c.requires.owned.high in
    never_absent 0 c.args.goal.now.shoen c.args.self.now.shoens.shoens c.len-numbered.ensures.numbered low (omega (arith, high)) (sym c.in_default.ensures.value)

pub put_each-requires : goal.put_each-requires
put_each-requires c =
    let m = c.args.self.now in
    let e = c.in_ok-commit.ensures in
    let number = c.in-Some.ensures.number in
    let low = c.requires.owned.low in
    let high = c.requires.owned.high in
    let parent = found_shoen_in m.store.held c.args.goal.now.shoen m.shoens.shoens c.in-Some.lent.now c.requires.machine.inside.shoens (sym c.in-Some.ensures.value) in
    record {
      machine = needs_machine c.needs_of-needs.result _ (grown_machine m c.commit.new.store (record { grown = e.grown; hooks = e.hooks }) c.requires.machine);
      low = omega (arith, number, low);
      high = omega (arith, number, high);
      level = c.requires.level;
      least = parent.low;
      most = parent.high;
      cells = rw c.deref.ensures.value e.inside;
    }

pub returns-then-not-has_room-clause-ok : goal.returns-then-not-has_room-clause-ok
returns-then-not-has_room-clause-ok c =
    on_ok_weaker c.raise.result
    (commits_exhausted (record { predicate = c.args.predicate; place = c.args.place; places = taken_places c.args.trial.now }) c.args.goal.now c.args.cell c.args.self.now c.raise.new.self c.needs_of-needs.result c.needs_of-needs.ensures (sym c.has_room.ensures ∙ c.if-not-has_room.true))
    c.raise.ensures.ok

pub returns : goal.returns
returns c =
    let m = c.args.self.now in
    let k = c.commit.new.store in
    let e = c.in_ok-commit.ensures in
    let n = c.needs_of-needs.result in
    let sh = c.in-Some.lent.now in
    let cells = c.commit.new.goals.items in
    let ps = c.priorities_of.result.now in
    let u = c.put_each.new.self in
    let G : List (Qualified CellName) → Type 0 = λ xs. u ≡ with_goals sh.number (priorities_by (Some sh) c.args.goal.now.priority ps) xs (with_needs n (record m { store = k })) in
    let grows : Grows m k = record { grown = e.grown; hooks = e.hooks } in
    record {
      ok =
          on_ok_both c.put_each.result
          (λ after is. commits_body (record { predicate = c.args.predicate; place = c.args.place; places = taken_places c.args.trial.now }) c.args.goal.now c.args.cell m k sh ps cells n u
          (record {
            machine = c.requires.machine;
            owned = c.requires.owned;
            found = sym c.in-Some.ensures.value;
            number = c.in-Some.ensures.number;
            needs = c.needs_of-needs.ensures;
            room = sym c.has_room.ensures ∙ c.if-not-has_room.false;
            grows = grows;
            inside = e.inside;
            priorities = c.priorities_of.ensures;
            body = e.goals;
          })
          (record { is = subst G c.deref.ensures.value is; machine = after }))
          c.put_each.ensures.machine c.put_each.ensures.ok;
      since = λ b s. c.put_each.ensures.since b (since_counts b (record m { store = k }) _ _ m.counts.reports (since_store b m k grows s));
    }

pub returns-in_err-commit-clause-since : goal.returns-in_err-commit-clause-since
returns-in_err-commit-clause-since c b s = still c.from_residual.result b _ (since_store b c.args.self.now c.commit.new.store (record { grown = c.commit.ensures.grown; hooks = c.commit.ensures.hooks }) s)
