use Rattle.kl1_machine.proofs.Words.{◌≡◌, ℕ, suc, length, sym, ap, ◌∙◌, arith, on_ok_weaker, clipped, CellName, Shoen, found_shoen_in, never_absent, clipped_low, child_of, one_order}
use Rattle.kl1_machine.proofs.Opening.{IsChild, child_refused, child_opened}
use Rattle.kl1_machine.proofs.machine.Machine.open_child.Goals as goal

pub unreachable-requires : goal.unreachable-requires
unreachable-requires c =
    let low = c.requires.owned.low in
    let high = c.requires.owned.high in
    never_absent 0 c.args.goal.shoen c.args.self.now.shoens.shoens c.len.ensures.numbered low (omega (arith, high)) (sym c.lend.ensures.value ∙ (sym c.copied.ensures ∙ c.in_default.is))

pub open_shoen-requires-clause-number : goal.open_shoen-requires-clause-number
open_shoen-requires-clause-number c = let number = c.in_ok-number.ensures in let count = c.len.ensures.value in omega (arith, number, count)

pub open_shoen-requires-clause-shoen : goal.open_shoen-requires-clause-shoen
open_shoen-requires-clause-shoen c =
    let m = c.args.self.now in
    let parent = c.in-Some.parent in
    let found = found_shoen_in m.store.held c.args.goal.shoen m.shoens.shoens parent c.requires.machine.inside.shoens (sym c.lend.ensures.value ∙ (sym c.copied.ensures ∙ c.in-Some.is)) in
    let inside = c.order_at-order.ensures.inside in
    record {
      control = inside.control_in;
      tail = inside.reports_in;
      origin = tt;
      low = rw c.clipped_in.ensures (clipped_low parent.low parent.high c.number_at-2.result found.low found.high);
      high = rw c.clipped_in-2.ensures (clipped_low parent.low parent.high c.number_at-3.result found.low found.high);
    }

pub returns-then-not-may_open-clause-ok : goal.returns-then-not-may_open-clause-ok
returns-then-not-may_open-clause-ok c =
    on_ok_weaker c.raise.result (child_refused c.args.structure c.args.goal c.args.cell c.args.self.now c.raise.new.self (sym c.may_open.ensures ∙ c.if-not-may_open.true)) c.raise.ensures.ok

pub returns-clause-ok : goal.returns-clause-ok
returns-clause-ok c =
    let m = c.args.self.now in
    let o = c.order_at-order.result in
    let parent = c.in-Some.parent in
    let made : ℕ → Shoen CellName = λ n. record (child_of m.shoens.shoens c.args.goal o c.number_at.result c.clipped_in.result c.clipped_in-2.result) { number = n } in
    let number : c.in_ok-number.number ≡ suc (length m.shoens.shoens) = (let next = c.in_ok-number.ensures in let count = c.len.ensures.value in omega (arith, next, count)) in
    let child : IsChild c.args.structure c.args.goal m parent o (made c.in_ok-number.number) =
    record {
      room = sym c.may_open.ensures ∙ c.if-not-may_open.false;
      there = sym c.lend.ensures.value ∙ (sym c.copied.ensures ∙ c.in-Some.is);
      allowance = λ f. c.number_at.ensures f;
      low = λ f. c.clipped_in.ensures ∙ ap (clipped parent.low parent.high) (c.number_at-2.ensures f);
      high = λ f. c.clipped_in-2.ensures ∙ ap (clipped parent.low parent.high) (c.number_at-3.ensures f);
      is = ap made number;
      one = λ p order. one_order m.store.held c.args.structure p o c.order_at-order.ensures.order order;
    } in
    on_ok_weaker c.open_shoen.result (child_opened c.args.structure c.args.goal c.args.cell m c.open_shoen.new.self parent o (made c.in_ok-number.number) child) c.open_shoen.ensures.ok
