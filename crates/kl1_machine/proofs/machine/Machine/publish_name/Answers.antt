use Rattle.kl1_machine.proofs.Words.{refl, sym, subst, arith, Option, Some, Known, still_known, HasRoom, Spelled, keeps_same, adds_to, IsBoundLast, Patches, IsNewName, most_names}
use Rattle.std.specs.Prelude.{List}
use Rattle.kl1_machine.proofs.Publishing.{IsNumbered, room_for_name, named_one, published_none, published_one}
use Rattle.kl1_machine.proofs.machine.Machine.publish_name.Given as given
use Rattle.kl1_machine.proofs.machine.Machine.publish_name.Goals as goal
use Rattle.kl1_machine.proofs.machine.Machine.publish_name.Goals.{After-of_number}

pub returns-in_default-clause-table : goal.returns-in_default-clause-table
returns-in_default-clause-table g c = keeps_same g.A.AtomSource.is_of g.A.AtomSource.place g.A.AtomSource.knows g.A.AtomSource.published c.args.names.now c.args.seat.now c.requires.of

pub returns-in_default-clause-published : goal.returns-in_default-clause-published
returns-in_default-clause-published g c = published_none c.args.self.now c.in_default.is c.requires.can

pub intern-number-requires-clause-room : goal.intern-number-requires-clause-room
intern-number-requires-clause-room g c =
    let m = c.args.self.now in
    let new : IsNewName (most_names m) m.names.names (Some c.in-Some.text) = rw c.in-Some.is at c.requires.can.name in
    let room = (g.A.AtomSource.place c.args.seat.now).0.1 in
    subst (λ (ks : List Known). HasRoom room ks c.in-Some.text) (sym c.requires.knows) (room_for_name (most_names m) room m.names.names c.in-Some.text new.1.0 new.1.1 c.requires.names)

pub rebind_constant-requires-clause-bound : goal.rebind_constant-requires-clause-bound
rebind_constant-requires-clause-bound g c = subst (λ (o : Option Spelled). IsBoundLast o c.args.self.now.store.held) c.in-Some-spelled.is c.requires.can.last

pub returns-in_default-spelled-clause-table : goal.returns-in_default-spelled-clause-table
returns-in_default-spelled-clause-table g c = let i = c.intern-number.ensures in record { of = i.of; stays = i.place; others = i.others; grows = still_known _ c.in-Some.text c.intern-number.result _ i.adds; publishes = i.publishes }

pub returns-in-Some-spelled-clause-table : goal.returns-in-Some-spelled-clause-table
returns-in-Some-spelled-clause-table g c = let i = c.intern-number.ensures in record { of = i.of; stays = i.place; others = i.others; grows = still_known _ c.in-Some.text c.intern-number.result _ i.adds; publishes = i.publishes }

-- the name has its number
numbered : (g : given.Over) (c : goal.After-of_number g) → IsNumbered c.args.self.now.names.names c.learn.new.self.names (Some c.in-Some.text) c.of_number.result
numbered g c =
    let known = c.args.self.now.names.names in
    let t = c.in-Some.text in
    let a = c.intern-number.result in
    let new : IsNewName (most_names c.args.self.now) known (Some t) = rw c.in-Some.is at c.requires.can.name in
    let adds = adds_to g.A.AtomSource.knows c.args.seat.now c.intern-number.new.seat known c.learn.new.self.names t a c.requires.knows c.learn.ensures.names c.intern-number.ensures.adds in
    named_one known c.learn.new.self.names t a c.of_number.result new.1.0 c.requires.can.small (omega arith) c.of_number.ensures adds.1

pub returns-in_default-spelled-clause-published : goal.returns-in_default-spelled-clause-published
returns-in_default-spelled-clause-published g c =
    let m = c.args.self.now in
    let k = c.of_number.result in
    published_one m c.learn.new.self m.store c.in-Some.text k c.in-Some.is (numbered g (goal.at.returns-in_default-spelled-clause-published g c).After-of_number) (subst (λ (o : Option Spelled). Patches o k m.store.held m.store.held) (sym c.in_default-spelled.is) refl) refl

pub returns-in-Some-spelled-clause-published : goal.returns-in-Some-spelled-clause-published
returns-in-Some-spelled-clause-published g c =
    let m = c.args.self.now in
    let k = c.of_number.result in
    let store = c.rebind_constant.new.self in
    let r = c.rebind_constant.ensures in
    published_one m c.learn.new.self store c.in-Some.text k c.in-Some.is (numbered g (goal.at.returns-in-Some-spelled-clause-published g c).After-of_number) (subst (λ (o : Option Spelled). Patches o k m.store.held store.held) (sym c.in-Some-spelled.is) r.held) r.hooks
