use Rattle.std.proofs.Common.{◌+◌, ◌<◌, sym, subst, arith, eqb, add-one}
use mathlib.Core.Option.{none}
use Rattle.atomic_table.specs.Table.{step, Allows}
use Rattle.kl1_atoms.specs.Rule.{Kept}
use Rattle.kl1_atoms.specs.Plays.{PublishesAt}
use prog.Atomic.{either}
use Rattle.kl1_atoms.proofs.Playing.{allows_publish}
use Rattle.kl1_atoms.proofs.atom_table.AtomTable.publish.Goals as goal

pub compare_exchange-requires : goal.compare_exchange-requires
compare_exchange-requires c =
    let i = c.args.bucket in
    let e = c.args.entry in
    let place : i < c.args.self.now.table.shared.table_id.words = (let s = c.args.self.now.size in omega arith) in
    let z = c.args.self.now.table.shared.table_id.slots in
    let me = c.args.seat.now.me in (
      c.requires.of,
      place,
      subst (λ k. Allows (Kept k) z c.args.seat.now.id me i (λ m. either (eqb m 0) (e + 1) m) (PublishesAt (step z i 0 (e + 1) none) me)) (sym c.args.self.now.key)
          (subst (λ x. Allows (Kept c.args.self.now.entries) z c.args.seat.now.id me i (λ m. either (eqb m 0) x m) (PublishesAt (step z i 0 x none) me)) (sym (add-one e))
          (allows_publish c.args.self.now.entries z c.args.seat.now.id i e me.0 me.1 c.requires.ready.0 c.requires.ready.1 c.requires.first c.requires.ready.2 c.requires.entry c.requires.bucket)),
    )
