use Rattle.std.proofs.Common.{ℕ, ◌<◌, sym, subst, arith, refl}
use mathlib.Core.Option.{none}
use Rattle.atomic_table.specs.Table.{step, Allows}
use Rattle.kl1_text.specs.Words.{name_words}
use Rattle.kl1_atoms.specs.Rule.{Kept, word_place}
use Rattle.kl1_atoms.specs.Plays.{DraftsAt}
use Rattle.kl1_atoms.proofs.Playing.{allows_draft}
use Rattle.kl1_atoms.proofs.atom_table.AtomTable.draft.Goals as goal

pub store-requires : goal.store-requires
store-requires c =
    let i : ℕ = word_place c.args.self.now.entries c.args.entry c.args.word in
    let place : i < c.args.self.now.table.shared.table_id.words = (let s = c.args.self.now.size in omega arith) in
    let z = c.args.self.now.table.shared.table_id.slots in
    let me = c.args.seat.now.me in (
      c.requires.of,
      place,
      subst (λ k. Allows (Kept k) z c.args.seat.now.id me i (λ m. c.args.value) (λ m. DraftsAt (step z i c.args.value 0 none) me c.args.value)) (sym c.args.self.now.key)
          (allows_draft c.args.self.now.entries z c.args.seat.now.id i c.args.value me.0 me.1 c.requires.first c.requires.room
          (subst (λ l. l < name_words) c.requires.next c.requires.word)
          (rw (c.requires.entries, ← c.requires.entry, ← c.requires.next) refl)),
    )
