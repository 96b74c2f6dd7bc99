use Rattle.std.proofs.Common.{◌≡◌, ◌+◌, ◌-◌, [], ◌∷◌, ◌++◌, ap, ◌∙◌, List, length, map, arith}
use Rattle.std.specs.Prelude.{vec_len}
use Rattle.kl1_model_server.specs.Journal.{Entry, Journal}
use Rattle.kl1_journal_entries.specs.declared.packed_entry.PackedEntry.{PackedEntry}
use Rattle.kl1_journal_entries.specs.declared.packed_entry.PackedEntry.TheVariants as slot
use Rattle.kl1_journal_entries.specs.Lined.{Rows, lengthened}
use Rattle.kl1_journal_entries.specs.Slots.{entry_at}
use Rattle.kl1_journal_entries.proofs.Rows.{row_longer, row_begun}
use Rattle.kl1_journal_entries.proofs.journal.Journal.put_run.Goals as goal

-- the run that stood last is one longer
pub returns-then-before-gt0 : goal.returns-then-before-gt0
returns-then-before-gt0 c =
    let ws = c.self.inside.wholes.items in
    let ss = c.self.inside.slots.items in
    let n = vec_len c.self.inside.slots - 1 in
    let k = c.args.before in
    let J : List Entry → Journal = λ es. record { rules = c.self.inside.rules; sessions = c.self.inside.sessions; names = c.self.inside.names.items; image = []; entries = es } in
    let last : n ≡ length ss - 1 = (let o = c.self.inside.slots.ok in omega (arith, o)) in
    ap (λ (ts : List PackedEntry). J (map (entry_at ws) ts)) c.push_reserved.ensures.items
    ∙ ap (λ (ts : List PackedEntry). J (map (entry_at ws) (ts ++ slot.Run (k + 1) ∷ []))) c.pop.ensures.rest
    ∙ ap J (row_longer ws ss k n last c.if-before-gt0.true)
    ∙ ap (λ (r : Rows). let j : Journal = record r.journal { entries = lengthened r.journal.entries k } in j) c.self.view_is

-- a new run
pub returns-else-before-gt0 : goal.returns-else-before-gt0
returns-else-before-gt0 c =
    let ws = c.self.inside.wholes.items in
    let ss = c.self.inside.slots.items in
    let k = c.args.before in
    let J : List Entry → Journal = λ es. record { rules = c.self.inside.rules; sessions = c.self.inside.sessions; names = c.self.inside.names.items; image = []; entries = es } in
    let none : k ≡ 0 = omega (arith, c.if-before-gt0.false) in
    ap (λ (ts : List PackedEntry). J (map (entry_at ws) ts)) c.push_reserved-else-before-gt0.ensures.items
    ∙ ap J (row_begun ws ss k none)
    ∙ ap (λ (r : Rows). let j : Journal = record r.journal { entries = lengthened r.journal.entries k } in j) c.self.view_is
