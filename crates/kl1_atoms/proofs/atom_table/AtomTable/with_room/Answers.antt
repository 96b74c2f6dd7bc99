use Rattle.std.proofs.Common.{◌≡◌, ℕ, ◌*◌, List, length, replicate, slice_index, ap, ◌∙◌, refl, rules}
use Rattle.kl1_atoms.specs.Rule.{words_each}
use Rattle.kl1_atoms.proofs.Seating.{kept_first, zeros-length, zeros-index}
use Rattle.kl1_atoms.proofs.atom_table.AtomTable.with_room.Goals as goal

pub of_words-requires : goal.of_words-requires
of_words-requires c =
    let n = c.args.accounts * c.args.room in
    let e : c.as_slice.result.now ≡ replicate (words_each * n) 0 = c.as_slice.ensures.value ∙ c.in_ok-zeros.ensures.items_if_clones_equal (search rules) in
    kept_first (record { entries = n; room = c.args.room; accounts = c.args.accounts }) c.as_slice.result.now refl (ap length e ∙ zeros-length (words_each * n))
    (λ i. ap (λ (ws : List ℕ). slice_index ws i) e ∙ zeros-index (words_each * n) i)
