-- What is told of an account that comes, by the journal from which it is restored.
use Rattle.std.proofs.Common.{◌≡◌, ℕ, inl, List, subst}
use Rattle.kl1_model.specs.declared.rules.Rules.{Rules}
use Rattle.kl1_journal_entries.specs.Lined.{Rows}
use Rattle.kl1_pool_tickets.specs.Counts.{Counts, Moved}
use Rattle.kl1_pool.specs.Names.{is_called}
use Rattle.kl1_pool.specs.declared.restoring.Restored.{Restored}
use Rattle.kl1_pool.specs.Restoring.{IsRestoredBySome, IsRestoredOf, events_of, steps_of}

-- it is restored from that journal, by the name that is given
pub comer_restored : (rules : Rules) (own name : List ℕ) (rows brings : Rows) (r : Restored) → own ≡ name → rows ≡ brings → IsRestoredBySome rules (is_called own) rows.journal r → IsRestoredOf rules (is_called name) brings.journal r
comer_restored rules own name rows brings r called is restored =
    let P : List ℕ → Type 0 = λ n. IsRestoredBySome rules (is_called n) rows.journal r in
    let Q : Rows → Type 0 = λ j. IsRestoredBySome rules (is_called name) j.journal r in
    inl (subst Q is (subst P called restored))

-- and counted, by the number that is given
pub comer_counted : (a b : ℕ) (rows brings : Rows) (r : Restored) (x y : Counts) → a ≡ b → rows ≡ brings → Moved a (events_of rows.journal.entries r) (steps_of rows.journal.entries r) 0 0 x y → Moved b (events_of brings.journal.entries r) (steps_of brings.journal.entries r) 0 0 x y
comer_counted a b rows brings r x y here is counted =
    let P : ℕ → Type 0 = λ k. Moved k (events_of rows.journal.entries r) (steps_of rows.journal.entries r) 0 0 x y in
    let Q : Rows → Type 0 = λ j. Moved b (events_of j.journal.entries r) (steps_of j.journal.entries r) 0 0 x y in
    subst Q is (subst P here counted)
