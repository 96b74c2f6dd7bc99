use Rattle.std.proofs.Common.{ℕ, Bool, if◌then◌else◌, length, sym, ap, subst, ◌∙◌, arith}
use Rattle.std.proofs.lemmas.Bool.{lt-ltb, le-ltb}
use Rattle.kl1_model.specs.declared.limits.TheConstants.{MOST_RUN}
use Rattle.kl1_model_server.specs.Journal.{run_length}
use Rattle.kl1_journal_entries.specs.declared.packed_entry.PackedEntry.{PackedEntry}
use Rattle.kl1_journal_entries.specs.Lined.{if_longer}
use Rattle.kl1_journal_entries.specs.Slots.{entry_at, IsPlace}
use Rattle.kl1_journal_entries.proofs.Rows.{kept_run}
use Rattle.kl1_journal_entries.proofs.journal.run_of.Goals as goal

-- the longest run
pub returns-then-reductions-clause-run : goal.returns-then-reductions-clause-run
returns-then-reductions-clause-run c = λ rules wholes place sound.
    let n = c.in-Run.reductions in
    ap (λ (b : Bool). if◌then◌else◌ {A = ℕ} b n 0) (sym (le-ltb n MOST_RUN (omega (arith, c.if-reductions.true))))
    ∙ ap (λ (s : PackedEntry). if_longer (run_length (entry_at wholes s))) (sym c.in-Run.is)

pub returns-else-reductions-clause-run : goal.returns-else-reductions-clause-run
returns-else-reductions-clause-run c = λ rules wholes place sound.
    let n = c.in-Run.reductions in
    ap (λ (b : Bool). if◌then◌else◌ {A = ℕ} b n 0) (sym (lt-ltb n MOST_RUN (omega (arith, c.if-reductions.false))))
    ∙ ap (λ (s : PackedEntry). if_longer (run_length (entry_at wholes s))) (sym c.in-Run.is)

pub returns-in-Kept-clause-run : goal.returns-in-Kept-clause-run
returns-in-Kept-clause-run c = λ rules wholes place sound.
    kept_run rules wholes c.in-Kept.field-0 (subst (IsPlace (length wholes)) c.in-Kept.is place) sound
    ∙ ap (λ (s : PackedEntry). if_longer (run_length (entry_at wholes s))) (sym c.in-Kept.is)
