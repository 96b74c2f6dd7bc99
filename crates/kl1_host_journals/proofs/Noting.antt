-- A journal that was noted in a history.
use Rattle.std.proofs.Common.{◌≡◌, ℕ, suc, ◌+◌, ◌≤◌, ◌<◌, List, [], ◌∷◌, ◌++◌, length, inl, inr, ◌⊎◌, sym, ap, ◌∙◌, subst, arith}
use Rattle.std.proofs.lemmas.Bool.{cases_lt}
use mathlib.Core.List.{IsPrefix}
use Rattle.kl1_model_server.specs.Journal.{Journal}
use Rattle.kl1_journal_entries.specs.Lined.{Rows}
use Rattle.kl1_model_server.specs.JournalText.{lines_of as lines_in}
use Rattle.kl1_log.specs.Batches.{text_after, bytes_of}
use Rattle.kl1_log.specs.Deeds.{HasSums, IsFile}
use Rattle.kl1_journal_stamps.specs.Later.{IsLater}
use Rattle.kl1_journal_stamps.specs.Stamps.{ComesAfter}
use Rattle.kl1_log.specs.Waits.{IsUpTo, CountsOn, Fits, mark_of}
use Rattle.kl1_log.specs.declared.change.Change.{Change}
use Rattle.kl1_log.specs.declared.change.Change.TheVariants.{Appends, Begins}
use Rattle.kl1_host_journals.specs.declared.edition.Edition.{Edition}
use Rattle.kl1_host_journals.specs.declared.notes.Notes.{Notes}
use Rattle.kl1_host_journals.specs.Drafts.{edition_over}
use Rattle.kl1_host_journals.specs.Editions.{last_of, lines_of, run_of, StandsIn, Follows, MayFollow, IsEdited, IsUpToDate}
use Rattle.kl1_host_journals.specs.Notes.{waiting_of, generation_of, number_of, change_of, TakesIn}
use Rattle.kl1_host_journals.specs.Notings.{IsNotedOver, IsMarked}
use Rattle.kl1_host_journals.proofs.Chains.{last_snoc}

-- a journal has grown in its generation
pub taken_in_grown : (old new : Notes) (j : Journal) (g : ℕ) → ((text : List ℕ) (before : Journal) → IsUpTo (waiting_of old) text before → IsLater before j → IsUpTo (waiting_of new) text j) → CountsOn (waiting_of old) (waiting_of new)
    → ((text : List ℕ) → IsPrefix (text_after text (change_of old)) (text_after text (change_of new))) → g ≡ generation_of old → generation_of new ≡ generation_of old → TakesIn old new j g
taken_in_grown old new j g up counts longer same kept = record {
  file = λ text before is grows. up text before is (grows same);
  now = kept ∙ sym same;
  counts = counts;
  longer = λ _. longer;
  one = λ other. absurd (other same);
}

-- a journal has begun anew
pub taken_in_anew : (old new : Notes) (j : Journal) (g : ℕ) → ((text : List ℕ) → IsUpTo (waiting_of new) text j) → CountsOn (waiting_of old) (waiting_of new) → number_of new ≡ number_of old + 1 → (g ≡ generation_of old → ⊥) → generation_of new ≡ g → TakesIn old new j g
taken_in_anew old new j g up counts one other at = record {
  file = λ text before is grows. up text;
  now = at;
  counts = counts;
  longer = λ same. absurd (other same);
  one = λ _. one;
}

-- it isn't of a past generation
same_by : (old new : Notes) (j : Journal) (g : ℕ) (base : List ℕ) (last : Edition) (r : Rows) → IsNotedOver base old last → TakesIn old new j g → generation_of old ≤ g
    → (generation_of old < g) ⊎ (g ≤ generation_of old) → (number_of new ≡ suc (number_of old)) ⊎ ((number_of new ≡ number_of old) × ((text : List ℕ) → text_after text (change_of new) ≡ text_after text (change_of old)))
    → last.number ≡ number_of new → (last.generation ≡ generation_of new) × (last.text ≡ text_after base (change_of new))
same_by old new j g base last r is t past way (inl more) at = absurd (let n = is.number in omega (arith, more, at, n))
same_by old new j g base last r is t past (inl less) (inr same) at =
    absurd (let one = t.one (λ (e : g ≡ generation_of old). omega (arith, e, less)) in let s = same.0 in omega (arith, one, s))
same_by old new j g base last r is t past (inr le) (inr same) at =
    (let now = t.now in let gen = is.generation in omega (arith, le, past, now, gen), is.text ∙ sym (same.1 base))

stands_by : (old new : Notes) (j : Journal) (g : ℕ) (base : List ℕ) (last : Edition) (r : Rows) → IsNotedOver base old last → TakesIn old new j g → generation_of old ≤ g
    → (generation_of old < g) ⊎ (g ≤ generation_of old) → StandsIn last (edition_over base new r)
stands_by old new j g base last r is t past (inl less) = inl (let now = t.now in let gen = is.generation in omega (arith, less, now, gen))
stands_by old new j g base last r is t past (inr le) =
    let same : g ≡ generation_of old = omega (arith, le, past) in
    inr (
      is.generation ∙ sym same ∙ sym t.now,
      subst (λ (x : List ℕ). IsPrefix x (text_after base (change_of new))) (sym is.text) (t.longer same base),
    )

number_by : (old new : Notes) (last : Edition) → last.number ≡ number_of old → (number_of new ≡ suc (number_of old)) ⊎ ((number_of new ≡ number_of old) × ((text : List ℕ) → text_after text (change_of new) ≡ text_after text (change_of old))) → last.number ≤ number_of new
number_by old new last is (inl more) = omega (arith, is, more)
number_by old new last is (inr same) = let s = same.0 in omega (arith, is, s)

no_past : (g h : ℕ) (j k : Journal) → ComesAfter g j h k → g ≤ h
no_past g h j k (inl less) = omega (arith, less)
no_past g h j k (inr p) = let same = p.0 in omega (arith, same)

grown_in : (g h : ℕ) (j k : Journal) → ComesAfter g j h k → g ≡ h → IsLater j k
grown_in g h j k (inl less) same = absurd (omega (arith, less, same))
grown_in g h j k (inr p) same = p.1

pub note_follows : (old new : Notes) (j : Journal) (g : ℕ) (base : List ℕ) (last : Edition) (r : Rows) → IsNotedOver base old last → TakesIn old new j g → ComesAfter last.generation last.journal.journal g j → r.journal ≡ j → Follows last (edition_over base new r)
note_follows old new j g base last r is t after same =
    let past : generation_of old ≤ g = (let le = no_past last.generation g last.journal.journal j after in let gen = is.generation in omega (arith, le, gen)) in
    record {
      number = number_by old new last is.number t.counts.noted;
      same = same_by old new j g base last r is t past (cases_lt (generation_of old) g) t.counts.noted;
      text = stands_by old new j g base last r is t past (cases_lt (generation_of old) g);
      grown = λ (at : last.generation ≡ generation_of new). subst (IsLater last.journal.journal) (sym same) (grown_in last.generation g last.journal.journal j after (at ∙ t.now));
    }

-- so, after editions of which there is one at least
pub note_may_follow : (log : List Edition) (old new : Notes) (j : Journal) (g : ℕ) (base : List ℕ) (r : Rows) → IsNotedOver base old (last_of log) → TakesIn old new j g → ComesAfter (last_of log).generation (last_of log).journal.journal g j → r.journal ≡ j → MayFollow log (edition_over base new r)
note_may_follow [] old new j g base r is t after same = tt
note_may_follow (d ∷ ds) old new j g base r is t after same = note_follows old new j g base (last_of (d ∷ ds)) r is t after same

pub last_edited : (log : List Edition) → 1 ≤ length log → IsUpToDate log → IsEdited (last_of log)
last_edited [] some e = absurd (omega (arith, some))
last_edited (d ∷ ds) some e = e

pub edited_last : (log : List Edition) → IsEdited (last_of log) → IsUpToDate log
edited_last [] e = tt
edited_last (d ∷ ds) e = e

-- whole lines may be put to a file in which each line has its sum
fits_by : (base : List ℕ) (change : Change) → HasSums base → (lines_in (bytes_of change)).rest ≡ [] → Fits base change
fits_by base (Appends bytes) sums whole = (sums, whole)
fits_by base (Begins bytes) sums whole = whole

-- what waits makes of the file one of the journal that was noted now
pub note_up_to : (log : List Edition) (old new : Notes) (j : Journal) (g : ℕ) (base : List ℕ) → 1 ≤ length log → IsNotedOver base old (last_of log) → TakesIn old new j g → ComesAfter (last_of log).generation (last_of log).journal.journal g j → IsUpToDate log → IsMarked old log → HasSums base
    → IsUpTo (waiting_of new) base j
note_up_to log old new j g base some is t after dated marked sums =
    let last = last_of log in
    let up : IsUpTo (waiting_of old) base last.journal.journal = record {
      file = subst (λ (x : List ℕ). IsFile x last.journal.journal) is.text (last_edited log some dated);
      fits = fits_by base (change_of old) sums (waiting_of old).whole;
      mark = record { lines = marked.lines; run = marked.run };
    } in
    t.file base last.journal.journal up (λ (at : g ≡ generation_of old). grown_in last.generation g last.journal.journal j after (is.generation ∙ sym at))

pub note_dated : (log : List Edition) (new : Notes) (j : Journal) (base : List ℕ) (r : Rows) → r.journal ≡ j → IsUpTo (waiting_of new) base j → IsUpToDate (log ++ edition_over base new r ∷ [])
note_dated log new j base r same up =
    let e = edition_over base new r in
    edited_last (log ++ e ∷ []) (subst IsEdited (sym (last_snoc log e)) (subst (IsFile (text_after base (change_of new))) (sym same) up.file))

-- the mark is at the end of the journal that was noted now
pub note_lines : (log : List Edition) (new : Notes) (j : Journal) (base : List ℕ) (r : Rows) → r.journal ≡ j → IsUpTo (waiting_of new) base j → (mark_of (waiting_of new)).lines ≡ lines_of (last_of (log ++ edition_over base new r ∷ []))
note_lines log new j base r same up = up.mark.lines ∙ sym (ap lines_of (last_snoc log (edition_over base new r)) ∙ ap (λ (x : Journal). lines_of (edition_over base new (record { journal = x; room = 0 }))) same)

pub note_run : (log : List Edition) (new : Notes) (j : Journal) (base : List ℕ) (r : Rows) → r.journal ≡ j → IsUpTo (waiting_of new) base j → (mark_of (waiting_of new)).run ≡ run_of (last_of (log ++ edition_over base new r ∷ []))
note_run log new j base r same up = up.mark.run ∙ sym (ap run_of (last_snoc log (edition_over base new r)) ∙ ap (λ (x : Journal). run_of (edition_over base new (record { journal = x; room = 0 }))) same)

-- the first edition of a history
pub first_dated : (n : Notes) (bytes : List ℕ) (r : Rows) (j : Journal) → r.journal ≡ j → IsUpTo (waiting_of n) bytes j → IsUpToDate ([] ++ edition_over bytes n r ∷ [])
first_dated n bytes r j same up = subst (IsFile (text_after bytes (change_of n))) (sym same) up.file

-- each line has its sum in what the file is to hold
pub dated_sums : (log : List Edition) → 1 ≤ length log → IsUpToDate log → HasSums (last_of log).text
dated_sums log some dated = (last_edited log some dated).sums
