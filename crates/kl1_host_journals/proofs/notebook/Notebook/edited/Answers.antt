use Rattle.std.proofs.Common.{◌≡◌, ℕ, List, [], ◌∷◌, length, sym, ap, ◌∙◌, subst, arith, length-append}
use Rattle.kl1_journal_entries.specs.Lined.{Rows}
use Rattle.kl1_log.specs.Batches.{text_after}
use Rattle.kl1_log.specs.Deeds.{HasSums}
use Rattle.std.specs.Prelude.{Some, slice_get}
use Rattle.kl1_journal_stamps.specs.Stamps.{StampValue}
use Rattle.kl1_log.specs.Waits.{IsUpTo, mark_of, account_of as account_of_waiting}
use Rattle.kl1_host_journals.specs.declared.edition.Edition.{Edition}
use Rattle.kl1_host_journals.specs.declared.notes.Notes.{Notes}
use Rattle.kl1_host_journals.specs.Editions.{last_of, lines_of, run_of, IsUpToDate}
use Rattle.kl1_host_journals.specs.Notes.{waiting_of, generation_of, number_of, change_of, TakesIn}
use Rattle.kl1_host_journals.specs.Notings.{IsNotedOver}
use Rattle.kl1_host_journals.proofs.Chains.{last_snoc}
use Rattle.kl1_host_journals.proofs.Noting.{note_may_follow, note_up_to, note_dated, note_lines, note_run}
use Rattle.kl1_host_journals.proofs.notebook.Notebook.edited.Goals as goal

pub add-requires-clause-follows : goal.add-requires-clause-follows
add-requires-clause-follows g c =
    let log = c.args.history.seen.log in
    let old = c.args.old.value in
    let new = c.of.result.value in
    let j = c.args.journal.now.journal in
    let gen = c.args.generation in
    let base = (last_of c.again.result.log).text in
    let over : IsNotedOver base old (last_of log) = subst (λ (b : List ℕ). IsNotedOver b old (last_of log)) (sym (ap (λ s. (last_of s.log).text) c.again.ensures)) c.requires.over in
    let takes : TakesIn old new j gen = subst (λ (n : Notes). TakesIn old n j gen) (sym c.of.ensures) c.requires.takes in
    note_may_follow log old new j gen base c.of-2.result.value over takes c.requires.later (ap (λ (x : Rows). x.journal) c.of-2.ensures)

pub add-requires-clause-dated : goal.add-requires-clause-dated
add-requires-clause-dated g c =
    let log = c.args.history.seen.log in
    let old = c.args.old.value in
    let new = c.of.result.value in
    let j = c.args.journal.now.journal in
    let gen = c.args.generation in
    let base = (last_of c.again.result.log).text in
    let over : IsNotedOver base old (last_of log) = subst (λ (b : List ℕ). IsNotedOver b old (last_of log)) (sym (ap (λ s. (last_of s.log).text) c.again.ensures)) c.requires.over in
    let sums : HasSums base = subst HasSums (sym (ap (λ s. (last_of s.log).text) c.again.ensures)) c.requires.sums in
    let takes : TakesIn old new j gen = subst (λ (n : Notes). TakesIn old n j gen) (sym c.of.ensures) c.requires.takes in
    let same = ap (λ (x : Rows). x.journal) c.of-2.ensures in
    let dated : IsUpToDate log = subst IsUpToDate c.place.ensures.log c.shows_dated.ensures in
    note_dated log new j base c.of-2.result.value same (note_up_to log old new j gen base c.requires.some over takes c.requires.later dated c.requires.marked sums)

pub invariant_of-result : goal.invariant_of-result
invariant_of-result g c =
    let log = c.args.history.seen.log in
    let old = c.args.old.value in
    let new = c.of.result.value in
    let r = c.of-2.result.value in
    let j = c.args.journal.now.journal in
    let gen = c.args.generation in
    let base = (last_of c.again.result.log).text in
    let e : Edition = record { number = number_of new; generation = generation_of new; journal = r; text = text_after base (change_of new) } in
    let over : IsNotedOver base old (last_of log) = subst (λ (b : List ℕ). IsNotedOver b old (last_of log)) (sym (ap (λ s. (last_of s.log).text) c.again.ensures)) c.requires.over in
    let sums : HasSums base = subst HasSums (sym (ap (λ s. (last_of s.log).text) c.again.ensures)) c.requires.sums in
    let takes : TakesIn old new j gen = subst (λ (n : Notes). TakesIn old n j gen) (sym c.of.ensures) c.requires.takes in
    let same = ap (λ (x : Rows). x.journal) c.of-2.ensures in
    let dated : IsUpToDate log = subst IsUpToDate c.place.ensures.log c.shows_dated.ensures in
    let is = c.in-Ok.ensures.ok in
    let last : last_of c.add.new.self.seen.log ≡ e = ap last_of is ∙ last_snoc log e in
    let up : IsUpTo (waiting_of new) base j = note_up_to log old new j gen base c.requires.some over takes c.requires.later dated c.requires.marked sums in
    record {
      account = c.add.ensures.account ∙ c.requires.account.0;
      taken_account = c.requires.account.1;
      some = omega (arith, ap (length {A = Edition}) is, length-append log (e ∷ []));
      number = ap (λ (x : Edition). x.number) last ∙ ap number_of c.of.ensures;
      taken_number = c.requires.taken;
      generation = ap (λ (x : Edition). x.generation) last ∙ ap generation_of c.of.ensures;
      text =
          ap (λ (x : Edition). x.text) last
          ∙ ap (λ s. text_after (last_of s.log).text (change_of new)) c.again.ensures
          ∙ ap (λ (n : Notes). text_after (last_of c.args.taken.seen.log).text (change_of n)) c.of.ensures;
      sums = c.requires.sums;
      lines =
          sym (ap (λ (n : Notes). (mark_of (waiting_of n)).lines) c.of.ensures) ∙ note_lines log new j base r same up ∙ sym (ap (λ (l : List Edition). lines_of (last_of l)) is);
      run =
          sym (ap (λ (n : Notes). (mark_of (waiting_of n)).run) c.of.ensures) ∙ note_run log new j base r same up ∙ sym (ap (λ (l : List Edition). run_of (last_of l)) is);
      stamp_history = subst (λ (x : StampValue). slice_get g.J.ShownIds.histories (account_of_waiting (waiting_of c.args.notes)) ≡ Some x.history) (sym c.again-in-Ok.ensures) c.requires.history;
      stamp_journal = ap (λ (x : StampValue). x.journal) c.again-in-Ok.ensures ∙ c.requires.stamp.0 ∙ sym (ap (λ (x : Rows). x.journal) c.of-2.ensures) ∙ sym (ap (λ (x : Edition). x.journal.journal) last);
      stamp_generation = ap (λ (x : StampValue). x.generation) c.again-in-Ok.ensures ∙ c.requires.stamp.1 ∙ sym c.requires.takes.now;
    }

pub returns-in-Ok : goal.returns-in-Ok
returns-in-Ok g c =
    let log = c.args.history.seen.log in
    let new = c.of.result.value in
    let r = c.of-2.result.value in
    let base = (last_of c.again.result.log).text in
    let e : Edition = record { number = number_of new; generation = generation_of new; journal = r; text = text_after base (change_of new) } in
    let last : last_of c.add.new.self.seen.log ≡ e = ap last_of c.in-Ok.ensures.ok ∙ last_snoc log e in (
      ap (λ (x : Edition). x.journal.journal) last ∙ ap (λ (x : Rows). x.journal) c.of-2.ensures,
      ap (λ (x : Edition). x.generation) last ∙ ap generation_of c.of.ensures ∙ c.requires.takes.now,
    )
