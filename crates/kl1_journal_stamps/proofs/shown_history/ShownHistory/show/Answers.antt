use Rattle.std.proofs.Common.{◌≡◌, ℕ, Some, [], ◌∷◌, ◌++◌, sym, ap, ◌∙◌, subst}
use Rattle.std.specs.Prelude.{Option}
use Rattle.kl1_model_server.specs.Journal.{Journal}
use Rattle.kl1_journal_entries.specs.Lined.{Rows}
use Rattle.kl1_journal_stamps.specs.declared.shown_journal.ShownJournal.{ShownJournal}
use Rattle.kl1_journal_stamps.specs.Histories.{last_of, last_shown}
use Rattle.kl1_journal_stamps.specs.Stamps.{ShownValue, MayFollow}
use Rattle.kl1_journal_stamps.proofs.Adding.{adds_moves, added_seen}
use Rattle.kl1_journal_stamps.proofs.Chains.{last_snoc, shown_snoc}
use Rattle.kl1_journal_stamps.proofs.shown_history.ShownHistory.show.Goals as goal

pub compare_exchange-found-requires : goal.compare_exchange-found-requires
compare_exchange-found-requires c =
    let h = c.self.invariant.1 in
    let b = ap (λ s. s.book) c.again-seen.ensures in
    let offer = c.plain-offer.ensures in
    let pen = c.no_pen-pen.ensures in
    let log = c.self.inside.seen.log in
    let e : ShownJournal = record { generation = c.of.result.value; journal = c.of-2.result.value } in
    let last : MayFollow (last_shown log) c.args.generation c.args.journal.now.journal = subst (λ (o : Option (ℕ × Journal)). MayFollow o c.args.generation c.args.journal.now.journal) (sym (ap (λ (x : ShownValue). x.last) c.self.view_is)) c.requires in
    let may : MayFollow (last_shown log) e.generation e.journal.journal =
    subst (λ (r : Rows). MayFollow (last_shown log) c.of.result.value r.journal) (sym c.of-2.ensures) (subst (λ (n : ℕ). MayFollow (last_shown log) n c.args.journal.now.journal) (sym c.of.ensures) last) in (
      ap (λ w. w.tracked) h,
      b ∙ sym (ap (λ w. w.book) h),
      pen.0 ∙ (b ∙ sym (ap (λ w. w.book) h)),
      offer.0,
      rw (ap (λ w. w.key) h, pen.1, offer.1, offer.3, ap (λ s. s.log) c.again-seen.ensures) (adds_moves log e c.self.inside.count (sym c.self.invariant.0) may),
    )

pub returns-clause-stamp : goal.returns-clause-stamp
returns-clause-stamp c =
    let found = c.compare_exchange-found.ensures in
    let e : ShownJournal = record { generation = c.of.result.value; journal = c.of-2.result.value } in
    let asks : c.plain-offer.result.ask ≡ e = c.plain-offer.ensures.1 in
    let log = c.compare_exchange-found.new.seen.log in
    let is : log ≡ c.again-seen.result.log ++ c.plain-offer.result.ask ∷ [] = added_seen c.compare_exchange-found.result c.self.inside.count c.again-seen.result.log log c.plain-offer.result.ask c.if-found-self.false found.7 in
    let last : last_of log ≡ e = ap last_of is ∙ last_snoc c.again-seen.result.log c.plain-offer.result.ask ∙ asks in
    let history = found.0 ∙ ap (λ s. s.book) c.again-seen.ensures ∙ ap (λ (x : ShownValue). x.history) c.self.view_is in
    let generation : (last_of log).generation ≡ c.args.generation = ap (λ (x : ShownJournal). x.generation) last ∙ c.of.ensures in
    let journal : (last_of log).journal.journal ≡ c.args.journal.now.journal = ap (λ (x : ShownJournal). x.journal.journal) last ∙ ap (λ (r : Rows). r.journal) c.of-2.ensures in
    λ i. record { history = history i; generation = generation i; journal = journal i }

pub returns-clause-shown : goal.returns-clause-shown
returns-clause-shown c =
    let found = c.compare_exchange-found.ensures in
    let e : ShownJournal = record { generation = c.of.result.value; journal = c.of-2.result.value } in
    let asks : c.plain-offer.result.ask ≡ e = c.plain-offer.ensures.1 in
    let log = c.compare_exchange-found.new.seen.log in
    let is : log ≡ c.again-seen.result.log ++ c.plain-offer.result.ask ∷ [] = added_seen c.compare_exchange-found.result c.self.inside.count c.again-seen.result.log log c.plain-offer.result.ask c.if-found-self.false found.7 in
    let history = ap (λ s. s.book) c.again.ensures ∙ found.0 ∙ ap (λ s. s.book) c.again-seen.ensures ∙ ap (λ (x : ShownValue). x.history) c.self.view_is in
    let last : last_shown c.again.result.log ≡ Some (c.args.generation, c.args.journal.now.journal) =
    ap (λ s. last_shown s.log) c.again.ensures ∙ ap last_shown is ∙ shown_snoc c.again-seen.result.log c.plain-offer.result.ask ∙ ap (λ (x : ShownJournal). let o : Option (ℕ × Journal) = Some (x.generation, x.journal.journal) in o) asks
    ∙ ap (λ (n : ℕ). let o : Option (ℕ × Journal) = Some (n, c.of-2.result.value.journal) in o) c.of.ensures ∙ ap (λ (r : Rows). let o : Option (ℕ × Journal) = Some (c.args.generation, r.journal) in o) c.of-2.ensures in
    λ i. record { history = history i; last = last i }
