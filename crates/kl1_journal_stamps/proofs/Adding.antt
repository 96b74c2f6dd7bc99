-- The exchange that adds a shown journal keeps the rule.
use Rattle.std.proofs.Common.{◌≡◌, ℕ, ◌+◌, ◌<◌, ◌==◌, Bool, true, false, List, [], ◌∷◌, ◌++◌, length, refl, ap, sym, subst, arith, inl, length-append, None}
use Rattle.std.proofs.lemmas.List.{append-nil}
use Rattle.std.specs.Prelude.{MatchBool}
use Rattle.std.proofs.lemmas.Bool.{eq-eqb}
use Rattle.std.proofs.lemmas.Bool.Decides.{nat_tests}
use mathlib.Core.List.{IsPrefix}
use prog.Atomic.{either}
use Rattle.logbook.specs.Pages.{Cell, cell, keeps, no_nib, step, Moves, Goes}
use Rattle.kl1_journal_stamps.specs.declared.shown_journal.ShownJournal.{ShownJournal}
use Rattle.kl1_journal_stamps.specs.Stamps.{MayFollow}
use Rattle.kl1_journal_stamps.specs.Histories.{last_shown, IsChain, IsKept, Adds}
use Rattle.kl1_journal_stamps.proofs.Prefixes.{prefix_whole}
use Rattle.kl1_journal_stamps.proofs.Chains.{chain_snoc}

abbrev pub shown : List ShownJournal → List ShownJournal
shown log = []

abbrev pub moved : List ShownJournal → List ShownJournal → ℕ → Type 0
moved xs ys n = Unit {0}

adds_goes : (log v : List ShownJournal) (e : ShownJournal) (old : ℕ) → length v ≡ old → MayFollow (last_shown v) e.generation e.journal.journal → IsChain log → IsPrefix v log → (b : Bool) → (length log == old) ≡ b
    → Goes IsKept shown moved 0 (v, (no_nib, None)) (λ n. either (n == old) (old + 1) n) (Adds (step 0 old (old + 1) e) (v, (no_nib, None))) ((length log, true) ∷ (0, true) ∷ []) log
adds_goes log v e old len may chain pre true is =
    let here : length log ≡ old = grind (arith, nat_tests) in
    let same : v ≡ log = prefix_whole v log pre (omega (arith, here, len)) in
    let n : either (length log == old) (old + 1) (length log) ≡ length (log ++ e ∷ []) = rw is (omega (arith, here, length-append log (e ∷ []))) in (
      keeps,
      e ∷ [],
      None,
      tt,
      record {
        words = ap (λ (k : ℕ). (k, true) ∷ (0, true) ∷ []) n;
        chain = chain_snoc log e chain (subst (λ (x : List ShownJournal). MayFollow (last_shown x) e.generation e.journal.journal) same may);
      },
      inl (refl, refl),
      rw is (ap (λ w. w ++ e ∷ []) (sym same)),
    )
adds_goes log v e old len may chain pre false is =
    let all : log ++ [] ≡ log = append-nil log in
    let n : either (length log == old) (old + 1) (length log) ≡ length (log ++ []) = rw is (ap length (sym all)) in (
      keeps,
      [],
      None,
      tt,
      record {
        words = ap (λ (k : ℕ). (k, true) ∷ (0, true) ∷ []) n;
        chain = subst IsChain (sym all) chain;
      },
      inl (refl, refl),
      rw is (ap length all),
    )

-- whatever the history is, the exchange adds the journal to all that was seen, or finds that there are others
pub adds_moves : (v : List ShownJournal) (e : ShownJournal) (old : ℕ) → length v ≡ old → MayFollow (last_shown v) e.generation e.journal.journal
    → Moves IsKept shown moved 0 (v, (no_nib, None)) (λ n. either (n == old) (old + 1) n) (Adds (step 0 old (old + 1) e) (v, (no_nib, None)))
adds_moves v e old len may cs log kept pre away =
    let P : List Cell → Type 0 = λ c. (0 < length c) × ((cell c 0).1 ≡ true) × Goes IsKept shown moved 0 (v, (no_nib, None)) (λ n. either (n == old) (old + 1) n) (Adds (step 0 old (old + 1) e) (v, (no_nib, None))) c log in
    subst P (sym kept.words) (omega arith, refl, adds_goes log v e old len may kept.chain pre (length log == old) refl)

-- what was seen after an exchange that found what it was to find
pub added_seen : (found old : ℕ) (v w : List ShownJournal) (e : ShownJournal) → found ≡ old → MatchBool (found == old) (w ≡ v ++ e ∷ []) (length w ≡ found) → w ≡ v ++ e ∷ []
added_seen found old v w e is told = subst (λ (b : Bool). MatchBool b (w ≡ v ++ e ∷ []) (length w ≡ found)) (eq-eqb found old is) told
