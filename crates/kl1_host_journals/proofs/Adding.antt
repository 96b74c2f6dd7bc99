-- The exchange that adds an edition keeps the rule, and so does a look.
use Rattle.std.proofs.Common.{◌≡◌, ℕ, ◌+◌, ◌<◌, ◌==◌, Bool, true, false, List, [], ◌∷◌, ◌++◌, length, refl, ap, sym, subst, arith, inl, inr, length-append, None}
use Rattle.std.proofs.lemmas.List.{append-nil}
use Rattle.std.proofs.lemmas.Bool.Decides.{nat_tests}
use mathlib.Core.List.{IsPrefix}
use prog.Atomic.{either}
use Rattle.logbook.specs.Pages.{Cell, cell, keeps, no_nib, step, Moves, Goes}
use Rattle.kl1_host_journals.specs.declared.edition.Edition.{Edition}
use Rattle.kl1_host_journals.specs.Editions.{MayFollow, IsChain, IsUpToDate}
use Rattle.kl1_host_journals.specs.Histories.{IsKept, Adds, Looks}
use Rattle.kl1_host_journals.proofs.Chains.{prefix_whole, prefix_snoc, chain_snoc}

abbrev pub shown : List Edition → List Edition
shown log = []

abbrev pub moved : List Edition → List Edition → ℕ → Type 0
moved xs ys n = Unit {0}

adds_goes : (log v : List Edition) (e : Edition) (old : ℕ) → length v ≡ old → MayFollow v e → IsUpToDate (v ++ e ∷ []) → IsChain log → ((front : List Edition) → IsPrefix front log → IsUpToDate front) → IsPrefix v log
    → (b : Bool) → (length log == old) ≡ b
    → Goes IsKept shown moved 0 (v, (no_nib, None)) (λ n. either (n == old) (old + 1) n) (Adds (step 0 old (old + 1) e) (v, (no_nib, None))) ((length log, true) ∷ (0, true) ∷ []) log
adds_goes log v e old len may dated chain was pre true is =
    let here : length log ≡ old = grind (arith, nat_tests) in
    let same : v ≡ log = prefix_whole v log pre (omega (arith, here, len)) in
    let n : either (length log == old) (old + 1) (length log) ≡ length (log ++ e ∷ []) = rw is (omega (arith, here, length-append log (e ∷ []))) in (
      keeps,
      e ∷ [],
      None,
      tt,
      record {
        words = ap (λ (k : ℕ). (k, true) ∷ (0, true) ∷ []) n;
        chain = chain_snoc log e chain (subst (λ (x : List Edition). MayFollow x e) same may);
        dated = λ front p. elim (prefix_snoc front log e p) [
          | inl before ↦ was front before
          | inr all ↦ subst IsUpToDate (sym all) (subst (λ (x : List Edition). IsUpToDate (x ++ e ∷ [])) same dated)
        ];
      },
      inl (refl, refl),
      rw is (ap (λ w. w ++ e ∷ []) (sym same)),
    )
adds_goes log v e old len may dated chain was pre false is =
    let all : log ++ [] ≡ log = append-nil log in
    let n : either (length log == old) (old + 1) (length log) ≡ length (log ++ []) = rw is (ap length (sym all)) in (
      keeps,
      [],
      None,
      tt,
      record {
        words = ap (λ (k : ℕ). (k, true) ∷ (0, true) ∷ []) n;
        chain = subst IsChain (sym all) chain;
        dated = λ front p. was front (subst (IsPrefix front) all p);
      },
      inl (refl, refl),
      rw is (ap length all),
    )

-- whatever the history is, the exchange adds the edition to all that was seen, or finds that there are others
pub adds_moves : (v : List Edition) (e : Edition) (old : ℕ) → length v ≡ old → MayFollow v e → IsUpToDate (v ++ e ∷ [])
    → Moves IsKept shown moved 0 (v, (no_nib, None)) (λ n. either (n == old) (old + 1) n) (Adds (step 0 old (old + 1) e) (v, (no_nib, None)))
adds_moves v e old len may dated cs log kept pre away =
    let P : List Cell → Type 0 = λ c. (0 < length c) × ((cell c 0).1 ≡ true) × Goes IsKept shown moved 0 (v, (no_nib, None)) (λ n. either (n == old) (old + 1) n) (Adds (step 0 old (old + 1) e) (v, (no_nib, None))) c log in
    subst P (sym kept.words) (omega arith, refl, adds_goes log v e old len may dated kept.chain kept.dated pre (length log == old) refl)

looks_goes : (log v : List Edition) (e : Edition) → IsChain log → ((front : List Edition) → IsPrefix front log → IsUpToDate front)
    → Goes IsKept shown moved 0 (v, (no_nib, None)) (λ n. n) (Looks (step 0 0 0 e) (v, (no_nib, None))) ((length log, true) ∷ (0, true) ∷ []) log
looks_goes log v e chain was =
    let all : log ++ [] ≡ log = append-nil log in
    let more : IsChain (log ++ []) = subst IsChain (sym all) chain in (
      keeps,
      [],
      None,
      tt,
      record {
        words = ap (λ (k : ℕ). (k, true) ∷ (0, true) ∷ []) (ap length (sym all));
        chain = more;
        dated = λ front p. was front (subst (IsPrefix front) all p);
      },
      inl (refl, refl),
      (ap length all, more),
    )

-- whatever the history is, a look finds how long it is, and sees all of it
pub looks_moves : (v : List Edition) (e : Edition) → Moves IsKept shown moved 0 (v, (no_nib, None)) (λ n. n) (Looks (step 0 0 0 e) (v, (no_nib, None)))
looks_moves v e cs log kept pre away =
    let P : List Cell → Type 0 = λ c. (0 < length c) × ((cell c 0).1 ≡ true) × Goes IsKept shown moved 0 (v, (no_nib, None)) (λ n. n) (Looks (step 0 0 0 e) (v, (no_nib, None))) c log in
    subst P (sym kept.words) (omega arith, refl, looks_goes log v e kept.chain kept.dated)
