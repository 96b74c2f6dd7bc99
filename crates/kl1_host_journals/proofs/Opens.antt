-- With which journal an account begins, by what was found in its file.
use Rattle.std.proofs.Common.{◌≡◌, ℕ, Bool, true, List, [], refl, sym, ap, ◌∙◌, subst, inl, inr}
use Rattle.std.specs.Prelude.{Option, Some, None}
use Rattle.kl1_model.specs.declared.rules.Rules.{Rules}
use Rattle.kl1_model_server.specs.Journal.{Journal, new_journal}
use Rattle.kl1_journal_entries.specs.Lined.{Rows}
use Rattle.kl1_log.specs.Files.{content, Known, IfKnown}
use Rattle.kl1_log.specs.Cuts.{file_lines, opening_of, IsFault, IsFound}
use Rattle.kl1_log.specs.declared.recovery.Found.TheVariants.{Whole, Fault, Unopened}
use Rattle.kl1_host_journals.specs.Openings.{IsOpened}
use Rattle.kl1_host_journals.specs.declared.opening.OpenFault.{OpenFault}
use Rattle.kl1_host_journals.specs.declared.opening.OpenFault.TheVariants.{Line, Failed}
use Rattle.kl1_host_journals.specs.OpenFaults.{IsToldOf, IsToldAt}

pub whole_opened : (k : Known) (rules : Rules) (repair : Bool) (j : Rows) (n : ℕ) → IfKnown k (λ s. IsFound (content s.now) (Whole j n)) → IfKnown k (λ s. IsOpened (content s.now) rules repair j.journal None)
whole_opened None rules repair j n h = h
whole_opened (Some c) rules repair j n h = inl h.0

pub fault_repaired : (k : Known) (rules : Rules) (repair : Bool) (line : ℕ) (before j : Rows) (told : Option ℕ) → IfKnown k (λ s. IsFound (content s.now) (Fault line before)) → repair ≡ true → told ≡ Some line → j ≡ before → IfKnown k (λ s. IsOpened (content s.now) rules repair j.journal told)
fault_repaired None rules repair line before j told h asked is same = h
fault_repaired (Some c) rules repair line before j told h asked is same =
    subst (λ (o : Option ℕ). IsOpened (content c.now.now) rules repair j.journal o) (sym is) (asked, inl (subst (λ (x : Rows). IsFault (content c.now.now) line x.journal) (sym same) h))

told_line : (text : List ℕ) (line : ℕ) (before : Journal) (fault : OpenFault) → IsFault text line before → IsToldAt line fault → IsToldOf text fault
told_line text line before (Line n) h at = inl (before, subst (λ (m : ℕ). IsFault text m before) (sym at) h)
told_line text line before (Failed e) h at = tt

pub fault_told : (k : Known) (line : ℕ) (before : Rows) (fault : OpenFault) → IfKnown k (λ s. IsFound (content s.now) (Fault line before)) → IsToldAt line fault → IfKnown k (λ s. IsToldOf (content s.now) fault)
fault_told None line before fault h at = h
fault_told (Some c) line before fault h at = told_line (content c.now.now) line before.journal fault h at

pub still_unopened : (k l : Known) → l ≡ k → IfKnown k (λ s. IsFound (content s.now) Unopened) → IfKnown l (λ s. opening_of (file_lines (content s.now)) ≡ None)
still_unopened None l same h = subst (λ (x : Known). IfKnown x (λ s. opening_of (file_lines (content s.now)) ≡ None)) (sym same) h
still_unopened (Some c) l same h = subst (λ (x : Known). IfKnown x (λ s. opening_of (file_lines (content s.now)) ≡ None)) (sym same) h

pub fresh_opened : (k : Known) (bytes : List ℕ) (rules : Rules) (repair : Bool) (j : Journal) → IfKnown k (λ s. bytes ≡ content s.now) → bytes ≡ [] → j ≡ new_journal rules [] 0 → IfKnown k (λ s. IsOpened (content s.now) rules repair j None)
fresh_opened None bytes rules repair j is nil new = is
fresh_opened (Some c) bytes rules repair j is nil new = inr (sym is ∙ nil, new)

pub unopened_repaired : (k : Known) (rules : Rules) (repair : Bool) (i j : Rows) (told : Option ℕ) → IfKnown k (λ s. opening_of (file_lines (content s.now)) ≡ None) → repair ≡ true → told ≡ Some 1 → j ≡ i → i.journal ≡ new_journal rules [] 0 → IfKnown k (λ s. IsOpened (content s.now) rules repair j.journal told)
unopened_repaired None rules repair i j told h asked is same new = h
unopened_repaired (Some c) rules repair i j told h asked is same new =
    subst (λ (o : Option ℕ). IsOpened (content c.now.now) rules repair j.journal o) (sym is) (asked, inr (h, refl, ap (λ (x : Rows). x.journal) same ∙ new))

told_opening : (text : List ℕ) (fault : OpenFault) → opening_of (file_lines text) ≡ None → IsToldAt 1 fault → IsToldOf text fault
told_opening text (Line n) h at = inr (h, at)
told_opening text (Failed e) h at = tt

pub unopened_told : (k : Known) (fault : OpenFault) → IfKnown k (λ s. opening_of (file_lines (content s.now)) ≡ None) → IsToldAt 1 fault → IfKnown k (λ s. IsToldOf (content s.now) fault)
unopened_told None fault h at = h
unopened_told (Some c) fault h at = told_opening (content c.now.now) fault h at
