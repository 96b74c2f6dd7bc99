-- What a file holds that was written to.
use Rattle.std.proofs.Common.{◌≡◌, ℕ, Bool, true, false, List, refl, sym, ap, ◌∙◌, subst}
use Rattle.std.specs.Prelude.{Option, Some, None, option_map, Err}
use Rattle.std.proofs.lemmas.Bool.{false≢true}
use Rattle.kl1_log.specs.Files.{content, Known, IfKnown}
use Rattle.kl1_log.specs.Batches.{text_of, text_after}
use Rattle.kl1_log.specs.declared.change.Change.{Change}
use Rattle.kl1_log.specs.LogFiles.{IsFailed, IsUntouched}
use Rattle.kl1_log.specs.declared.log_error.LogError.{LogError}
use Rattle.kl1_log.specs.declared.log_error.LogError.TheVariants.{Stopped, NotNext, Memory, Failed}
use Rattle.kl1_host_journals.specs.Texts.{IsTextOf}

-- a file that has got what was taken
pub written_text : (k l : Known) (change : Change) (before after : List ℕ) → IsTextOf k before → text_of l ≡ option_map (λ text. text_after text change) (text_of k) → after ≡ text_after before change → IsTextOf l after
written_text None None change before after is put so = put
written_text None (Some d) change before after is put so = absurd cc
written_text (Some c) None change before after is put so = absurd cc
written_text (Some c) (Some d) change before after is put so =
    put ∙ ap (option_map (λ text. text_after text change)) is ∙ ap (λ (x : List ℕ). let o : Option (List ℕ) = Some x in o) (sym so)

-- a file with the bytes that were read
pub read_text : (k : Known) (bytes : List ℕ) → IfKnown k (λ s. bytes ≡ content s.now) → IsTextOf k bytes
read_text None bytes is = refl
read_text (Some c) bytes is = ap (λ (x : List ℕ). let o : Option (List ℕ) = Some x in o) (sym is)

same_known : (k l : Known) (was is : Bool) (text : List ℕ) → (l ≡ k) × (is ≡ was) → (was ≡ true → IsTextOf k text) → is ≡ true → IsTextOf l text
same_known k l was is text same held may = subst (λ (x : Known). IsTextOf x text) (sym same.0) (held (sym same.1 ∙ may))

-- a file that hasn't got what was taken
pub still_text : (T : Type 0) (e : LogError) (k l : Known) (was is : Bool) (text : List ℕ)
    → (IsUntouched {T = T} (Err e) → (l ≡ k) × (is ≡ was)) → (IsFailed {T = T} (Err e) → is ≡ false) → (was ≡ true → IsTextOf k text) → is ≡ true → IsTextOf l text
still_text T Stopped k l was is text same failed held may = same_known k l was is text (same tt) held may
still_text T NotNext k l was is text same failed held may = same_known k l was is text (same tt) held may
still_text T Memory k l was is text same failed held may = same_known k l was is text (same tt) held may
still_text T (Failed error) k l was is text same failed held may = absurd (false≢true (sym (failed tt) ∙ may))
