-- What waits for a file whose text is known.
use Rattle.std.proofs.Common.{◌≡◌, ℕ, List, sym, ap, subst}
use Rattle.std.specs.Prelude.{Option, Some, None, option_map}
use Rattle.kl1_model_server.specs.Journal.{Journal}
use Rattle.kl1_log.specs.Files.{content, Known, IfKnown}
use Rattle.kl1_log.specs.Batches.{text_of, text_after}
use Rattle.kl1_log.specs.Waits.{IsUpTo}
use Rattle.kl1_log.specs.declared.change.Change.{Change}
use Rattle.kl1_log.specs.declared.waiting.Waiting.{Waiting}
use Rattle.kl1_host_journals.specs.Links.{IsUpToIf}

-- what waits for a file with the bytes that were read
pub read_up_to : (k : Known) (w : Waiting) (bytes : List ℕ) (j : Journal) → IfKnown k (λ s. bytes ≡ content s.now) → IsUpTo w bytes j → IsUpToIf w (text_of k) j
read_up_to None w bytes j is h = is
read_up_to (Some c) w bytes j is h = subst (λ (t : List ℕ). IsUpTo w t j) is h

-- what was taken is in the file
pub taken_up_to : (v w : Waiting) (change : Change) (t u : Option (List ℕ)) (j : Journal) → ((text : List ℕ) (k : Journal) → IsUpTo v text k → IsUpTo w (text_after text change) k) → u ≡ option_map (λ text. text_after text change) t → IsUpToIf v t j → IsUpToIf w u j
taken_up_to v w change None u j goes is h = subst (λ (x : Option (List ℕ)). IsUpToIf w x j) (sym is) h
taken_up_to v w change (Some text) u j goes is h = subst (λ (x : Option (List ℕ)). IsUpToIf w x j) (sym is) (goes text j h)

-- the text of the same file
pub same_text : {D : Type 0} (known : D → Known) (d e : D) → d ≡ e → text_of (known d) ≡ text_of (known e)
same_text known d e is = ap (λ x. text_of (known x)) is
