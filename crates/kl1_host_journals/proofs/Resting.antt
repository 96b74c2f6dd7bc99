-- Which files have all on disk.
use Rattle.std.proofs.Common.{◌≡◌, ℕ, true, List, [], ◌∷◌, ◌++◌, refl, sym, ap, ◌∙◌, subst}
use Rattle.std.specs.Prelude.{Some, None}
use Rattle.kl1_log.specs.Files.{content, FileState, Synced, Known, Does, IfKnown, is_at_rest}
use Rattle.kl1_log.proofs.Moments.{rest_test}

-- a file after a sync
pub synced_rests : (k l : Known) → IfKnown k (λ s. s.before ≡ None) → Does Synced k l → is_at_rest l ≡ true
synced_rests None l none d = ap is_at_rest d
synced_rests (Some c) None none d = absurd d
synced_rests (Some c) (Some y) none d =
    rest_test y.now.now.pending y.now.before (ap (λ (x : FileState). x.now.pending) d.0) (ap (λ (x : FileState). x.before) d.0 ∙ none)

second_nil : (xs ys : List ℕ) → xs ++ ys ≡ [] → ys ≡ []
second_nil [] ys e = e
second_nil (x ∷ xs) ys e = cc

-- a file without bytes
pub empty_rests : (k : Known) (bytes : List ℕ) → IfKnown k (λ s. s.before ≡ None) → IfKnown k (λ s. bytes ≡ content s.now) → bytes ≡ [] → is_at_rest k ≡ true
empty_rests None bytes none is nil = refl
empty_rests (Some c) bytes none is nil =
    rest_test c.now.now.pending c.now.before (second_nil c.now.now.synced c.now.now.pending (sym is ∙ nil)) none

-- what is known stays the same
pub same_rests : (k l : Known) → l ≡ k → is_at_rest k ≡ true → is_at_rest l ≡ true
same_rests k l same rests = ap is_at_rest same ∙ rests

pub if_known_still : (k l : Known) (P : FileState → Type 0) → l ≡ k → IfKnown k P → IfKnown l P
if_known_still k l P same h = subst (λ (x : Known). IfKnown x P) (sym same) h
