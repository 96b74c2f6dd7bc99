-- What a crash leaves while a file is cut to its whole lines.
use Rattle.std.proofs.Common.{◌≡◌, ℕ, ◌+◌, ◌≤◌, min, true, List, [], ◌∷◌, ◌++◌, length, take, drop, refl, sym, ap, ◌∙◌, subst, arith, inl, inr, append_assoc}
use Rattle.std.specs.Prelude.{Option, Some, None, option_map}
use Rattle.std.proofs.Math.Seq.{take-append-add}
use Rattle.std.proofs.lemmas.List.{append-nil, take-append-drop, length-take, length-append}
use Rattle.kl1_model_server.specs.JournalText.{lines_of}
use Rattle.kl1_model_server.proofs.TextLines.{texts_are_lines}
use Rattle.kl1_log.specs.declared.recovery.Found.{Found}
use Rattle.kl1_log.specs.Cuts.{whole_text, IsFound}
use Rattle.kl1_log.specs.Files.{Bytes, content, settled, loosened, FileState, IsLeftOf, IsBroughtBack, MayLeave, Loosened, CutTo, Cuts, Known, MayDo, IfKnown, Leaves, AtAnyMoment, is_at_rest}
use Rattle.kl1_log.specs.Batches.{text_of, IsLeftOfCut}
use Rattle.kl1_log.proofs.Moments.{rest_test, left_settled}

-- the whole lines of a text aren't longer
pub whole_within : (text : List ℕ) → length (whole_text text) ≤ length text
whole_within text =
    let is = ap (length {A = ℕ}) (texts_are_lines text).0 in
    omega (arith, is, length-append (whole_text text) (lines_of text).rest)

pub cut_within : (k : Known) (bytes : List ℕ) (n : ℕ) → IfKnown k (λ s. bytes ≡ content s.now) → n ≡ length (whole_text bytes) → IfKnown k (λ s. n ≤ length (content s.now))
cut_within None bytes n is at = tt
cut_within (Some c) bytes n is at =
    let same = ap (length {A = ℕ}) is in
    omega (arith, same, at, whole_within bytes)

-- what a crash leaves of bytes of which only the first n are sure
loose_left : (b : Bytes) (n : ℕ) (c : List ℕ) → IsLeftOf (loosened n b) c → (m : ℕ) × (c ≡ take m (content b)) × (min n (length b.synced) ≤ m)
loose_left b n c l =
    let front = take n b.synced in
    let rest = drop n b.synced ++ b.pending in
    let whole : front ++ rest ≡ content b = sym (append_assoc front (drop n b.synced) b.pending) ∙ ap (λ (x : List ℕ). x ++ b.pending) (take-append-drop n b.synced) in
    (length front + l.0, l.1 ∙ sym (take-append-add front rest l.0) ∙ ap (take (length front + l.0)) whole, omega (arith, length-take n b.synced))

-- a state while it is cut
loose_leaves : (s t : FileState) (n : ℕ) → s.before ≡ None → Loosened n s t → n ≡ length (whole_text (content s.now)) → (c : List ℕ) → MayLeave t c → (m : ℕ) × (c ≡ take m (content s.now)) × (min (length (whole_text (content s.now))) (length s.now.synced) ≤ m)
loose_leaves s t n none is at c (inl l) =
    let h = loose_left s.now n c (subst (λ (x : FileState). IsLeftOf x.now c) is l) in
    let least = h.2 in
    (h.0, h.1, omega (arith, at, least))
loose_leaves s t n none is at c (inr back) = absurd (subst (λ (x : Option Bytes). IsBroughtBack x c) (ap (λ (x : FileState). x.before) is ∙ none) back)

-- a cut that failed
pub cut_failed : (k l : Known) (text : List ℕ) (n : ℕ) → IfKnown k (λ s. text ≡ content s.now) → IfKnown k (λ s. s.before ≡ None) → n ≡ length (whole_text text) → MayDo (Loosened n) k l → AtAnyMoment k l (IsLeftOfCut k)
cut_failed None l text n is none at (inl d) = d
cut_failed None l text n is none at (inr same) = same
cut_failed (Some c) None text n is none at (inl d) = absurd d
cut_failed (Some c) (Some y) text n is none at (inl d) = record {
  since = y.now ∷ [];
  are = ap (λ (ss : List FileState). y.now ∷ ss) d.1;
  each = (loose_leaves c.now y.now n none d.0 (at ∙ ap (λ (x : List ℕ). length (whole_text x)) is), tt);
}
cut_failed (Some c) l text n is none at (inr same) = subst (λ (x : Known). AtAnyMoment (Some c) x (IsLeftOfCut (Some c))) (sym same) (record { since = []; are = refl; each = tt })

-- what is less sure is the same
pub loose_bytes : (b : Bytes) (n : ℕ) → content (loosened n b) ≡ content b
loose_bytes b n = sym (append_assoc (take n b.synced) (drop n b.synced) b.pending) ∙ ap (λ (x : List ℕ). x ++ b.pending) (take-append-drop n b.synced)

loose_content : (s t : FileState) (n : ℕ) → Loosened n s t → content t.now ≡ content s.now
loose_content s t n is = ap (λ (x : FileState). content x.now) is ∙ loose_bytes s.now n

loose_before : (s t : FileState) (n : ℕ) → s.before ≡ None → Loosened n s t → t.before ≡ None
loose_before s t n none is = ap (λ (x : FileState). x.before) is ∙ none

-- a file that was cut
cut_state : (s t : FileState) (text : List ℕ) (n : ℕ) → text ≡ content s.now → take n text ≡ whole_text text → CutTo n s t → t.now ≡ settled (whole_text (content s.now))
cut_state s t text n is front h =
    ap (λ (x : FileState). x.now) h ∙ ap settled (ap (take n) (sym is) ∙ front ∙ ap whole_text is)

pub cut_moments : (k l : Known) (text : List ℕ) (n : ℕ) → IfKnown k (λ s. text ≡ content s.now) → IfKnown k (λ s. s.before ≡ None) → n ≡ length (whole_text text) → take n text ≡ whole_text text → Cuts n k l → AtAnyMoment k l (IsLeftOfCut k)
cut_moments None l text n is none at front d = d
cut_moments (Some c) None text n is none at front d = absurd d
cut_moments (Some c) (Some y) text n is none at front d =
    let here : n ≡ length (whole_text (content c.now.now)) = at ∙ ap (λ (x : List ℕ). length (whole_text x)) is in
    let now = cut_state d.0 y.now text n (is ∙ sym (loose_content c.now d.0 n d.1)) front d.2 ∙ ap (λ (x : List ℕ). settled (whole_text x)) (loose_content c.now d.0 n d.1) in
    let last : Leaves (IsLeftOfCut (Some c)) y.now = λ e may. cut_left e may now in
    record {
      since = y.now ∷ d.0 ∷ [];
      are = ap (λ (ss : List FileState). y.now ∷ ss) d.3;
      each = (last, (loose_leaves c.now d.0 n none d.1 here, tt));
    }
  where
    cut_left : (e : List ℕ) → MayLeave y.now e → y.now.now ≡ settled (whole_text (content c.now.now)) → IsLeftOfCut (Some c) e
    cut_left e (inl l) now =
        let w = whole_text (content c.now.now) in
        (n, left_settled w e (subst (λ (x : Bytes). IsLeftOf x e) now l) ∙ ap whole_text (sym is) ∙ sym front ∙ ap (take n) is, (let same = ap (λ (x : List ℕ). length (whole_text x)) is in omega (arith, at, same)))
    cut_left e (inr back) now = absurd (subst (λ (x : Option Bytes). IsBroughtBack x e) (ap (λ (x : FileState). x.before) d.2 ∙ loose_before c.now d.0 n none d.1) back)

pub cut_rests : (k l : Known) (text : List ℕ) (n : ℕ) → IfKnown k (λ s. text ≡ content s.now) → IfKnown k (λ s. s.before ≡ None) → take n text ≡ whole_text text → Cuts n k l → (is_at_rest l ≡ true) × (text_of l ≡ option_map whole_text (text_of k))
cut_rests None l text n is none front d = (ap is_at_rest d, ap text_of d)
cut_rests (Some c) None text n is none front d = absurd d
cut_rests (Some c) (Some y) text n is none front d =
    let now = cut_state d.0 y.now text n (is ∙ sym (loose_content c.now d.0 n d.1)) front d.2 ∙ ap (λ (x : List ℕ). settled (whole_text x)) (loose_content c.now d.0 n d.1) in (
      rest_test y.now.now.pending y.now.before (ap (λ (b : Bytes). b.pending) now) (ap (λ (x : FileState). x.before) d.2 ∙ loose_before c.now d.0 n none d.1),
      ap (λ (b : Bytes). let o : Option (List ℕ) = Some (content b) in o) now ∙ ap (λ (x : List ℕ). let o : Option (List ℕ) = Some x in o) (append-nil (whole_text (content c.now.now))),
    )

-- nothing was done
pub stayed : (k m : Known) (P : List ℕ → Type 0) → m ≡ k → AtAnyMoment k m P
stayed None m P same = same
stayed (Some c) m P same = subst (λ (x : Known). AtAnyMoment (Some c) x P) (sym same) (record { since = []; are = refl; each = tt })

-- the same from what was known before a read
pub cut_from : (k l m : Known) → l ≡ k → AtAnyMoment l m (IsLeftOfCut l) → AtAnyMoment k m (IsLeftOfCut k)
cut_from k l m same so = subst (λ (x : Known). AtAnyMoment x m (IsLeftOfCut x)) same so

-- what was read, after the read
pub still_text : (k l : Known) (bytes shown : List ℕ) → l ≡ k → shown ≡ bytes → IfKnown k (λ s. bytes ≡ content s.now) → IfKnown l (λ s. shown ≡ content s.now)
still_text None l bytes shown same is h = subst (λ (x : Known). IfKnown x (λ s. shown ≡ content s.now)) (sym same) tt
still_text (Some c) l bytes shown same is h = subst (λ (x : Known). IfKnown x (λ s. shown ≡ content s.now)) (sym same) (is ∙ h)

-- what is found in what was read
pub found_of : (k : Known) (bytes shown : List ℕ) (found : Found) → IfKnown k (λ s. bytes ≡ content s.now) → shown ≡ bytes → IsFound shown found → IfKnown k (λ s. IsFound (content s.now) found)
found_of None bytes shown found h is f = tt
found_of (Some c) bytes shown found h is f = subst (λ (x : List ℕ). IsFound x found) (is ∙ h) f
