-- The last sum of a file.
use Rattle.std.proofs.Common.{◌≡◌, ℕ, Bool, true, false, List, [], ◌∷◌, ◌++◌, length, sym, ap, ◌∙◌, refl, arith, subst}
use Rattle.std.specs.Prelude.{Option, Some, None, Err, option_map, bytes_eq}
use Rattle.std.proofs.lemmas.Bool.{and_parts, and_from, false≢true}
use Rattle.std.proofs.lemmas.List.{length-append}
use Rattle.std.proofs.lemmas.Slice.Eq.{bytes_eq-Decides}
use Rattle.kl1_model_server.specs.JournalText.{Lines, lines_of}
use Rattle.kl1_model_server.proofs.TextLines.{texts_are_lines}
use Rattle.kl1_sums.specs.declared.sum.Sum.{Sum}
use Rattle.kl1_sums.specs.SumValues.{digits_of}
use Rattle.kl1_sums.specs.Sums.{summed_text, summed_lines, sum_after, digits_before, last_digits, last_sum}
use Rattle.kl1_sums.proofs.TextsOfLines.{lines_then, whole_is}
use Rattle.kl1_sums.proofs.SumsOff.{last_is}
use Rattle.kl1_sums.proofs.SumTexts.{summed_read, last_of_text}
use Rattle.kl1_log.specs.Cuts.{whole_text}
use Rattle.kl1_log.specs.Files.{content, Known, IfKnown, AtAnyMoment, is_nil, is_at_rest}
use Rattle.kl1_log.specs.Batches.{text_of, IsAppendedInPart, IsSummedInPart, IsOldOrNew}
use Rattle.kl1_log.specs.LastSums.{IsLastOf, is_last_sum, IsUnmade}
use Rattle.kl1_log.specs.LogFiles.{IsCause, IsKept, IsFailed}
use Rattle.kl1_log.specs.declared.log_error.LogError.{LogError}
use Rattle.kl1_log.specs.declared.log_error.LogError.TheVariants.{Stopped, NotNext, Memory, Failed}

no_bytes : (bs : List ℕ) → length bs ≡ 0 → bs ≡ []
no_bytes [] h = refl
no_bytes (b ∷ bs) h = absurd (omega (arith, h))

-- a text that is as long as its whole lines
pub rest_none : (text : List ℕ) → length (whole_text text) ≡ length text → (lines_of text).rest ≡ []
rest_none text same =
    let long = ap (length {A = ℕ}) (texts_are_lines text).0 in
    no_bytes (lines_of text).rest (omega (arith, same, long, length-append (whole_text text) (lines_of text).rest))

-- what was read of a file
pub last_read : (k : Known) (bytes digits : List ℕ) (whole : Bool) → IfKnown k (λ s. bytes ≡ content s.now) → digits ≡ last_sum bytes → (whole ≡ true → (lines_of bytes).rest ≡ []) → IsLastOf digits whole (text_of k)
last_read None bytes digits whole is last none = tt
last_read (Some c) bytes digits whole is last none = (last ∙ ap last_sum is, λ h. ap (λ (x : List ℕ). (lines_of x).rest) (sym is) ∙ none h)

last_more : (prev : List ℕ) (ls ms : List (List ℕ)) → last_digits prev (ls ++ ms) ≡ last_digits (last_digits prev ls) ms
last_more prev [] ms = refl
last_more prev (l ∷ ls) ms = last_more (digits_before l) ls ms

-- a sum that is known
pub known_last : (s : Sum) (t : Option (List ℕ)) → is_last_sum (Some s) t ≡ true → IsLastOf (digits_of s) true t
known_last s None h = tt
known_last s (Some text) h =
    let both = and_parts (bytes_eq (digits_of s) (last_sum text)) (is_nil (lines_of text).rest) h in
    ((bytes_eq-Decides (digits_of s) (last_sum text)).0 both.0, λ i. nil_is (lines_of text).rest both.1)
  where
    nil_is : (bs : List ℕ) → is_nil bs ≡ true → bs ≡ []
    nil_is [] h = refl
    nil_is (b ∷ bs) h = absurd (false≢true h)

last_known : (s : Sum) (t : Option (List ℕ)) → IsLastOf (digits_of s) true t → is_last_sum (Some s) t ≡ true
last_known s None h = refl
last_known s (Some text) h =
    and_from (bytes_eq (digits_of s) (last_sum text)) (is_nil (lines_of text).rest) ((bytes_eq-Decides (digits_of s) (last_sum text)).1 h.0) (ap is_nil (h.1 refl))

-- lines were put after those of a file of whole lines
last_appended : (t u : Option (List ℕ)) (digits lines new : List ℕ) → IsLastOf digits true t → u ≡ option_map (λ text. text ++ summed_text (last_sum text) lines) t → new ≡ sum_after digits (lines_of lines).whole → IsLastOf new true u
last_appended None u digits lines new last is so = subst (λ (o : Option (List ℕ)). IsLastOf new true o) (sym is) tt
last_appended (Some text) u digits lines new last is so =
    let s = last_sum text in
    let w = (lines_of text).whole in
    let v = (lines_of lines).whole in
    let x = summed_text s lines in
    let both : lines_of (text ++ x) ≡ record { whole = w ++ summed_lines s v; rest = [] } =
    ap (λ (y : List ℕ). lines_of (y ++ x)) (whole_is text (last.1 refl))
    ∙ lines_then w x (texts_are_lines text).1
    ∙ ap (λ (ls : Lines). let z : Lines = record { whole = w ++ ls.whole; rest = ls.rest } in z) (summed_read s lines) in
    let here : IsLastOf new true (Some (text ++ x)) = (
      so ∙ ap (λ (d : List ℕ). sum_after d v) last.0 ∙ sym (ap (λ (ls : Lines). last_digits [] ls.whole) both ∙ last_more [] w (summed_lines s v) ∙ last_is s v),
      λ h. ap (λ (ls : Lines). ls.rest) both,
    ) in
    subst (λ (o : Option (List ℕ)). IsLastOf new true o) (sym is) here

-- a file was begun with these lines
last_begun : (t u : Option (List ℕ)) (lines new : List ℕ) → u ≡ option_map (λ (text : List ℕ). summed_text [] lines) t → new ≡ sum_after [] (lines_of lines).whole → IsLastOf new true u
last_begun None u lines new is so = subst (λ (o : Option (List ℕ)). IsLastOf new true o) (sym is) tt
last_begun (Some text) u lines new is so =
    let here : IsLastOf new true (Some (summed_text [] lines)) = (so ∙ sym (last_of_text lines), λ h. ap (λ (ls : Lines). ls.rest) (summed_read [] lines)) in
    subst (λ (o : Option (List ℕ)). IsLastOf new true o) (sym is) here

-- ---- what is put with its sums

-- lines were put after those of a file, with the sums that go on from its last one
pub append_text : (t u : Option (List ℕ)) (digits bytes lines : List ℕ) (whole : Bool) → IsLastOf digits whole t → bytes ≡ summed_text digits lines → u ≡ option_map (λ text. text ++ bytes) t → u ≡ option_map (λ text. text ++ summed_text (last_sum text) lines) t
append_text None u digits bytes lines whole last so is = is
append_text (Some text) u digits bytes lines whole last so is = is ∙ ap (λ (x : List ℕ). let o : Option (List ℕ) = Some (text ++ x) in o) (so ∙ ap (λ (d : List ℕ). summed_text d lines) last.0)

summed_so : (k m : Known) (digits bytes lines : List ℕ) (whole : Bool) → IsLastOf digits whole (text_of k) → bytes ≡ summed_text digits lines → AtAnyMoment k m (IsAppendedInPart k bytes) → AtAnyMoment k m (IsSummedInPart k lines)
summed_so None m digits bytes lines whole last so moments = moments
summed_so (Some c) m digits bytes lines whole last so moments = subst (λ (x : List ℕ). AtAnyMoment (Some c) m (IsAppendedInPart (Some c) x)) (so ∙ ap (λ (d : List ℕ). summed_text d lines) last.0) moments

-- what a crash leaves meanwhile
pub append_so : (k l m : Known) (digits bytes lines : List ℕ) (whole : Bool) → l ≡ k → IsLastOf digits whole (text_of k) → bytes ≡ summed_text digits lines → AtAnyMoment l m (IsAppendedInPart l bytes) → AtAnyMoment k m (IsSummedInPart k lines)
append_so k l m digits bytes lines whole same last so moments = summed_so k m digits bytes lines whole last so (subst (λ (x : Known). AtAnyMoment x m (IsAppendedInPart x bytes)) same moments)

-- the last sum after it, if the file was of whole lines
pub append_last : (t u : Option (List ℕ)) (digits bytes lines : List ℕ) (new : Sum) (whole : Bool) → IsLastOf digits whole t → whole ≡ true → bytes ≡ summed_text digits lines → u ≡ option_map (λ text. text ++ bytes) t → digits_of new ≡ sum_after digits (lines_of lines).whole → is_last_sum (Some new) u ≡ true
append_last t u digits bytes lines new whole last asked so is ends =
    last_known new u (last_appended t u digits lines (digits_of new) (subst (λ (b : Bool). IsLastOf digits b t) asked last) (append_text t u digits bytes lines whole last so is) ends)

-- other lines were put in place of those of a file
pub begin_so : (k m : Known) (digits bytes lines : List ℕ) → digits ≡ [] → bytes ≡ summed_text digits lines → AtAnyMoment k m (IsOldOrNew k bytes) → AtAnyMoment k m (IsOldOrNew k (summed_text [] lines))
begin_so k m digits bytes lines none so moments = subst (λ (x : List ℕ). AtAnyMoment k m (IsOldOrNew k x)) (so ∙ ap (λ (d : List ℕ). summed_text d lines) none) moments

pub begin_text : (t u : Option (List ℕ)) (digits bytes lines : List ℕ) → digits ≡ [] → bytes ≡ summed_text digits lines → u ≡ option_map (λ (text : List ℕ). bytes) t → u ≡ option_map (λ (text : List ℕ). summed_text [] lines) t
begin_text t u digits bytes lines none so is = is ∙ ap (λ (x : List ℕ). option_map (λ (text : List ℕ). x) t) (so ∙ ap (λ (d : List ℕ). summed_text d lines) none)

pub begin_last : (t u : Option (List ℕ)) (digits bytes lines : List ℕ) (new : Sum) → digits ≡ [] → bytes ≡ summed_text digits lines → u ≡ option_map (λ (text : List ℕ). bytes) t → digits_of new ≡ sum_after digits (lines_of lines).whole → is_last_sum (Some new) u ≡ true
begin_last t u digits bytes lines new none so is ends =
    last_known new u (last_begun t u lines (digits_of new) (begin_text t u digits bytes lines none so is) (ends ∙ ap (λ (d : List ℕ). sum_after d (lines_of lines).whole) none))

-- ---- what wasn't put

pub unmade_rests : (e : LogError) (k l : Known) (usable : Bool) → IsUnmade e usable (l ≡ k) → is_at_rest k ≡ true → usable ≡ true → is_at_rest l ≡ true
unmade_rests Stopped k l usable h rest is = absurd h
unmade_rests NotNext k l usable h rest is = absurd h
unmade_rests Memory k l usable h rest is = ap is_at_rest h.0 ∙ rest
unmade_rests (Failed error) k l usable h rest is = absurd (false≢true (sym h ∙ is))

pub unmade_last : (e : LogError) (k l : Known) (usable : Bool) (s : Option Sum) → IsUnmade e usable (l ≡ k) → is_last_sum s (text_of k) ≡ true → usable ≡ true → is_last_sum s (text_of l) ≡ true
unmade_last Stopped k l usable s h last is = absurd h
unmade_last NotNext k l usable s h last is = absurd h
unmade_last Memory k l usable s h last is = ap (λ (x : Known). is_last_sum s (text_of x)) h.0 ∙ last
unmade_last (Failed error) k l usable s h last is = absurd (false≢true (sym h ∙ is))

pub unmade_cause : (e : LogError) (u usable : Bool) (next same : Type 0) → IsUnmade e usable same → IsCause u next e
unmade_cause Stopped u usable next same h = absurd h
unmade_cause NotNext u usable next same h = absurd h
unmade_cause Memory u usable next same h = tt
unmade_cause (Failed error) u usable next same h = tt

pub unmade_kept : (e : LogError) (usable : Bool) (same : Type 0) → IsUnmade e usable same → IsKept e (same × (usable ≡ true))
unmade_kept Stopped usable same h = tt
unmade_kept NotNext usable same h = tt
unmade_kept Memory usable same h = h
unmade_kept (Failed error) usable same h = tt

pub unmade_failed : (T : Type 0) (e : LogError) (usable : Bool) (same : Type 0) → IsUnmade e usable same → IsFailed {T = T} (Err e) → usable ≡ false
unmade_failed T Stopped usable same h failed = absurd h
unmade_failed T NotNext usable same h failed = absurd h
unmade_failed T Memory usable same h failed = absurd failed
unmade_failed T (Failed error) usable same h failed = h
