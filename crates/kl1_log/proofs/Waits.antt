-- What waits for a file.
use Rattle.std.proofs.Common.{◌≡◌, ℕ, true, List, [], ◌++◌, sym, ap, ◌∙◌, subst, append_assoc, suc, inl, inr, ◌⊎◌}
use Rattle.std.specs.Prelude.{bytes_eq, Vec}
use Rattle.std.specs.declared.alloc.Global.{Global}
use Rattle.std.proofs.lemmas.List.{append-nil}
use Rattle.std.proofs.lemmas.Slice.Eq.{bytes_eq-Decides}
use Rattle.kl1_model_server.specs.Journal.{Journal}
use Rattle.kl1_model_server.specs.JournalText.{Lines, lines_of}
use Rattle.kl1_model_server.proofs.TextLines.{texts_are_lines}
use Rattle.kl1_sums.specs.Sums.{summed_text, plain_text, last_sum}
use Rattle.kl1_sums.proofs.TextsOfLines.{lines_then, whole_is}
use Rattle.kl1_sums.proofs.SumTexts.{text_comes_off, plain_read, nothing_after, texts_go_on}
use Rattle.kl1_log.specs.Deeds.{HasSums, IsPlainFile, IsFile}
use Rattle.kl1_log.specs.Batches.{text_after, IsExtended}
use Rattle.kl1_log.specs.Waits.{IsCounted, Fits}
use Rattle.kl1_log.specs.declared.change.Change.{Change}
use Rattle.kl1_log.specs.declared.change.Change.TheVariants.{Appends, Begins}
use Rattle.kl1_log.proofs.LinesCut.{text_of_journal}

-- ---- texts of whole lines

-- what is after the last line feed of two texts, if the first is of whole lines
pub rest_more : (a b : List ℕ) → (lines_of a).rest ≡ [] → (lines_of (a ++ b)).rest ≡ (lines_of b).rest
rest_more a b none = ap (λ (x : List ℕ). (lines_of (x ++ b)).rest) (whole_is a none) ∙ ap (λ (ls : Lines). ls.rest) (lines_then (lines_of a).whole b (texts_are_lines a).1)

plain_rest : (text : List ℕ) → HasSums text → (lines_of (plain_text text)).rest ≡ []
plain_rest text sums = ap (λ (ls : Lines). ls.rest) (plain_read text) ∙ nothing_after text sums

-- a file without sums is of whole lines
pub anew_fits : (bytes : List ℕ) (j : Journal) → IsPlainFile bytes j → (lines_of bytes).rest ≡ []
anew_fits bytes j f = (text_of_journal bytes f.read f.is).none

-- the lines of a file with their sums
pub anew_file : (bytes : List ℕ) (j : Journal) → IsPlainFile bytes j → IsFile (summed_text [] bytes) j
anew_file bytes j f =
    let off = text_comes_off bytes (anew_fits bytes j f) in
    record {
      sums = ap (summed_text []) (sym off);
      plain = subst (λ (x : List ℕ). IsPlainFile x j) (sym off) f;
    }

-- ---- what waits

nothing_put : (text none : List ℕ) → none ≡ [] → text ++ summed_text (last_sum text) none ≡ text
nothing_put text none is = ap (λ (x : List ℕ). text ++ summed_text (last_sum text) x) is ∙ append-nil text

-- nothing waits
pub taken_file : (text : List ℕ) (j : Journal) (none : Vec ℕ Global) → none.items ≡ [] → IsFile text j → IsFile (text_after text (Appends none)) j
taken_file text j none is f = subst (λ (x : List ℕ). IsFile x j) (sym (nothing_put text none.items is)) f

pub taken_fits : (text : List ℕ) (j : Journal) (none : Vec ℕ Global) → none.items ≡ [] → IsFile text j → Fits text (Appends none)
taken_fits text j none is f = (f.sums, ap (λ (x : List ℕ). (lines_of x).rest) is)

-- the file of a journal by another spelling
pub same_file : (text other : List ℕ) (j : Journal) → other ≡ text → IsFile text j → IsFile other j
same_file text other j is f = subst (λ (x : List ℕ). IsFile x j) (sym is) f

-- nothing waits for a file that has the text of the journal
pub own_file : (text own written : List ℕ) (j : Journal) → bytes_eq text written ≡ true → written ≡ summed_text [] own → IsPlainFile own j → IsFile text j
own_file text own written j same is f = same_file (summed_text [] own) text j ((bytes_eq-Decides text written).0 same ∙ is) (anew_file own j f)

-- more lines are put after those that wait
after_extended : (text bytes : List ℕ) (old new : Change) → Fits text old → IsExtended old bytes new → text_after text new ≡ summed_text [] (plain_text (text_after text old) ++ bytes)
after_extended text bytes (Appends o) (Appends n) fits is =
    let p = plain_text text in
    let whole : (lines_of (p ++ o.items)).rest ≡ [] = rest_more p o.items (plain_rest text fits.0) ∙ fits.1 in
    let before : plain_text (text ++ summed_text (last_sum text) o.items) ≡ p ++ o.items = ap plain_text (texts_go_on text o.items fits.0) ∙ text_comes_off (p ++ o.items) whole in
    ap (λ (x : List ℕ). text ++ summed_text (last_sum text) x) is
    ∙ texts_go_on text (o.items ++ bytes) fits.0
    ∙ ap (summed_text []) (sym (append_assoc p o.items bytes) ∙ ap (λ (x : List ℕ). x ++ bytes) (sym before))
after_extended text bytes (Appends o) (Begins n) fits is = absurd is
after_extended text bytes (Begins o) (Appends n) fits is = absurd is
after_extended text bytes (Begins o) (Begins n) fits is = ap (summed_text []) (is ∙ ap (λ (x : List ℕ). x ++ bytes) (sym (text_comes_off o.items fits)))

pub grown_file_waits : (text bytes : List ℕ) (j : Journal) (old new : Change) → Fits text old → IsExtended old bytes new → IsPlainFile (plain_text (text_after text old) ++ bytes) j → IsFile (text_after text new) j
grown_file_waits text bytes j old new fits is f =
    let p = plain_text (text_after text old) ++ bytes in
    same_file (summed_text [] p) (text_after text new) j (after_extended text bytes old new fits is) (anew_file p j f)

extended_fits : (text bytes : List ℕ) (old new : Change) → (lines_of bytes).rest ≡ [] → Fits text old → IsExtended old bytes new → Fits text new
extended_fits text bytes (Appends o) (Appends n) none fits is = (fits.0, ap (λ (x : List ℕ). (lines_of x).rest) is ∙ rest_more o.items bytes fits.1 ∙ none)
extended_fits text bytes (Appends o) (Begins n) none fits is = absurd is
extended_fits text bytes (Begins o) (Appends n) none fits is = absurd is
extended_fits text bytes (Begins o) (Begins n) none fits is = ap (λ (x : List ℕ). (lines_of x).rest) is ∙ rest_more o.items bytes fits ∙ none

pub grown_fits : (text bytes : List ℕ) (i j : Journal) (old new : Change) → Fits text old → IsExtended old bytes new → IsFile (text_after text old) i → IsPlainFile (plain_text (text_after text old) ++ bytes) j → Fits text new
grown_fits text bytes i j old new fits is was f =
    let p = plain_text (text_after text old) in
    let none : (lines_of bytes).rest ≡ [] = sym (rest_more p bytes (anew_fits p i was.plain)) ∙ anew_fits (p ++ bytes) j f in
    extended_fits text bytes old new none fits is

-- nothing was put after what waits
pub same_after : (text bytes : List ℕ) (old new : Change) → bytes ≡ [] → IsExtended old bytes new → text_after text new ≡ text_after text old
same_after text bytes (Appends o) (Appends n) none is = ap (λ (x : List ℕ). text ++ summed_text (last_sum text) x) (is ∙ ap (λ (x : List ℕ). o.items ++ x) none ∙ append-nil o.items)
same_after text bytes (Appends o) (Begins n) none is = absurd is
same_after text bytes (Begins o) (Appends n) none is = absurd is
same_after text bytes (Begins o) (Begins n) none is = ap (summed_text []) (is ∙ ap (λ (x : List ℕ). o.items ++ x) none ∙ append-nil o.items)

-- what is counted of a change that gets these bytes after it
pub counted_on : (old n : ℕ) (bytes : List ℕ) (before after : Change) → IsCounted old bytes n → IsExtended before bytes after → (n ≡ suc old) ⊎ ((n ≡ old) × ((text : List ℕ) → text_after text after ≡ text_after text before))
counted_on old n bytes before after (inl more) so = inl more
counted_on old n bytes before after (inr same) so = inr (same.0, λ text. same_after text bytes before after same.1 so)
