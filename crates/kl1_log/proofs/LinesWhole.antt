-- Lines that are put are whole, and come after those that were put before.
use Rattle.std.proofs.Common.{◌≡◌, ℕ, Bool, true, false, if◌then◌else◌, List, [], ◌∷◌, ◌++◌, refl, sym, ap, ◌∙◌, append_assoc}
use Rattle.std.specs.Prelude.{nat_lt, ◌-◌}
use Rattle.std.specs.List.{list_all}
use Rattle.std.proofs.lemmas.Bool.{and_from}
use Rattle.std.proofs.lemmas.List.{append-nil}
use Rattle.std.proofs.lemmas.List.Folds.{list_all-append}
use mathlib.Core.List.{IsPrefix}
use Rattle.kl1_model_server.specs.Command.{written_line, written_lines}
use Rattle.kl1_model_server.specs.Journal.{runs}
use Rattle.kl1_model_server.specs.JournalText.{Lines, lines_of, entry_line}
use Rattle.kl1_model_server.specs.laws.TextLaws.{is_unbroken}
use Rattle.kl1_model_server.proofs.TextLines.{texts_are_lines}
use Rattle.kl1_sums.specs.Sums.{summed_text, last_sum, sum_after}
use Rattle.kl1_sums.proofs.TextsOfLines.{written_more, lines_read}
use Rattle.kl1_sums.proofs.SumTexts.{summed_then}
use Rattle.kl1_log.specs.Batches.{text_after, bytes_of, IsExtended}
use Rattle.kl1_log.specs.Later.{run_line}
use Rattle.kl1_log.specs.declared.change.Change.{Change}
use Rattle.kl1_log.specs.declared.change.Change.TheVariants.{Appends, Begins}
use Rattle.kl1_log.proofs.Waits.{rest_more}

-- bytes with a line feed after them
line_whole : (line : List ℕ) → (lines_of (written_line line)).rest ≡ []
line_whole line =
    let ts = texts_are_lines line in
    let w = (lines_of line).whole in
    let r = (lines_of line).rest in
    let split : written_line line ≡ written_lines (w ++ r ∷ []) =
    ap written_line (sym ts.0)
    ∙ append_assoc (written_lines w) r (10 ∷ [])
    ∙ ap (λ (x : List ℕ). written_lines w ++ x) (sym (append-nil (written_line r)))
    ∙ sym (written_more w (r ∷ [])) in
    let last : list_all is_unbroken (r ∷ []) ≡ true = and_from (is_unbroken r) true ts.2 refl in
    let all : list_all is_unbroken (w ++ r ∷ []) ≡ true = list_all-append is_unbroken w (r ∷ []) ∙ and_from (list_all is_unbroken w) (list_all is_unbroken (r ∷ [])) ts.1 last in
    ap (λ (x : List ℕ). (lines_of x).rest) split ∙ ap (λ (ls : Lines). ls.rest) (lines_read (w ++ r ∷ []) all)

lines_whole : (ls : List (List ℕ)) → (lines_of (written_lines ls)).rest ≡ []
lines_whole [] = refl
lines_whole (l ∷ ls) = rest_more (written_line l) (written_lines ls) (line_whole l) ∙ lines_whole ls

run_whole : (b : Bool) (line : List ℕ) → (lines_of (if b then written_line line else [])).rest ≡ []
run_whole true line = line_whole line
run_whole false line = refl

-- what a file gets so that it is that of a journal that has grown
pub grown_whole : (was is : ℕ) (more : List (List ℕ)) → (lines_of (run_line was is ++ written_lines more)).rest ≡ []
grown_whole was is more =
    rest_more (run_line was is) (written_lines more) (run_whole (nat_lt was is) (entry_line (runs (is - was)))) ∙ lines_whole more

-- nothing is whole lines
pub none_whole : (bytes : List ℕ) → bytes ≡ [] → (lines_of bytes).rest ≡ []
none_whole bytes is = ap (λ (x : List ℕ). (lines_of x).rest) is

-- whole lines after those that wait
pub extended_whole : (bytes : List ℕ) (old new : Change) → (lines_of (bytes_of old)).rest ≡ [] → (lines_of bytes).rest ≡ [] → IsExtended old bytes new → (lines_of (bytes_of new)).rest ≡ []
extended_whole bytes (Appends o) (Appends n) whole more is = ap (λ (x : List ℕ). (lines_of x).rest) is ∙ rest_more o.items bytes whole ∙ more
extended_whole bytes (Appends o) (Begins n) whole more is = absurd is
extended_whole bytes (Begins o) (Appends n) whole more is = absurd is
extended_whole bytes (Begins o) (Begins n) whole more is = ap (λ (x : List ℕ). (lines_of x).rest) is ∙ rest_more o.items bytes whole ∙ more

-- lines with their sums begin with those of the first of them
summed_longer : (prev old bytes new : List ℕ) → (lines_of old).rest ≡ [] → new ≡ old ++ bytes → IsPrefix (summed_text prev old) (summed_text prev new)
summed_longer prev old bytes new whole is =
    (summed_text (sum_after prev (lines_of old).whole) bytes, sym (summed_then prev old bytes whole) ∙ ap (summed_text prev) (sym is))

-- what a file has with more lines begins with what it has without them
pub extended_longer : (text bytes : List ℕ) (old new : Change) → (lines_of (bytes_of old)).rest ≡ [] → IsExtended old bytes new → IsPrefix (text_after text old) (text_after text new)
extended_longer text bytes (Appends o) (Appends n) whole is =
    let p = summed_longer (last_sum text) o.items bytes n.items whole is in
    (p.0, append_assoc text (summed_text (last_sum text) o.items) p.0 ∙ ap (λ (x : List ℕ). text ++ x) p.1)
extended_longer text bytes (Appends o) (Begins n) whole is = absurd is
extended_longer text bytes (Begins o) (Appends n) whole is = absurd is
extended_longer text bytes (Begins o) (Begins n) whole is = summed_longer [] o.items bytes n.items whole is

-- the same waits
pub same_whole : (old new : Change) → (lines_of (bytes_of old)).rest ≡ [] → bytes_of new ≡ bytes_of old → (lines_of (bytes_of new)).rest ≡ []
same_whole old new whole is = ap (λ (x : List ℕ). (lines_of x).rest) is ∙ whole
