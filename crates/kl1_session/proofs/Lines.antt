-- The lines of a file, and its entries.
use Rattle.std.proofs.Common.{◌≡◌, ℕ, ◌<◌, ◌≤◌, eqb, Bool, true, false, ◌||◌, List, [], ◌∷◌, ◌++◌, length, refl, ap, sym, ◌∙◌, arith, append_assoc, length-append, Option, Some, None, option_map, map, if◌then◌else◌}
use Rattle.std.specs.Prelude.{option_and_then}
use Rattle.std.specs.List.{list_all}
use Rattle.std.proofs.lemmas.Bool.{true≢false, le-leb, lt-leb}
use Rattle.std.proofs.lemmas.List.{length-map}
use Rattle.kl1_model.specs.declared.limits.TheConstants.{MOST_ACCOUNTS}
use Rattle.kl1_lines.specs.Places.{has_byte, IsSplit}
use Rattle.kl1_model_server.specs.JournalText.{Lines, lines_of}
use Rattle.kl1_model_server.proofs.TextLines.{byte_first, line_first}
use Rattle.kl1_model_server.specs.Script.{are_distinct}
use Rattle.kl1_session.specs.Limits.{most_file_bytes, most_key_bytes}
use Rattle.kl1_session.specs.Files.{Entry, last_line, file_lines, are_fit, accounts_of, is_key_byte, is_key, entry_in, entries_in}
use Rattle.kl1_session.specs.Views.{FirstLine, entry_view, entries_view}
use Rattle.kl1_session.specs.declared.key.Key.{Key}

-- a line in front of others
abbrev whole_first : List ℕ → Lines → Lines
whole_first a ls = record { whole = a ∷ ls.whole; rest = ls.rest }

lines_front : (a b : List ℕ) → has_byte 10 a ≡ false → lines_of (a ++ 10 ∷ b) ≡ whole_first a (lines_of b)
lines_front [] b h = refl
lines_front (x ∷ a) b h =
    elim (eqb x 10) as (λ v. (v || has_byte 10 a) ≡ false → (let ls : Lines = elim v [ true ↦ line_first (lines_of (a ++ 10 ∷ b)) | false ↦ byte_first x (lines_of (a ++ 10 ∷ b)).whole (lines_of (a ++ 10 ∷ b)).rest ] in ls ≡ whole_first (x ∷ a) (lines_of b))) [
      | true ↦ λ e. absurd (true≢false e)
      | false ↦ λ e. ap (λ ls. byte_first x ls.whole ls.rest) (lines_front a b e)
    ] h

-- a text without a line feed has no whole line
abbrev no_whole : List ℕ → Lines
no_whole a = record { whole = []; rest = a }

lines_none : (a : List ℕ) → has_byte 10 a ≡ false → lines_of a ≡ no_whole a
lines_none [] h = refl
lines_none (x ∷ a) h =
    elim (eqb x 10) as (λ v. (v || has_byte 10 a) ≡ false → (let ls : Lines = elim v [ true ↦ line_first (lines_of a) | false ↦ byte_first x (lines_of a).whole (lines_of a).rest ] in ls ≡ no_whole (x ∷ a))) [
      | true ↦ λ e. absurd (true≢false e)
      | false ↦ λ e. ap (λ ls. byte_first x ls.whole ls.rest) (lines_none a e)
    ] h

pub first_of_more : (text line after : List ℕ) → IsSplit text line after → FirstLine text line after
first_of_more text line after s = record {
  lines = λ _. ap file_lines s.is ∙ ap (λ ls. ls.whole ++ last_line ls.rest) (lines_front line after s.none);
  less = λ _. omega (arith, ap length s.is, length-append line (10 ∷ after));
}

pub first_of_one : (text : List ℕ) → has_byte 10 text ≡ false → FirstLine text text []
first_of_one [] h = record { lines = λ k. absurd (omega arith); less = λ k. k }
first_of_one (x ∷ a) h = record { lines = λ _. ap (λ ls. ls.whole ++ last_line ls.rest) (lines_none (x ∷ a) h); less = λ k. k }

-- a word that isn't empty and isn't too long
pub key_fits : (w : List ℕ) → 0 < length w → length w ≤ most_key_bytes → list_all is_key_byte w ≡ is_key w
key_fits w h k = rw (le-leb 1 (length w) h, le-leb (length w) most_key_bytes k) refl

-- one more entry after those that were read
more_of : (done : List Entry) (e : Entry) (o : Option (List Entry)) → option_map (λ es. done ++ es) (option_map (λ es. e ∷ es) o) ≡ option_map (λ es. (done ++ e ∷ []) ++ es) o
more_of done e None = refl
more_of done e (Some es) = ap Some (sym (append_assoc done (e ∷ []) es))

pub entries_more : (done : List Entry) (e : Entry) (text line after : List ℕ) → FirstLine text line after → 0 < length text → Some e ≡ entry_in line → option_map (λ es. (done ++ e ∷ []) ++ es) (entries_in (file_lines after)) ≡ option_map (λ es. done ++ es) (entries_in (file_lines text))
entries_more done e text line after f h k =
    sym (ap (λ ls. option_map (λ es. done ++ es) (entries_in ls)) (f.lines h) ∙ ap (λ o. option_map (λ es. done ++ es) (option_and_then (λ x. option_map (λ es. x ∷ es) (entries_in (file_lines after))) o)) (sym k) ∙ more_of done e (entries_in (file_lines after)))

pub entries_bad : (done : List Entry) (text line after : List ℕ) → FirstLine text line after → 0 < length text → None ≡ entry_in line → None ≡ option_map (λ es. done ++ es) (entries_in (file_lines text))
entries_bad done text line after f h k =
    sym (ap (λ ls. option_map (λ es. done ++ es) (entries_in ls)) (f.lines h) ∙ ap (λ o. option_map (λ es. done ++ es) (option_and_then (λ x. option_map (λ es. x ∷ es) (entries_in (file_lines after))) o)) (sym k))

-- entries that are fit, or not
pub fit_by : (ks : List Key) → 0 < length ks → length ks ≤ MOST_ACCOUNTS → are_distinct (map (λ e. e.name) (entries_view ks)) ≡ are_fit (entries_view ks)
fit_by ks h k =
    let n : length (entries_view ks) ≡ length ks = length-map ks entry_view in
    rw (n, le-leb 1 (length ks) h, le-leb (length ks) MOST_ACCOUNTS k) refl

pub fit_none : (ks : List Key) → length ks < 1 → false ≡ are_fit (entries_view ks)
fit_none ks h =
    let n : length (entries_view ks) ≡ length ks = length-map ks entry_view in
    rw (n, lt-leb 1 (length ks) h) refl

pub fit_many : (ks : List Key) → MOST_ACCOUNTS < length ks → false ≡ are_fit (entries_view ks)
fit_many ks h =
    let n : length (entries_view ks) ≡ length ks = length-map ks entry_view in
    rw (n, le-leb 1 (length ks) (omega (arith, h)), lt-leb (length ks) MOST_ACCOUNTS h) refl

pub accounts_by : (bytes : List ℕ) (es : List Entry) (v : Bool) → length bytes ≤ most_file_bytes → Some es ≡ entries_in (file_lines bytes) → v ≡ are_fit es → (if v then Some es else None) ≡ accounts_of bytes
accounts_by bytes es v h e f =
    sym (rw (le-leb (length bytes) most_file_bytes h) (ap (option_and_then (λ xs. if are_fit xs then Some xs else None)) (sym e) ∙ ap (λ t. if t then Some es else None) (sym f)))
