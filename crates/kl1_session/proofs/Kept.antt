-- What is kept of an unfinished line, and of an unfinished load.
use Rattle.std.proofs.Common.{◌≡◌, ℕ, ◌+◌, ◌-◌, ◌≤◌, true, false, List, ◌∷◌, ◌++◌, length, take, drop, min, codes, decimal, Option, Some, None, ap, sym, ◌∙◌, arith, length-take}
use Rattle.std.proofs.lemmas.List.{drop-take}
use Rattle.std.proofs.Math.Seq.{take-append-add}
use Rattle.std.proofs.lemmas.Bool.{true≢false}
use Rattle.kl1_model.specs.declared.limits.TheConstants.{MOST_COMMAND_BYTES, MOST_SOURCE_BYTES}
use Rattle.kl1_model.specs.Line.{behind_feed, without_return, line_in}
use Rattle.kl1_model.specs.Record.{source_bytes_in}
use Rattle.kl1_lines.specs.Places.{IsSplit}
use Rattle.kl1_model_server.specs.Cut.{has_feed, cut_of}
use Rattle.kl1_model_server.specs.code.Streams.{line_cut, pending_source, pending_in}
use Rattle.kl1_model_server.proofs.Feeds.{feed_front}
use Rattle.kl1_model_server.proofs.Loads.{source_of_load, load_line, load_behind, load_feed}
use Rattle.kl1_model_server.proofs.Cuts.{cut_at}
use Rattle.kl1_session.specs.Going.{rest_of, IsKept, pending_kept}

-- bytes after others, as far as there is room
pub kept_front : (xs ys : List ℕ) (most : ℕ) → length xs ≤ most → xs ++ take (most - length xs) ys ≡ take most (xs ++ ys)
kept_front xs ys most h =
    let e : length xs + (most - length xs) ≡ most = omega arith in
    sym (take-append-add xs ys (most - length xs)) ∙ ap (λ n. take n (xs ++ ys)) e

-- a line that is whole, with what it asks for
pub line_at : (bytes line behind l : List ℕ) (source : Option ℕ) → IsSplit bytes line behind → l ≡ without_return line → source ≡ source_bytes_in l → line_cut cut_of l behind source ≡ cut_of bytes
line_at bytes line behind l source s e f =
    ap (λ x. line_cut cut_of l behind x) f ∙ ap (λ x. line_cut cut_of x behind (source_bytes_in x)) e ∙ sym (cut_at line behind s.none) ∙ ap cut_of (sym s.is)

-- what is kept of an unfinished line, and of a load
pub line_kept : (bytes : List ℕ) → has_feed bytes ≡ false → IsKept None (take (MOST_COMMAND_BYTES + 2) bytes)
line_kept bytes h = (feed_front (MOST_COMMAND_BYTES + 2) bytes h, omega (arith, length-take (MOST_COMMAND_BYTES + 2) bytes))

pub load_kept : (n : ℕ) (bytes : List ℕ) → n ≤ MOST_SOURCE_BYTES → has_feed (drop n bytes) ≡ false → IsKept (Some n) (take (n + 2) bytes)
load_kept n bytes few h = (ap has_feed (drop-take n 2 bytes) ∙ feed_front 2 (drop n bytes) h, omega (arith, length-take (n + 2) bytes), few)

-- how many bytes of a rest are pending
pub pending_is : (source : Option ℕ) (kept : List ℕ) → IsKept source kept → pending_in (rest_of source kept) ≡ pending_kept source kept
pending_is None kept k = ap (λ v. let n : ℕ = elim v [ true ↦ pending_source (source_bytes_in (line_in kept)) (behind_feed kept) | false ↦ length kept ] in n) k.0
pending_is (Some n) kept k =
    let rest : List ℕ = codes "load " ++ decimal n ++ 10 ∷ kept in
    ap (λ v. let m : ℕ = elim v [ true ↦ pending_source (source_bytes_in (line_in rest)) (behind_feed rest) | false ↦ length rest ] in m) (load_feed n kept k.2) ∙ ap (λ x. pending_source (source_bytes_in x) (behind_feed rest)) (load_line n kept k.2) ∙ ap (λ x. pending_source x (behind_feed rest)) (source_of_load n k.2) ∙ ap (λ x. pending_source (Some n) x) (load_behind n kept k.2)

pub pending_some : (source : Option ℕ) (kept view : List ℕ) (n m : ℕ) → IsKept source kept → rest_of source kept ≡ view → source ≡ Some n → m ≡ min n (length kept) → m ≡ pending_in view
pending_some source kept view n m k v s e =
    e ∙ sym (ap (λ x. pending_kept x kept) s) ∙ sym (pending_is source kept k) ∙ ap pending_in v

-- a rest without a line feed is no load's
pub no_load : (source : Option ℕ) (kept view : List ℕ) (n : ℕ) → IsKept source kept → rest_of source kept ≡ view → source ≡ Some n → has_feed view ≡ false → ⊥
no_load None kept view n k v s h = cc
no_load (Some m) kept view n k v s h = true≢false (sym (load_feed m kept k.2) ∙ ap has_feed v ∙ h)
