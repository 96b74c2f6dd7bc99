-- A stream from one of its lines on, and how much of its rest is pending.
use Rattle.std.specs.Prelude.{ℕ, ◌+◌, ◌==◌, true, false, if◌then◌else◌, List, length, take, min, Option, Some, None}
use Rattle.kl1_model.specs.declared.limits.TheConstants.{MOST_COMMAND_BYTES}
use Rattle.kl1_model.specs.Line.{behind_feed, without_return, line_in}
use Rattle.kl1_model.specs.Record.{Request, load_of, spoiled_load, other_line, source_bytes_in}
use Rattle.kl1_model_server.specs.Cut.{has_feed, Cut, request_first, load_cut}

-- what a load asks for, by its source and the bytes between that and the next line feed
abbrev pub load_request : List ℕ → List ℕ → Request
load_request text after = if length (without_return after) == 0 then load_of text else spoiled_load

-- the cut from a line on, by how many bytes the source has that follows it, if the line is a good load
abbrev pub line_cut : (List ℕ → Cut) → List ℕ → List ℕ → Option ℕ → Cut
line_cut next line bytes source =
    elim source [ None ↦ request_first (other_line (take (MOST_COMMAND_BYTES + 1) line)) (next bytes) | Some n ↦ load_cut next n bytes ]

-- how many bytes are kept of a load's source
abbrev pub pending_source : Option ℕ → List ℕ → ℕ
pending_source None bytes = 0
pending_source (Some n) bytes = min n (length bytes)

-- how many bytes a rest has of an unfinished line, or of the source of a load
abbrev pub pending_in : List ℕ → ℕ
pending_in rest = elim (has_feed rest) [ true ↦ pending_source (source_bytes_in (line_in rest)) (behind_feed rest) | false ↦ length rest ]
