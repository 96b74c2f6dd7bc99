-- How a stream goes on from what a session waits for.
use Rattle.std.specs.Prelude.{◌≡◌, ℕ, ◌+◌, ◌≤◌, ◌<◌, false, List, ◌∷◌, ◌++◌, length, take, drop, min, codes, decimal, Option, Some, None}
use Rattle.kl1_model.specs.declared.limits.TheConstants.{MOST_COMMAND_BYTES, MOST_SOURCE_BYTES}
use Rattle.kl1_model.specs.Line.{without_return}
use Rattle.kl1_model.specs.Record.{source_bytes_in}
use Rattle.kl1_lines.specs.Records.{request_of}
use Rattle.kl1_model_server.specs.Cut.{has_feed, Cut, request_first, only_rest, load_cut, cut_of}
use Rattle.kl1_model_server.specs.code.Streams.{load_request, line_cut}
use Rattle.kl1_session.specs.declared.next.Next.{Next}
use Rattle.kl1_session.specs.declared.next.Next.TheVariants as next
use Rattle.kl1_session.specs.declared.ended.Ended.{Ended}
use Rattle.kl1_session.specs.declared.ended.Ended.TheVariants as ended

-- the cut of bytes that begin with a line, or that stand after the line of a load of n bytes
abbrev pub going : Option ℕ → List ℕ → Cut
going None bytes = cut_of bytes
going (Some n) bytes = load_cut cut_of n bytes

-- the rest of a stream of which these bytes are kept: those of an unfinished line, or those after the line of a load
abbrev pub rest_of : Option ℕ → List ℕ → List ℕ
rest_of None kept = kept
rest_of (Some n) kept = codes "load " ++ decimal n ++ 10 ∷ kept

-- no load asks for more bytes than a source may have
abbrev pub IsFew : Option ℕ → Type 0
IsFew None = Unit {0}
IsFew (Some n) = n ≤ MOST_SOURCE_BYTES

-- these bytes are no whole request, and no more of them are kept than tell how it goes on
abbrev pub IsKept : Option ℕ → List ℕ → Type 0
IsKept None kept = (has_feed kept ≡ false) × (length kept ≤ MOST_COMMAND_BYTES + 2)
IsKept (Some n) kept = (has_feed (drop n kept) ≡ false) × (length kept ≤ n + 2) × (n ≤ MOST_SOURCE_BYTES)

-- the cut that begins with the next request
abbrev pub cut_from : Next → Cut
cut_from (next.Found request behind) = request_first (request_of request) (cut_of behind.now)
cut_from (next.Waits source kept) = only_rest (rest_of source kept.now)

-- what waits is kept as it should be, and what stands after a request is shorter
abbrev pub IsNext : List ℕ → Next → Type 0
IsNext bytes (next.Found request behind) = length behind.now < length bytes
IsNext bytes (next.Waits source kept) = IsKept source kept.now

-- how many bytes come before the line feed that ends a request is looked for: a load's own
abbrev pub passed_by : Option ℕ → ℕ
passed_by None = 0
passed_by (Some n) = n

-- the most bytes that are kept
abbrev pub most_kept : Option ℕ → ℕ
most_kept None = MOST_COMMAND_BYTES + 2
most_kept (Some n) = n + 2

-- a line feed after these bytes ends them, and no line feed in them does
pub record IsWhole (source : Option ℕ) (bytes : List ℕ) : Type 0 where
  pub none : has_feed (drop (passed_by source) bytes) ≡ false
  pub all : passed_by source ≤ length bytes

-- what is kept ends in a piece, by these bytes and then a line feed
pub record EndsIn (source : Option ℕ) (kept piece front behind : List ℕ) : Type 0 where
  pub is : piece ≡ front ++ 10 ∷ behind
  pub whole : IsWhole source (kept ++ front)

-- the cut of bytes that a line feed ends, and of those after it
abbrev pub ending : Option ℕ → List ℕ → List ℕ → Cut
ending None bytes behind = line_cut cut_of (without_return bytes) behind (source_bytes_in (without_return bytes))
ending (Some n) bytes behind = request_first (load_request (take n bytes) (drop n bytes)) (cut_of behind)

-- the cut that begins with what was ended, and goes on with the bytes after it
abbrev pub ended_from : Ended → List ℕ → Cut
ended_from (ended.Asks request) behind = request_first (request_of request) (cut_of behind)
ended_from (ended.Loads n) behind = load_cut cut_of n behind

-- a load that was begun is no greater than one may be
abbrev pub IsEnded : Ended → Type 0
IsEnded (ended.Asks request) = Unit {0}
IsEnded (ended.Loads n) = n ≤ MOST_SOURCE_BYTES

-- how many of the bytes that are kept are those of a line, or of a load's source
abbrev pub pending_kept : Option ℕ → List ℕ → ℕ
pending_kept None kept = length kept
pending_kept (Some n) kept = min n (length kept)
