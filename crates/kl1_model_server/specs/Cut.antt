-- What a stream of bytes asks for in its complete lines and loads, and what is left of it after them.
use Rattle.std.specs.Prelude.{ℕ, zero, suc, ◌+◌, ◌==◌, Bool, true, false, List, [], ◌∷◌, ◌++◌, length, take, drop, codes, decimal, Some, None}
use Rattle.std.specs.List.{list_any}
use Rattle.kl1_model.specs.declared.limits.TheConstants.{MOST_COMMAND_BYTES}
use Rattle.kl1_model.specs.Line.{behind_feed, line_in}
use Rattle.kl1_model.specs.Record.{Request, other_line, load_before, source_bytes_in}

-- whether there is a line feed
abbrev pub has_feed : List ℕ → Bool
has_feed bytes = list_any (λ b. b == 10) bytes

-- what a stream asks for, in order, and its rest
pub record Cut : Type 0 where
  pub requests : List Request
  pub rest : List ℕ

-- one more request in front
abbrev pub request_first : Request → Cut → Cut
request_first r c = record { requests = r ∷ c.requests; rest = c.rest }

-- nothing is complete
abbrev pub only_rest : List ℕ → Cut
only_rest bytes = record { requests = []; rest = bytes }

-- what is kept of an unfinished line: enough to tell whether it is too long, whatever follows
abbrev pub unfinished_line : List ℕ → List ℕ
unfinished_line bytes = take (MOST_COMMAND_BYTES + 2) bytes

-- the cut after a load's line: the load ends at the first line feed after its n bytes; without one, `load N` and at most n + 2 bytes stay
abbrev pub load_cut : (List ℕ → Cut) → ℕ → List ℕ → Cut
load_cut next n bytes =
    let after = drop n bytes in
    elim (has_feed after) [
      | true ↦ request_first (load_before (take n bytes) after) (next (behind_feed after))
      | false ↦ only_rest (codes "load " ++ decimal n ++ 10 ∷ take (n + 2) bytes)
    ]

-- the cut of a stream of fewer than n requests; a line that is too long is cut to one byte more than a line may have
unfoldable pub cut_within : ℕ → List ℕ → Cut
cut_within zero bytes = only_rest []
cut_within (suc n) bytes =
    let line = line_in bytes in
    let after = behind_feed bytes in
    elim (has_feed bytes) [
      | true ↦ elim (source_bytes_in line) [
        | None ↦ request_first (other_line (take (MOST_COMMAND_BYTES + 1) line)) (cut_within n after)
        | Some m ↦ load_cut (cut_within n) m after
      ]
      | false ↦ only_rest (unfinished_line bytes)
    ]

-- the cut of a stream
abbrev pub cut_of : List ℕ → Cut
cut_of bytes = cut_within (suc (length bytes)) bytes
