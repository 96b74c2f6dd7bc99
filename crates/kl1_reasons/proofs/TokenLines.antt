-- Tokens, items and the reader's faults are on lines of the text.
use Rattle.std.specs.Prelude.{ℕ, zero, suc, ◌+◌, ◌≤◌, Bool, true, false, List, [], ◌∷◌, ◌++◌, Option, Some, None, unwrap_or}
use Rattle.std.proofs.Common.{arith}
use Rattle.kl1_model.specs.Token.{Token, Front, finished, broken, line_end, blank, token, front_of, Placed, Tokens, tokens_by, tokens_within}
use Rattle.kl1_model.specs.Module.{Item, is_end, last_item, items_from}
use Rattle.kl1_reasons.proofs.Feeds.{feeds}
use Rattle.kl1_reasons.proofs.FrontFeeds.{LeavesFeeds, fronts_leave_feeds}

-- a line is from `low` to `high`
abbrev pub IsBetween : ℕ → ℕ → ℕ → Type 0
IsBetween low high line = (low ≤ line) × (line ≤ high)

-- a line, if there is one, is from `low` to `high`
abbrev pub IsOneBetween : ℕ → ℕ → Option ℕ → Type 0
IsOneBetween low high None = Unit {0}
IsOneBetween low high (Some line) = IsBetween low high line

-- tokens are on lines from `low` to `high`
abbrev pub EachBetween : ℕ → ℕ → List Placed → Type 0
EachBetween low high [] = Unit {0}
EachBetween low high (p ∷ ps) = IsBetween low high p.line × EachBetween low high ps

-- tokens and the place where there is none are on lines from `low` to `high`
abbrev pub AreBetween : ℕ → ℕ → Tokens → Type 0
AreBetween low high ts = EachBetween low high ts.placed × IsOneBetween low high ts.broken_at

-- items begin on lines from `low` to `high`
abbrev pub ItemsBetween : ℕ → ℕ → List Item → Type 0
ItemsBetween low high [] = Unit {0}
ItemsBetween low high (i ∷ is) = IsBetween low high i.line × ItemsBetween low high is

one_wider : (low high more most : ℕ) (x : Option ℕ) → more ≤ low → high ≤ most → IsOneBetween low high x → IsOneBetween more most x
one_wider low high more most None h j k = tt
one_wider low high more most (Some line) h j k = (omega (arith, k.0), omega (arith, k.1))

each_wider : (low high more most : ℕ) (ps : List Placed) → more ≤ low → high ≤ most → EachBetween low high ps → EachBetween more most ps
each_wider low high more most [] h j k = tt
each_wider low high more most (p ∷ ps) h j k = ((omega (arith, k.0.0), omega (arith, k.0.1)), each_wider low high more most ps h j k.1)

wider : (low high more most : ℕ) (ts : Tokens) → more ≤ low → high ≤ most → AreBetween low high ts → AreBetween more most ts
wider low high more most ts h j k = (each_wider low high more most ts.placed h j k.0, one_wider low high more most ts.broken_at h j k.1)

by_front : (next : ℕ → List ℕ → Tokens) (line most : ℕ) (f : Front) → LeavesFeeds most f → ((l : ℕ) (rest : List ℕ) → AreBetween l (l + feeds rest) (next l rest)) → AreBetween line (line + most) (tokens_by next line f)
unfolding LeavesFeeds
by_front next line most finished less go = (tt, tt)
by_front next line most broken less go = (tt, (omega arith, omega arith))
by_front next line most (line_end rest) less go =
    let fewer : suc (feeds rest) ≤ most = less in
    wider (suc line) (suc line + feeds rest) line (line + most) (next (suc line) rest) (omega arith) (omega (arith, fewer)) (go (suc line) rest)
by_front next line most (blank rest) less go =
    let fewer : feeds rest ≤ most = less in
    wider line (line + feeds rest) line (line + most) (next line rest) (omega arith) (omega (arith, fewer)) (go line rest)
by_front next line most (token t rest) less go =
    let fewer : feeds rest ≤ most = less in
    let after = wider line (line + feeds rest) line (line + most) (next line rest) (omega arith) (omega (arith, fewer)) (go line rest) in
    (((omega arith, omega arith), after.0), after.1)

-- the tokens of a text are on its lines
pub tokens_on_lines : (n line : ℕ) (bs : List ℕ) → AreBetween line (line + feeds bs) (tokens_within n line bs)
unfolding tokens_within
tokens_on_lines zero line bs = (tt, (omega arith, omega arith))
tokens_on_lines (suc n) line bs = by_front (tokens_within n) line (feeds bs) (front_of bs) (fronts_leave_feeds bs) (λ l rest. tokens_on_lines n l rest)

last_between : (low high : ℕ) (began broken_at : Option ℕ) → IsOneBetween low high began → IsOneBetween low high broken_at → ItemsBetween low high (last_item began broken_at)
last_between low high None None h j = tt
last_between low high None (Some line) h j = (j, tt)
last_between low high (Some line) broken_at h j = (h, tt)

began_between : (low high line : ℕ) (began : Option ℕ) → IsOneBetween low high began → IsBetween low high line → IsBetween low high (unwrap_or began line)
began_between low high line None h j = j
began_between low high line (Some first) h j = h

by_end : (low high line : ℕ) (x : Bool) (before : List (Token (List ℕ))) (t : Token (List ℕ)) (ps : List Placed) (broken_at : Option ℕ) → IsBetween low high line → ((began : Option ℕ) (ts : List (Token (List ℕ))) → IsOneBetween low high began → ItemsBetween low high (items_from began ts ps broken_at)) → ItemsBetween low high (let r : List Item = elim x [
  | true ↦ record { line = line; tokens = Some before } ∷ items_from None [] ps broken_at
  | false ↦ items_from (Some line) (before ++ t ∷ []) ps broken_at
] in r)
by_end low high line true before t ps broken_at h go = (h, go None [] tt)
by_end low high line false before t ps broken_at h go = go (Some line) (before ++ t ∷ []) h

-- items begin on the lines of their tokens
pub items_on_lines : (low high : ℕ) (ps : List Placed) (broken_at began : Option ℕ) (before : List (Token (List ℕ))) → EachBetween low high ps → IsOneBetween low high broken_at → IsOneBetween low high began → ItemsBetween low high (items_from began before ps broken_at)
items_on_lines low high [] broken_at began before h j k = last_between low high began broken_at k j
items_on_lines low high (p ∷ ps) broken_at began before h j k =
    by_end low high (unwrap_or began p.line) (is_end p.token) before p.token ps broken_at (began_between low high p.line began k h.0) (λ next ts is. items_on_lines low high ps broken_at next ts h.1 j is)
