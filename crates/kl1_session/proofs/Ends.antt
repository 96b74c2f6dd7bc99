-- Where what is kept ends in a piece, and how the stream goes on then.
use Rattle.std.proofs.Common.{◌≡◌, ℕ, ◌+◌, ◌-◌, ◌<◌, ◌≤◌, inl, inr, false, List, [], ◌∷◌, ◌++◌, length, take, drop, map, codes, decimal, Option, Some, None, refl, ap, sym, ◌∙◌, subst, arith, append_assoc, length-append, length-take, length-drop}
use Rattle.std.proofs.lemmas.List.{append-nil, take_all, drop_all, take-append-drop, drop-append-le, drop_at, drop-take, take-take, length-take-le}
use Rattle.std.proofs.Math.Seq.{take-add, take-append_seam, drop-append-add}
use Rattle.std.proofs.lemmas.Bool.{cases_lt}
use Rattle.kl1_model.specs.declared.limits.TheConstants.{MOST_COMMAND_BYTES}
use Rattle.kl1_model.specs.Record.{other_line}
use Rattle.kl1_model_server.specs.Cut.{has_feed, request_first, only_rest, cut_of}
use Rattle.kl1_model_server.specs.code.Streams.{load_request}
use Rattle.kl1_lines.specs.Places.{IsSplit}
use Rattle.kl1_model.specs.declared.rules.Rules.{Rules}
use Rattle.kl1_model_server.specs.Inputs.{inputs_in, inputs, rest}
use Rattle.kl1_session.specs.Going.{going, rest_of, IsFew, IsKept, passed_by, most_kept, IsWhole, EndsIn, ending}
use Rattle.kl1_session.specs.Asking.{input_view, Begins, Collects}
use Rattle.kl1_session.specs.declared.input.Input.{Input}
use Rattle.kl1_model_server.proofs.Feeds.{feed_append}
use Rattle.kl1_model_server.proofs.Cuts.{cut_waits, cut_at, cut_load, load_waits, load_at, load_spoiled, long_line}
use Rattle.kl1_session.proofs.Kept.{line_kept, load_kept}

-- what is left of two texts
drop_over : (n : ℕ) (xs ys : List ℕ) → drop n (xs ++ ys) ≡ drop n xs ++ drop (n - length xs) ys
drop_over n xs ys = elim (cases_lt (length xs) n) [
  | inl less ↦
      let e : length xs + (n - length xs) ≡ n = omega arith in
      ap (λ k. drop k (xs ++ ys)) (sym e) ∙ drop-append-add xs ys (n - length xs) ∙ ap (λ x. x ++ drop (n - length xs) ys) (sym (drop_all n xs (omega arith)))
  | inr more ↦
      let e : n - length xs ≡ 0 = omega arith in
      drop-append-le n xs ys more ∙ ap (λ k. drop n xs ++ drop k ys) (sym e)
]

-- a load that doesn't end in a piece
pub load_goes_past : (n m : ℕ) (kept piece : List ℕ) → m ≡ n - length kept → has_feed (drop n kept) ≡ false → has_feed (drop m piece) ≡ false → has_feed (drop n (kept ++ piece)) ≡ false
load_goes_past n m kept piece e k h =
    ap has_feed (drop_over n kept piece) ∙ feed_append (drop n kept) (drop (n - length kept) piece) k ∙ ap (λ x. has_feed (drop x piece)) (sym e) ∙ h

-- one that does
pub load_ends : (n m : ℕ) (kept piece tail behind : List ℕ) → m ≡ n - length kept → m < length piece → has_feed (drop n kept) ≡ false → IsSplit (drop m piece) tail behind → EndsIn (Some n) kept piece (take (m + length tail) piece) behind
load_ends n m kept piece tail behind e less k s =
    let front : take (m + length tail) piece ≡ take m piece ++ tail = take-add m (length tail) piece ∙ ap (λ x. take m piece ++ take (length tail) x) s.is ∙ ap (λ x. take m piece ++ x) (take-append_seam tail (10 ∷ behind)) in
    let long : length (take m piece) ≡ m = length-take-le m piece (omega arith) in
    let left : drop m (take (m + length tail) piece) ≡ tail = ap (λ x. drop m x) front ∙ drop_at (take m piece) tail m long in
    record {
      is = sym (take-append-drop m piece) ∙ ap (λ x. take m piece ++ x) s.is ∙ sym (append_assoc (take m piece) tail (10 ∷ behind)) ∙ ap (λ x. x ++ 10 ∷ behind) (sym front);
      whole = record {
        none = load_goes_past n m kept (take (m + length tail) piece) e k (ap has_feed left ∙ s.none);
        all = omega (arith, length-append kept (take (m + length tail) piece), ap length front, length-append (take m piece) tail, long, e);
      };
    }

-- a line
pub line_goes_past : (source : Option ℕ) (kept piece : List ℕ) → source ≡ None → IsKept source kept → has_feed piece ≡ false → has_feed (drop (passed_by source) (kept ++ piece)) ≡ false
line_goes_past None kept piece e k h = feed_append kept piece k.0 ∙ h
line_goes_past (Some n) kept piece e k h = cc

pub line_ends : (source : Option ℕ) (kept piece front behind : List ℕ) → source ≡ None → IsKept source kept → IsSplit piece front behind → EndsIn source kept piece front behind
line_ends None kept piece front behind e k s = record { is = s.is; whole = record { none = feed_append kept front k.0 ∙ s.none; all = omega arith } }
line_ends (Some n) kept piece front behind e k s = cc

-- what is kept is few
pub kept_few : (source : Option ℕ) (kept : List ℕ) → IsKept source kept → IsFew source
kept_few None kept k = tt
kept_few (Some n) kept k = k.2

-- a rest and more bytes go on as they would after what is kept
pub rest_goes_on : (source : Option ℕ) (kept piece : List ℕ) → IsFew source → cut_of (rest_of source kept ++ piece) ≡ going source (kept ++ piece)
rest_goes_on None kept piece few = refl
rest_goes_on (Some n) kept piece few = ap cut_of (append_assoc (codes "load " ++ decimal n) (10 ∷ kept) piece) ∙ cut_load n (kept ++ piece) few

-- bytes that are not whole
pub waits_on : (source : Option ℕ) (bytes : List ℕ) → has_feed (drop (passed_by source) bytes) ≡ false → going source bytes ≡ only_rest (rest_of source (take (most_kept source) bytes))
waits_on None bytes h = cut_waits bytes h
waits_on (Some n) bytes h = load_waits cut_of n bytes h

pub kept_on : (source : Option ℕ) (bytes : List ℕ) → IsFew source → has_feed (drop (passed_by source) bytes) ≡ false → IsKept source (take (most_kept source) bytes)
kept_on None bytes few h = line_kept bytes h
kept_on (Some n) bytes few h = load_kept n bytes few h

-- a whole line, of which only the front may be there
line_front : (x b : List ℕ) → ending None x b ≡ ending None (take (MOST_COMMAND_BYTES + 2) x) b
line_front x b = elim (cases_lt (length x) (MOST_COMMAND_BYTES + 2)) [
  | inl few ↦ ap (λ y. ending None y b) (sym (take_all (MOST_COMMAND_BYTES + 2) x (omega arith)))
  | inr many ↦
      let long : MOST_COMMAND_BYTES + 2 ≤ length (take (MOST_COMMAND_BYTES + 2) x) = omega (arith, length-take (MOST_COMMAND_BYTES + 2) x, many) in
      let same : take (MOST_COMMAND_BYTES + 1) x ≡ take (MOST_COMMAND_BYTES + 1) (take (MOST_COMMAND_BYTES + 2) x) = sym (take-take (MOST_COMMAND_BYTES + 1) (MOST_COMMAND_BYTES + 2) x (omega arith)) in
      long_line cut_of x b many ∙ ap (λ y. request_first (other_line y) (cut_of b)) same ∙ sym (long_line cut_of (take (MOST_COMMAND_BYTES + 2) x) b long)
]

load_front : (n : ℕ) (x b : List ℕ) → ending (Some n) x b ≡ ending (Some n) (take (n + 2) x) b
load_front n x b = elim (cases_lt (length x) (n + 2)) [
  | inl few ↦ ap (λ y. ending (Some n) y b) (sym (take_all (n + 2) x (omega arith)))
  | inr many ↦
      let one : 2 ≤ length (drop n x) = omega (arith, length-drop n x, many) in
      let two : 2 ≤ length (drop n (take (n + 2) x)) = omega (arith, length-drop n (take (n + 2) x), length-take (n + 2) x, many) in
      ap (λ r. request_first r (cut_of b)) (load_spoiled (take n x) (drop n x) one ∙ sym (load_spoiled (take n (take (n + 2) x)) (drop n (take (n + 2) x)) two))
]

pub ends_on : (source : Option ℕ) (x b : List ℕ) → IsWhole source x → going source (x ++ 10 ∷ b) ≡ ending source (take (most_kept source) x) b
ends_on None x b w = cut_at x b w.none ∙ line_front x b
ends_on (Some n) x b w =
    let front : take n (x ++ 10 ∷ b) ≡ take n x = Rattle.std.proofs.lemmas.List.take-append-le n x (10 ∷ b) w.all in
    load_at cut_of n (x ++ 10 ∷ b) (drop n x) b (drop-append-le n x (10 ∷ b) w.all) w.none ∙ ap (λ y. request_first (load_request y (drop n x)) (cut_of b)) front ∙ load_front n x b

-- what a piece makes of a session: what it asks for, and what is kept then
pub record Feeds (rules : Rules) (before piece : List ℕ) (asked : List Input) (source : Option ℕ) (kept : List ℕ) : Type 0 where
  pub inputs : map input_view asked ≡ inputs rules (before ++ piece)
  pub rest : rest_of source kept ≡ rest (before ++ piece)
  pub fits : IsKept source kept

-- a piece in which what is kept doesn't end
pub feeds_none : (rules : Rules) (source : Option ℕ) (kept lent piece new before : List ℕ) (most : ℕ) (asked : List Input) → IsKept source kept → rest_of source kept ≡ before → lent ≡ kept → most ≡ most_kept source → has_feed (drop (passed_by source) (lent ++ piece)) ≡ false → new ≡ take most (kept ++ piece) → asked ≡ [] → Feeds rules before piece asked source new
feeds_none rules source kept lent piece new before most asked k view l m none new_is empty =
    let still : has_feed (drop (passed_by source) (kept ++ piece)) ≡ false = ap (λ x. has_feed (drop (passed_by source) (x ++ piece))) (sym l) ∙ none in
    let front : new ≡ take (most_kept source) (kept ++ piece) = new_is ∙ ap (λ n. take n (kept ++ piece)) m in
    let cut : cut_of (before ++ piece) ≡ only_rest (rest_of source (take (most_kept source) (kept ++ piece))) =
    ap (λ x. cut_of (x ++ piece)) (sym view) ∙ rest_goes_on source kept piece (kept_few source kept k) ∙ waits_on source (kept ++ piece) still in
    record {
      inputs = ap (map input_view) empty ∙ ap (inputs_in rules) (sym cut);
      rest = ap (rest_of source) front ∙ ap (λ x. x.rest) (sym cut);
      fits = let P : List ℕ → Type 0 = λ x. IsKept source x in subst P (sym front) (kept_on source (kept ++ piece) (kept_few source kept k) still);
    }

-- a piece in which it ends
pub feeds_some : (rules : Rules) (source : Option ℕ) (kept lent lent' piece front behind whole lent'' before : List ℕ) (none begun asked : List Input) (next source' : Option ℕ) (left new : List ℕ) → IsKept source kept → rest_of source kept ≡ before → lent ≡ kept → lent' ≡ kept → lent'' ≡ whole → none ≡ [] → new ≡ left → EndsIn source lent piece front behind → whole ≡ take (most_kept source) (lent' ++ front) → Begins rules (ending source lent'') none begun next → Collects rules (going next behind) begun asked source' left → Feeds rules before piece asked source' new
feeds_some rules source kept lent lent' piece front behind whole lent'' before none begun asked next source' left new k view l l' l'' empty new_is e w b c =
    let P : List ℕ → Type 0 = λ x. EndsIn source x piece front behind in
    let ends : EndsIn source kept piece front behind = subst P l e in
    let whole_is : take (most_kept source) (kept ++ front) ≡ lent'' = ap (λ x. take (most_kept source) (x ++ front)) (sym l') ∙ sym w ∙ sym l'' in
    let cut : cut_of (before ++ piece) ≡ ending source lent'' behind =
    ap (λ x. cut_of (x ++ piece)) (sym view) ∙ rest_goes_on source kept piece (kept_few source kept k) ∙ ap (λ x. going source (kept ++ x)) ends.is ∙ ap (going source) (sym (append_assoc kept front (10 ∷ behind))) ∙ ends_on source (kept ++ front) behind ends.whole ∙ ap (λ x. ending source x behind) whole_is in
    record {
      inputs = c.inputs ∙ b.inputs behind ∙ ap (λ x. map input_view x ++ inputs_in rules (ending source lent'' behind)) empty ∙ ap (inputs_in rules) (sym cut);
      rest = ap (rest_of source') new_is ∙ c.rest ∙ b.rest behind ∙ ap (λ x. x.rest) (sym cut);
      fits = let Q : List ℕ → Type 0 = λ x. IsKept source' x in subst Q (sym new_is) c.fits;
    }
