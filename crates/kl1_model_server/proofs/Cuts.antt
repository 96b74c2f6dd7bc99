-- The cut of a stream doesn't depend on where it comes in pieces.
use Rattle.std.proofs.Common.{◌≡◌, ℕ, zero, suc, ◌+◌, ◌<◌, ◌≤◌, ◌⊎◌, inl, inr, Bool, true, false, List, [], ◌∷◌, ◌++◌, length, take, drop, codes, decimal, Option, Some, None, refl, ap, sym, ◌∙◌, arith, append_assoc, length-append, length-take, length-drop}
use Rattle.std.proofs.lemmas.List.{append-nil, take_all, take-take, take-append-le, drop-append-le, drop-take}
use Rattle.std.proofs.lemmas.Bool.{true≢false, cases_lt, ne_eqb}
use Rattle.kl1_model.specs.declared.limits.TheConstants.{MOST_COMMAND_BYTES, MOST_SOURCE_BYTES}
use Rattle.kl1_model.specs.Line.{before_feed, behind_feed, without_return, line_in}
use Rattle.kl1_model.specs.Record.{Request, spoiled_load, other_line, load_before, source_bytes_in}
use Rattle.kl1_model_server.specs.Cut.{has_feed, Cut, request_first, only_rest, unfinished_line, load_cut, cut_within, cut_of}
use Rattle.kl1_model_server.specs.code.Streams.{load_request, line_cut}
use Rattle.kl1_model_server.specs.laws.InputLaws.{cut_after, CutsAnywhere, cut_in_pieces, joined, CutsInPieces}
use Rattle.kl1_model_server.proofs.Feeds.{behind_shorter, behind_less, feed_append, feed_front, Fed, fed_or, before_at, behind_at, feed_at, return_length, return_front}
use Rattle.kl1_model_server.proofs.Loads.{source_of_load, load_line, load_behind, load_feed, source_bounded, source_too_long}

-- what is kept of an unfinished load
abbrev unfinished_load : ℕ → List ℕ → List ℕ
unfinished_load n bytes = codes "load " ++ decimal n ++ 10 ∷ take (n + 2) bytes

-- what a line asks for that is no good load
abbrev line_request : List ℕ → Request
line_request line = other_line (take (MOST_COMMAND_BYTES + 1) line)

-- a text with a line feed has a byte
some_byte : (bs : List ℕ) → has_feed bs ≡ true → 0 < length bs
some_byte [] h = absurd (true≢false (sym h))
some_byte (b ∷ bs) h = omega arith

-- two ways to go on that agree on texts no longer than the rest make the same cut
same_load : (f g : List ℕ → Cut) (n : ℕ) (bytes : List ℕ) → ((bs : List ℕ) → length bs ≤ length bytes → f bs ≡ g bs) → load_cut f n bytes ≡ load_cut g n bytes
same_load f g n bytes h =
    let less : length (behind_feed (drop n bytes)) ≤ length bytes = omega (arith, behind_shorter (drop n bytes), length-drop n bytes) in
    ap (λ c. let cut : Cut = elim (has_feed (drop n bytes)) [ true ↦ request_first (load_before (take n bytes) (drop n bytes)) c | false ↦ only_rest (unfinished_load n bytes) ] in cut) (h (behind_feed (drop n bytes)) less)

same_line : (f g : List ℕ → Cut) (line bytes : List ℕ) (source : Option ℕ) → ((bs : List ℕ) → length bs ≤ length bytes → f bs ≡ g bs) → line_cut f line bytes source ≡ line_cut g line bytes source
same_line f g line bytes None h = ap (λ c. request_first (line_request line) c) (h bytes (omega arith))
same_line f g line bytes (Some n) h = same_load f g n bytes h

-- the cut of a text of which this says whether it has a line feed
by_feed : (n : ℕ) (bs : List ℕ) (v : Bool) → has_feed bs ≡ v → cut_within (suc n) bs ≡ elim v [ true ↦ line_cut (cut_within n) (line_in bs) (behind_feed bs) (source_bytes_in (line_in bs)) | false ↦ only_rest (unfinished_line bs) ]
unfolding cut_within
by_feed n bs v e =
    ap (λ w. let cut : Cut = elim w [ true ↦ line_cut (cut_within n) (line_in bs) (behind_feed bs) (source_bytes_in (line_in bs)) | false ↦ only_rest (unfinished_line bs) ] in cut) e

-- any two bounds above the length give the same
same_within : (n m : ℕ) (bs : List ℕ) (v : Bool) → has_feed bs ≡ v → length bs < n → length bs < m → cut_within n bs ≡ cut_within m bs
same_within zero m bs v e h k = absurd (omega arith)
same_within (suc n) zero bs v e h k = absurd (omega arith)
same_within (suc n) (suc m) bs false e h k = by_feed n bs false e ∙ sym (by_feed m bs false e)
same_within (suc n) (suc m) bs true e h k =
    let less : length (behind_feed bs) < length bs = behind_less bs (some_byte bs e) in
    let each : (cs : List ℕ) → length cs ≤ length (behind_feed bs) → cut_within n cs ≡ cut_within m cs = λ cs l. same_within n m cs (has_feed cs) refl (omega arith) (omega arith) in
    by_feed n bs true e ∙ same_line (cut_within n) (cut_within m) (line_in bs) (behind_feed bs) (source_bytes_in (line_in bs)) each ∙ sym (by_feed m bs true e)

-- an unfinished line is kept
pub cut_waits : (bs : List ℕ) → has_feed bs ≡ false → cut_of bs ≡ only_rest (unfinished_line bs)
cut_waits bs e = by_feed (length bs) bs false e

-- a line is complete
pub cut_line : (bs : List ℕ) → has_feed bs ≡ true → cut_of bs ≡ line_cut cut_of (line_in bs) (behind_feed bs) (source_bytes_in (line_in bs))
cut_line bs e =
    let less : length (behind_feed bs) < length bs = behind_less bs (some_byte bs e) in
    let each : (cs : List ℕ) → length cs ≤ length (behind_feed bs) → cut_within (length bs) cs ≡ cut_of cs = λ cs l. same_within (length bs) (suc (length cs)) cs (has_feed cs) refl (omega arith) (omega arith) in
    by_feed (length bs) bs true e ∙ same_line (cut_within (length bs)) cut_of (line_in bs) (behind_feed bs) (source_bytes_in (line_in bs)) each

pub cut_at : (a b : List ℕ) → has_feed a ≡ false → cut_of (a ++ 10 ∷ b) ≡ line_cut cut_of (without_return a) b (source_bytes_in (without_return a))
cut_at a b h =
    let by_line = ap (λ x. line_cut cut_of (without_return x) (behind_feed (a ++ 10 ∷ b)) (source_bytes_in (without_return x))) (before_at a b h) in
    cut_line (a ++ 10 ∷ b) (feed_at a b h) ∙ by_line ∙ ap (λ x. line_cut cut_of (without_return a) x (source_bytes_in (without_return a))) (behind_at a b h)

-- a kept load goes on as the load did
pub cut_load : (n : ℕ) (bytes : List ℕ) → n ≤ MOST_SOURCE_BYTES → cut_of (codes "load " ++ decimal n ++ 10 ∷ bytes) ≡ load_cut cut_of n bytes
cut_load n bytes h =
    let text : List ℕ = codes "load " ++ decimal n ++ 10 ∷ bytes in
    cut_line text (load_feed n bytes h) ∙ ap (λ x. line_cut cut_of x (behind_feed text) (source_bytes_in x)) (load_line n bytes h) ∙ ap (λ x. line_cut cut_of (codes "load " ++ decimal n) x (source_bytes_in (codes "load " ++ decimal n))) (load_behind n bytes h) ∙ ap (λ x. line_cut cut_of (codes "load " ++ decimal n) bytes x) (source_of_load n h)

-- a load that isn't complete, and one that is
pub load_waits : (f : List ℕ → Cut) (n : ℕ) (bytes : List ℕ) → has_feed (drop n bytes) ≡ false → load_cut f n bytes ≡ only_rest (unfinished_load n bytes)
load_waits f n bytes e = ap (λ v. let cut : Cut = elim v [ true ↦ request_first (load_before (take n bytes) (drop n bytes)) (f (behind_feed (drop n bytes))) | false ↦ only_rest (unfinished_load n bytes) ] in cut) e

pub load_at : (f : List ℕ → Cut) (n : ℕ) (bytes a b : List ℕ) → drop n bytes ≡ a ++ 10 ∷ b → has_feed a ≡ false → load_cut f n bytes ≡ request_first (load_request (take n bytes) a) (f b)
load_at f n bytes a b e h =
    let fed : has_feed (drop n bytes) ≡ true = ap has_feed e ∙ feed_at a b h in
    let before : before_feed (drop n bytes) ≡ a = ap before_feed e ∙ before_at a b h in
    let behind : behind_feed (drop n bytes) ≡ b = ap behind_feed e ∙ behind_at a b h in
    ap (λ v. let cut : Cut = elim v [ true ↦ request_first (load_before (take n bytes) (drop n bytes)) (f (behind_feed (drop n bytes))) | false ↦ only_rest (unfinished_load n bytes) ] in cut) fed ∙ ap (λ x. request_first (load_request (take n bytes) x) (f (behind_feed (drop n bytes)))) before ∙ ap (λ x. request_first (load_request (take n bytes) a) (f x)) behind

-- two bytes spoil a load
pub load_spoiled : (text behind : List ℕ) → 2 ≤ length behind → load_request text behind ≡ spoiled_load
load_spoiled text behind h =
    let some : 0 < length (without_return behind) = omega (arith, return_length behind) in
    rw (ne_eqb (length (without_return behind)) 0 (λ e. omega (arith, some, e))) refl

-- a line that is too long
pub long_line : (f : List ℕ → Cut) (a b : List ℕ) → MOST_COMMAND_BYTES + 2 ≤ length a → line_cut f (without_return a) b (source_bytes_in (without_return a)) ≡ request_first (other_line (take (MOST_COMMAND_BYTES + 1) a)) (f b)
long_line f a b h =
    let long : MOST_COMMAND_BYTES < length (without_return a) = omega (arith, return_length a) in
    let front : take (MOST_COMMAND_BYTES + 1) (without_return a) ≡ take (MOST_COMMAND_BYTES + 1) a = return_front (MOST_COMMAND_BYTES + 1) a (omega (arith, h)) in
    ap (λ x. line_cut f (without_return a) b x) (source_too_long (without_return a) long) ∙ ap (λ x. request_first (other_line x) (f b)) front

-- the front of a text whose front was taken before
pub take_front : (n : ℕ) (p q : List ℕ) → take n (take n p ++ q) ≡ take n (p ++ q)
take_front zero p q = refl
take_front (suc n) [] q = refl
take_front (suc n) (b ∷ bs) q = ap (λ x. b ∷ x) (take_front n bs q)

-- at a line feed
regrouped : (p a b : List ℕ) → p ++ (a ++ 10 ∷ b) ≡ (p ++ a) ++ 10 ∷ b
regrouped p a b = sym (append_assoc p a (10 ∷ b))

-- a long line and then a line feed
long_at : (p a b : List ℕ) → has_feed p ≡ false → has_feed a ≡ false → MOST_COMMAND_BYTES + 2 ≤ length p → cut_of (p ++ (a ++ 10 ∷ b)) ≡ request_first (other_line (take (MOST_COMMAND_BYTES + 1) p)) (cut_of b)
long_at p a b h k many =
    let none : has_feed (p ++ a) ≡ false = feed_append p a h ∙ k in
    let long : MOST_COMMAND_BYTES + 2 ≤ length (p ++ a) = omega (arith, length-append p a) in
    ap cut_of (regrouped p a b) ∙ cut_at (p ++ a) b none ∙ long_line cut_of (p ++ a) b long ∙ ap (λ x. request_first (other_line x) (cut_of b)) (take-append-le (MOST_COMMAND_BYTES + 1) p a (omega (arith, many)))

-- a long line that is kept goes on as it would have
long_goes_on : (p q : List ℕ) → has_feed p ≡ false → MOST_COMMAND_BYTES + 2 ≤ length p → (has_feed q ≡ false) ⊎ Fed q → cut_of (p ++ q) ≡ cut_of (unfinished_line p ++ q)
long_goes_on p q h many (inl none) =
    let whole : has_feed (p ++ q) ≡ false = feed_append p q h ∙ none in
    let cut : has_feed (unfinished_line p ++ q) ≡ false = feed_append (unfinished_line p) q (feed_front (MOST_COMMAND_BYTES + 2) p h) ∙ none in
    cut_waits (p ++ q) whole ∙ ap only_rest (sym (take_front (MOST_COMMAND_BYTES + 2) p q)) ∙ sym (cut_waits (unfinished_line p ++ q) cut)
long_goes_on p q h many (inr f) =
    let kept : has_feed (unfinished_line p) ≡ false = feed_front (MOST_COMMAND_BYTES + 2) p h in
    let long : MOST_COMMAND_BYTES + 2 ≤ length (unfinished_line p) = omega (arith, length-take (MOST_COMMAND_BYTES + 2) p, many) in
    let same : take (MOST_COMMAND_BYTES + 1) p ≡ take (MOST_COMMAND_BYTES + 1) (unfinished_line p) = sym (take-take (MOST_COMMAND_BYTES + 1) (MOST_COMMAND_BYTES + 2) p (omega arith)) in
    ap (λ x. cut_of (p ++ x)) f.is ∙ long_at p f.line f.behind h f.none many ∙ ap (λ x. request_first (other_line x) (cut_of f.behind)) same ∙ sym (long_at (unfinished_line p) f.line f.behind kept f.none long) ∙ ap (λ x. cut_of (unfinished_line p ++ x)) (sym f.is)

-- an unfinished line that is kept goes on as it would have
pub line_goes_on : (p q : List ℕ) → has_feed p ≡ false → cut_of (p ++ q) ≡ cut_of (unfinished_line p ++ q)
line_goes_on p q h = elim (cases_lt (length p) (MOST_COMMAND_BYTES + 2)) [
  | inl few ↦ ap (λ x. cut_of (x ++ q)) (sym (take_all (MOST_COMMAND_BYTES + 2) p (omega arith)))
  | inr many ↦ long_goes_on p q h many (fed_or q)
]

-- a load with bytes after it, and then a line feed
spoiled_at : (f : List ℕ → Cut) (n : ℕ) (p a b : List ℕ) → has_feed (drop n p) ≡ false → has_feed a ≡ false → n + 2 ≤ length p → load_cut f n (p ++ (a ++ 10 ∷ b)) ≡ request_first spoiled_load (f b)
spoiled_at f n p a b h k many =
    let none : has_feed (drop n p ++ a) ≡ false = feed_append (drop n p) a h ∙ k in
    let at : drop n (p ++ (a ++ 10 ∷ b)) ≡ (drop n p ++ a) ++ 10 ∷ b = drop-append-le n p (a ++ 10 ∷ b) (omega (arith, many)) ∙ regrouped (drop n p) a b in
    let two : 2 ≤ length (drop n p ++ a) = omega (arith, length-append (drop n p) a, length-drop n p, many) in
    load_at f n (p ++ (a ++ 10 ∷ b)) (drop n p ++ a) b at none ∙ ap (λ x. request_first x (f b)) (load_spoiled (take n (p ++ (a ++ 10 ∷ b))) (drop n p ++ a) two)

more_goes_on : (f : List ℕ → Cut) (n : ℕ) (p q : List ℕ) → has_feed (drop n p) ≡ false → n + 2 ≤ length p → (has_feed q ≡ false) ⊎ Fed q → load_cut f n (p ++ q) ≡ load_cut f n (take (n + 2) p ++ q)
more_goes_on f n p q h many (inl none) =
    let kept : drop n (take (n + 2) p) ≡ take 2 (drop n p) = drop-take n 2 p in
    let long : n ≤ length (take (n + 2) p) = omega (arith, length-take (n + 2) p, many) in
    let whole : has_feed (drop n (p ++ q)) ≡ false = ap has_feed (drop-append-le n p q (omega (arith, many))) ∙ feed_append (drop n p) q h ∙ none in
    let cut : has_feed (drop n (take (n + 2) p ++ q)) ≡ false = ap has_feed (drop-append-le n (take (n + 2) p) q long ∙ ap (λ x. x ++ q) kept) ∙ feed_append (take 2 (drop n p)) q (feed_front 2 (drop n p) h) ∙ none in
    load_waits f n (p ++ q) whole ∙ ap (λ x. only_rest (codes "load " ++ decimal n ++ 10 ∷ x)) (sym (take_front (n + 2) p q)) ∙ sym (load_waits f n (take (n + 2) p ++ q) cut)
more_goes_on f n p q h many (inr g) =
    let none : has_feed (drop n (take (n + 2) p)) ≡ false = ap has_feed (drop-take n 2 p) ∙ feed_front 2 (drop n p) h in
    let long : n + 2 ≤ length (take (n + 2) p) = omega (arith, length-take (n + 2) p, many) in
    ap (λ x. load_cut f n (p ++ x)) g.is ∙ spoiled_at f n p g.line g.behind h g.none many ∙ sym (spoiled_at f n (take (n + 2) p) g.line g.behind none g.none long) ∙ ap (λ x. load_cut f n (take (n + 2) p ++ x)) (sym g.is)

-- a load that is kept goes on as it would have
pub load_goes_on : (f : List ℕ → Cut) (n : ℕ) (p q : List ℕ) → has_feed (drop n p) ≡ false → load_cut f n (p ++ q) ≡ load_cut f n (take (n + 2) p ++ q)
load_goes_on f n p q h = elim (cases_lt (length p) (n + 2)) [
  | inl few ↦ ap (λ x. load_cut f n (x ++ q)) (sym (take_all (n + 2) p (omega arith)))
  | inr many ↦ more_goes_on f n p q h many (fed_or q)
]

-- after the line of a load, for texts of which shorter ones cut anywhere
load_after : (n : ℕ) (p q : List ℕ) → n ≤ MOST_SOURCE_BYTES → (has_feed (drop n p) ≡ false) ⊎ Fed (drop n p) → ((bs : List ℕ) → length bs ≤ length p → cut_of (bs ++ q) ≡ cut_after (cut_of bs) q) → load_cut cut_of n (p ++ q) ≡ cut_after (load_cut cut_of n p) q
load_after n p q few (inl none) next =
    let again : cut_of (unfinished_load n p ++ q) ≡ load_cut cut_of n (take (n + 2) p ++ q) = ap cut_of (append_assoc (codes "load " ++ decimal n) (10 ∷ take (n + 2) p) q) ∙ cut_load n (take (n + 2) p ++ q) few in
    load_goes_on cut_of n p q none ∙ sym again ∙ ap (λ c. cut_after c q) (sym (load_waits cut_of n p none))
load_after n p q few (inr f) next =
    let within : n ≤ length p = elim (cases_lt (length p) n) [ inl less ↦ absurd (omega (arith, ap length f.is, length-append f.line (10 ∷ f.behind), length-drop n p, less)) | inr more ↦ more ] in
    let shorter : length f.behind ≤ length p = omega (arith, ap length f.is, length-append f.line (10 ∷ f.behind), length-drop n p) in
    let at : drop n (p ++ q) ≡ f.line ++ 10 ∷ (f.behind ++ q) = drop-append-le n p q within ∙ ap (λ x. x ++ q) f.is ∙ append_assoc f.line (10 ∷ f.behind) q in
    load_at cut_of n (p ++ q) f.line (f.behind ++ q) at f.none ∙ ap (λ x. request_first (load_request x f.line) (cut_of (f.behind ++ q))) (take-append-le n p q within) ∙ ap (λ c. request_first (load_request (take n p) f.line) c) (next f.behind shorter) ∙ ap (λ c. cut_after c q) (sym (load_at cut_of n p f.line f.behind f.is f.none))

line_after : (line p q : List ℕ) (source : Option ℕ) → source_bytes_in line ≡ source → ((bs : List ℕ) → length bs ≤ length p → cut_of (bs ++ q) ≡ cut_after (cut_of bs) q) → line_cut cut_of line (p ++ q) source ≡ cut_after (line_cut cut_of line p source) q
line_after line p q None e next = ap (λ c. request_first (line_request line) c) (next p (omega arith))
line_after line p q (Some n) e next = load_after n p q (source_bounded line n e) (fed_or (drop n p)) next

-- the law for texts of fewer than m bytes
after_by : (m : ℕ) (p q : List ℕ) → (has_feed p ≡ false) ⊎ Fed p → length p < m → cut_of (p ++ q) ≡ cut_after (cut_of p) q
after_by zero p q c h = absurd (omega arith)
after_by (suc m) p q (inl none) h = line_goes_on p q none ∙ ap (λ c. cut_after c q) (sym (cut_waits p none))
after_by (suc m) p q (inr f) h =
    let less : length f.behind < length p = omega (arith, ap length f.is, length-append f.line (10 ∷ f.behind)) in
    let next : (bs : List ℕ) → length bs ≤ length f.behind → cut_of (bs ++ q) ≡ cut_after (cut_of bs) q = λ bs l. after_by m bs q (fed_or bs) (omega arith) in
    let line : List ℕ = without_return f.line in
    ap (λ x. cut_of (x ++ q)) f.is ∙ ap cut_of (append_assoc f.line (10 ∷ f.behind) q) ∙ cut_at f.line (f.behind ++ q) f.none ∙ line_after line f.behind q (source_bytes_in line) refl next ∙ ap (λ c. cut_after c q) (sym (cut_at f.line f.behind f.none)) ∙ ap (λ x. cut_after (cut_of x) q) (sym f.is)

pub cuts_anywhere : CutsAnywhere
cuts_anywhere p q = after_by (suc (length p)) p q (fed_or p) (omega arith)

pieces_from : (text : List ℕ) (pieces : List (List ℕ)) → cut_in_pieces (cut_of text) pieces ≡ cut_of (text ++ joined pieces)
pieces_from text [] = ap cut_of (sym (append-nil text))
pieces_from text (p ∷ ps) = ap (λ c. cut_in_pieces c ps) (sym (cuts_anywhere text p)) ∙ pieces_from (text ++ p) ps ∙ ap cut_of (append_assoc text p (joined ps))

pub cuts_in_pieces : CutsInPieces
cuts_in_pieces pieces = pieces_from [] pieces
