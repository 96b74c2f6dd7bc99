-- Heads that are copied out of the bytes in which they were found.
use Rattle.std.proofs.Common.{◌≡◌, ◌≤◌, ◌-◌, ℕ, suc, List, [], ◌∷◌, ◌++◌, length, map, take, drop, get_or, All, ap, sym, subst, ◌∙◌, append-nil, append_assoc, arith}
use Rattle.std.proofs.Math.Seq.{take-append_seam}
use Rattle.std.proofs.lemmas.List.{map-append, take_all}
use Rattle.httparse.specs.Grammar.{print_request}
use Rattle.httparse.specs.Spans.{header_bytes, IsRequestOf}
use Rattle.httparse.specs.declared.spans.HeaderSpan.{HeaderSpan}
use Rattle.httparse.specs.declared.spans.RequestSpans.{RequestSpans}
use Rattle.kl1_host_door.specs.declared.field.Field.{Field}
use Rattle.kl1_host_door.specs.declared.head.Head.{Head}
use Rattle.kl1_host_door.specs.Heads.{pair_of, IsCopied, IsHead}

-- a front of n bytes is all of a text that stands there and has n bytes
front_is : (bytes text rest : List ℕ) (n : ℕ) → bytes ≡ text ++ rest → n ≡ length text → take n bytes ≡ text ++ []
front_is bytes text rest n whole long = ap (λ m. take m bytes) long ∙ ap (take (length text)) whole ∙ take-append_seam text rest ∙ sym (append-nil text)

-- what was copied of a head that was found is that head
pub copied : (bytes : List ℕ) (spans : List HeaderSpan) (request : RequestSpans) (head : Head) → IsRequestOf bytes spans request → IsCopied bytes spans request head → IsHead (take request.len bytes) head
copied bytes spans request head (h, found) copy = record {
  h = h;
  reads = (found.reads.0, front_is bytes (print_request h) (drop request.len bytes) request.len found.reads.1 found.len);
  method = copy.method ∙ found.method;
  target = copy.target ∙ found.path;
  minor = copy.minor ∙ found.version;
  fields = copy.fields ∙ found.fields;
}

-- ---- fields, one after another

rest_is : (s : HeaderSpan) (rest : List HeaderSpan) → take (suc (length rest) - 1) rest ≡ rest
rest_is s rest = take_all (suc (length rest) - 1) rest (omega arith)

-- one more field is copied
pub copied_more : (bytes : List ℕ) (copies more : List Field) (f : Field) (d : HeaderSpan) (rest all : List HeaderSpan) → 1 ≤ length rest → more ≡ copies ++ f ∷ [] → pair_of f ≡ header_bytes bytes (get_or rest 0 d) → map pair_of copies ++ map (header_bytes bytes) rest ≡ map (header_bytes bytes) all → map pair_of more ++ map (header_bytes bytes) (take (length rest - 1) (drop 1 rest)) ≡ map (header_bytes bytes) all
copied_more bytes copies more f d [] all some pushed is so_far = absurd (omega (arith, some))
copied_more bytes copies more f d (s ∷ rest) all some pushed is so_far =
    ap (λ l. map pair_of more ++ map (header_bytes bytes) l) (rest_is s rest)
    ∙ ap (λ l. l ++ map (header_bytes bytes) rest) (ap (map pair_of) pushed ∙ map-append pair_of copies (f ∷ []))
    ∙ append_assoc (map pair_of copies) (pair_of f ∷ []) (map (header_bytes bytes) rest)
    ∙ ap (λ x. map pair_of copies ++ x ∷ map (header_bytes bytes) rest) is
    ∙ so_far

-- what holds of all holds of those after the first
pub all_rest : (P : HeaderSpan → Type 0) (rest : List HeaderSpan) → 1 ≤ length rest → All P rest → All P (take (length rest - 1) (drop 1 rest))
all_rest P [] some all = absurd (omega (arith, some))
all_rest P (s ∷ rest) some all = subst (All P) (sym (rest_is s rest)) (λ k d within. all (suc k) d (omega (arith, within)))
