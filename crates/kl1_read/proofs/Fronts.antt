-- The front of a text goes by what its first byte begins.
use Rattle.std.proofs.Common.{◌≡◌, ℕ, ◌-◌, ◌≤◌, List, [], ◌∷◌, length, take, drop, slice_index_or, sym, ap, ◌∙◌, arith}
use Rattle.std.proofs.lemmas.List.{take_all}
use Rattle.kl1_model.specs.Token.{Front, front_of}
use Rattle.kl1_model.proofs.LexStarts.{start_of, front_by, front_starts}

-- a text that isn't empty is its first byte and those after it
first_and_rest : (text : List ℕ) → 1 ≤ length text → text ≡ slice_index_or text 0 0 ∷ take (length text - 1) (drop 1 text)
first_and_rest [] le =
    let no : ⊥ = omega (arith, le) in
    absurd no
first_and_rest (b ∷ bs) le =
    let all : length bs ≤ length bs = omega arith in
    let count : length bs ≡ length (b ∷ bs) - 1 = omega arith in
    ap (λ l. b ∷ l) (sym (take_all (length bs) bs all)) ∙ ap (λ n. b ∷ take n bs) count

-- what stands at the front of a text that isn't empty, by what its first byte begins
pub front_begins : (f : Front) (text : List ℕ) → 1 ≤ length text → f ≡ front_by (start_of (slice_index_or text 0 0)) (slice_index_or text 0 0) (take (length text - 1) (drop 1 text)) → f ≡ front_of text
front_begins f text le e = e ∙ front_starts (slice_index_or text 0 0) (take (length text - 1) (drop 1 text)) ∙ sym (ap front_of (first_and_rest text le))
