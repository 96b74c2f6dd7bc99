-- The digits in front of a text, and amounts that are too much.
use Rattle.std.proofs.Common.{◌≡◌, ℕ, ◌-◌, ◌*◌, ◌<◌, ◌≤◌, true, false, List, [], ◌∷◌, ◌++◌, length, take, None, refl, ap, sym, ◌∙◌, arith, length-append}
use Rattle.std.proofs.lemmas.Bool.{lt-leb}
use Rattle.std.proofs.Math.Seq.{take-append_seam}
use Rattle.std.proofs.Math.Nat.{le-mul_of_pos_right}
use Rattle.kl1_model.specs.Token.{is_digit, digits_of, behind_digits}
use Rattle.kl1_host_front.specs.Quantities.{up_to}

-- the digits, and what is after them, are the text
digits_split : (text : List ℕ) → digits_of text ++ behind_digits text ≡ text
digits_split [] = refl
digits_split (b ∷ bs) =
    elim (is_digit b) as (λ v. (let ds : List ℕ = elim v [ true ↦ b ∷ digits_of bs | false ↦ [] ] in ds) ++ (let rest : List ℕ = elim v [ true ↦ behind_digits bs | false ↦ b ∷ bs ] in rest) ≡ b ∷ bs) [
      | true ↦ ap (λ x. b ∷ x) (digits_split bs)
      | false ↦ refl
    ]

front_of : (xs ys text : List ℕ) → xs ++ ys ≡ text → take (length text - length ys) text ≡ xs
front_of xs ys text e =
    let n : length text - length ys ≡ length xs = omega (arith, ap length e, length-append xs ys) in
    ap (λ k. take k text) n ∙ ap (λ t. take (length xs) t) (sym e) ∙ take-append_seam xs ys

-- the bytes before what is after the digits are the digits
pub digits_are : (text behind : List ℕ) → behind ≡ behind_digits text → take (length text - length behind) text ≡ digits_of text
digits_are text behind e = ap (λ b. take (length text - length b) text) e ∙ front_of (digits_of text) (behind_digits text) text (digits_split text)

-- more than is allowed, of one unit or of more
pub too_many : (most n u : ℕ) → 1 ≤ u → most < n → None ≡ up_to most (n * u)
too_many most n u h k =
    let more : n ≤ n * u = le-mul_of_pos_right n (omega (arith, h)) in
    rw (lt-leb (n * u) most (omega (arith, more, k))) refl
