-- The variables of tokens that were numbered are numbered by first occurrence.
use Rattle.std.specs.Prelude.{◌≡◌, ℕ, suc, ◌≤◌, max, nat_le, nat_lt, ◌&&◌, Bool, true, false, if◌then◌else◌, List, [], ◌∷◌, ◌++◌, length, codes, bytes_eq}
use Rattle.std.proofs.Common.{refl, ap, sym, ◌∙◌, arith}
use Rattle.std.proofs.lemmas.Bool.{and_from, le-leb, ltb-true, ltb-false}
use Rattle.std.proofs.lemmas.List.{length-append}
use Rattle.kl1_model.specs.Token.{Token, name_token, variable_token, digits_token, minus_token, sign_token, end_token}
use Rattle.kl1_model.specs.Numbering.{place_of, variable_number, seen_after, numbered_from}
use Rattle.kl1_model.specs.Meaning.{numbered_after}
use Rattle.kl1_model.proofs.ReadMeans.{numbers_of}

-- a number that is the next one at most, from 1
record IsNext (seen n : ℕ) : Type 0 where
  some : 1 ≤ n
  within : n ≤ suc seen

place_case : (x : Bool) (seen n : ℕ) → IsNext seen n → IsNext (suc seen) (if x then 1 else suc n)
place_case true seen n h = record { some = omega arith; within = omega arith }
place_case false seen n h = record { some = omega arith; within = omega (arith, h.within) }

place_next : (seen : List (List ℕ)) (v : List ℕ) → IsNext (length seen) (place_of seen v)
place_next [] v = record { some = omega arith; within = omega arith }
place_next (s ∷ seen) v = place_case (bytes_eq s v) (length seen) (place_of seen v) (place_next seen v)

number_case : (x : Bool) (seen n : ℕ) → IsNext seen n → IsNext seen (if x then suc seen else n)
number_case true seen n h = record { some = omega arith; within = omega arith }
number_case false seen n h = h

number_next : (seen : List (List ℕ)) (v : List ℕ) → IsNext (length seen) (variable_number seen v)
number_next seen v = number_case (bytes_eq v (codes "_")) (length seen) (place_of seen v) (place_next seen v)

seen_case : (x : Bool) (seen : List (List ℕ)) (v : List ℕ) (n : ℕ) → nat_lt (length seen) n ≡ x → n ≤ suc (length seen) → length {A = List ℕ} (if x then seen ++ v ∷ [] else seen) ≡ max (length seen) n
seen_case true seen v n is within = omega (arith, ltb-true (length seen) n is, length-append seen (v ∷ []))
seen_case false seen v n is within = omega (arith, ltb-false (length seen) n is)

length_seen : (seen : List (List ℕ)) (v : List ℕ) → length (seen_after seen v) ≡ max (length seen) (variable_number seen v)
length_seen seen v = seen_case (nat_lt (length seen) (variable_number seen v)) seen v (variable_number seen v) refl (number_next seen v).within

-- tokens that were numbered have their variables numbered by first occurrence
pub numbered_in_order : (ts : List (Token (List ℕ))) (seen : List (List ℕ)) → numbered_after (length seen) (numbers_of (numbered_from seen ts)) ≡ true
numbered_in_order [] seen = refl
numbered_in_order (variable_token v ∷ ts) seen =
    let n = variable_number seen v in
    let next = number_next seen v in
    let behind = numbers_of (numbered_from (seen_after seen v) ts) in
    and_from (nat_le 1 n && nat_le n (suc (length seen))) (numbered_after (max (length seen) n) behind)
    (and_from (nat_le 1 n) (nat_le n (suc (length seen))) (le-leb 1 n next.some) (le-leb n (suc (length seen)) next.within))
    (ap (λ k. numbered_after k behind) (sym (length_seen seen v)) ∙ numbered_in_order ts (seen_after seen v))
numbered_in_order (name_token a q applied ∷ ts) seen = numbered_in_order ts seen
numbered_in_order (digits_token n ∷ ts) seen = numbered_in_order ts seen
numbered_in_order (minus_token digit ∷ ts) seen = numbered_in_order ts seen
numbered_in_order (sign_token s ∷ ts) seen = numbered_in_order ts seen
numbered_in_order (end_token ∷ ts) seen = numbered_in_order ts seen
