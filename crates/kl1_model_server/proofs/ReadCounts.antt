-- The variables of tokens that were numbered are numbered by first occurrence, and there are no more than bytes.
use Rattle.std.specs.Prelude.{◌≡◌, ℕ, zero, suc, ◌+◌, ◌≤◌, max, nat_le, ◌&&◌, Bool, true, List, [], ◌∷◌, length}
use Rattle.std.specs.List.{list_all}
use Rattle.std.proofs.Common.{refl, ap, sym, ◌∙◌, arith}
use Rattle.std.proofs.lemmas.Bool.{and_parts, and_from, leb-true, le-leb}
use Rattle.std.proofs.lemmas.List.Folds.{list_all-append}
use Rattle.kl1_model.specs.Term.{Term, variable, integer, atom, structure, Terms, none, more}
use Rattle.kl1_model.specs.Token.{Token, name_token, variable_token, digits_token, minus_token, sign_token, end_token, Front, finished, broken, line_end, blank, token, front_of, Tokens, tokens_by, tokens_within, tokens_of_text}
use Rattle.kl1_model.specs.Grammar.{Numbered}
use Rattle.kl1_model.specs.Numbering.{seen_after, numbered_from}
use Rattle.kl1_model.specs.Meaning.{variables_of, variables_in, highest, highest_in, numbered_after}
use Rattle.kl1_model.specs.laws.ReadLaws.{LeavesLess}
use Rattle.kl1_model.proofs.LexSteps.{fronts_leave_less}
use Rattle.kl1_model.proofs.ReadMeans.{numbers_of}

-- numbering changes no token into two
pub length_numbered : (ts : List (Token (List ℕ))) (seen : List (List ℕ)) → length (numbered_from seen ts) ≡ length ts
length_numbered [] seen = refl
length_numbered (variable_token v ∷ ts) seen = ap suc (length_numbered ts (seen_after seen v))
length_numbered (name_token a q applied ∷ ts) seen = ap suc (length_numbered ts seen)
length_numbered (digits_token n ∷ ts) seen = ap suc (length_numbered ts seen)
length_numbered (minus_token digit ∷ ts) seen = ap suc (length_numbered ts seen)
length_numbered (sign_token s ∷ ts) seen = ap suc (length_numbered ts seen)
length_numbered (end_token ∷ ts) seen = ap suc (length_numbered ts seen)

-- there are no more variables than tokens
pub few_numbers : (ts : List Numbered) → length (numbers_of ts) ≤ length ts
few_numbers [] = omega arith
few_numbers (variable_token v ∷ ts) = omega (arith, few_numbers ts)
few_numbers (t ∷ ts) = omega (arith, few_numbers ts)

-- whether each number is at most `most`
abbrev pub are_upto : ℕ → List ℕ → Bool
are_upto most vs = list_all (λ v. nat_le v most) vs

-- numbers by first occurrence are no more than there are
pub numbered_upto : (vs : List ℕ) (k most : ℕ) → numbered_after k vs ≡ true → k + length vs ≤ most → are_upto most vs ≡ true
numbered_upto [] k most h within = refl
numbered_upto (v ∷ vs) k most h within =
    let here = and_parts (nat_le 1 v && nat_le v (suc k)) (numbered_after (max k v) vs) h in
    let last = leb-true v (suc k) (and_parts (nat_le 1 v) (nat_le v (suc k)) here.0).1 in
    and_from (nat_le v most) (are_upto most vs) (le-leb v most (omega arith)) (numbered_upto vs (max k v) most here.1 (omega arith))

-- if each variable has a number of at most `most`, the greatest has
mutual
  pub highest_upto : (t : Term) (most : ℕ) → are_upto most (variables_of t) ≡ true → highest t ≤ most
  highest_upto (variable n) most h = leb-true n most (and_parts (nat_le n most) true h).0
  highest_upto (integer i) most h = omega arith
  highest_upto (atom a) most h = omega arith
  highest_upto (structure f ts) most h = highest_in_upto ts most h

  highest_in_upto : (ts : Terms) (most : ℕ) → are_upto most (variables_in ts) ≡ true → highest_in ts ≤ most
  highest_in_upto none most h = omega arith
  highest_in_upto (more t ts) most h =
      let both = and_parts (are_upto most (variables_of t)) (are_upto most (variables_in ts)) (sym (list_all-append (λ v. nat_le v most) (variables_of t) (variables_in ts)) ∙ h) in
      omega (arith, highest_upto t most both.0, highest_in_upto ts most both.1)

-- fewer tokens after a front
few_by : (next : ℕ → List ℕ → Tokens) (line most : ℕ) (x : Front) → LeavesLess most x → ((l : ℕ) (rest : List ℕ) → length (next l rest).placed ≤ length rest) → length (tokens_by next line x).placed ≤ most
few_by next line most finished less few = omega arith
few_by next line most broken less few = omega arith
few_by next line most (line_end rest) less few = omega (arith, few (suc line) rest)
few_by next line most (blank rest) less few = omega (arith, few line rest)
few_by next line most (token t rest) less few = omega (arith, few line rest)

few_within : (n line : ℕ) (bs : List ℕ) → length (tokens_within n line bs).placed ≤ length bs
unfolding tokens_within
few_within zero line bs = omega arith
few_within (suc n) line bs = few_by (tokens_within n) line (length bs) (front_of bs) (fronts_leave_less bs) (few_within n)

-- a text has no more tokens than bytes
pub few_tokens : (bs : List ℕ) → length (tokens_of_text bs).placed ≤ length bs
few_tokens bs = few_within (suc (length bs)) 1 bs
