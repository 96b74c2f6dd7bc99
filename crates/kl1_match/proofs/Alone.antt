-- Of a clause without tests but `true` whose head repeats no variable the match alone decides.
use Rattle.std.proofs.Common.{◌≡◌, ℕ, ◌<◌, ◌≤◌, ◌==◌, ◌&&◌, Bool, true, false, if◌then◌else◌, List, [], ◌∷◌, ◌++◌, map, refl, sym, ap, ap₂, ◌∙◌, subst, arith, append-nil, inl, inr}
use Rattle.std.specs.Prelude.{bytes_eq, codes}
use Rattle.std.proofs.lemmas.Bool.{ne_eqb}
use Rattle.kl1_model.specs.Term.{Term, variable, integer, atom, structure, Terms, none, more, terms_of, count_of, Replacement}
use Rattle.kl1_model.specs.code.TermCode.{NodeCode, nodes_of_all}
use Rattle.kl1_model.specs.declared.built_in.BuiltIn.TheVariants.{True}
use Rattle.kl1_model.specs.Meaning.{variables_of, variables_in as variables_of_all, highest_in}
use Rattle.kl1_model.specs.Module.{Clause}
use Rattle.kl1_model.specs.Answer.{yes, no, together}
use Rattle.kl1_model.specs.Match.{Match, with_answer, match_pattern, match_patterns, one_answer, each_answer, one_test_answer, tests_answer, guard_answer}
use Rattle.kl1_model.specs.code.Verdicts.{named_verdict, verdict_with}
use Rattle.kl1_model.specs.Same.{compare}
use Rattle.kl1_term.specs.Variables.{variables_in}
use Rattle.kl1_term.proofs.VariableFacts.{variables_all}
use Rattle.kl1_clause.specs.declared.compiled_clause.CompiledClause.{CompiledClause}
use Rattle.kl1_clause.specs.declared.name.Name.TheVariants.{Language}
use Rattle.kl1_clause.specs.declared.instruction.Instruction.{Instruction}
use Rattle.kl1_clause.specs.declared.instruction.Instruction.TheVariants.{Variable, Integer, Atom, Structure}
use Rattle.kl1_clause.specs.Instructions.{code_in}
use Rattle.kl1_clause.specs.Clauses.{IsCompiled}
use Rattle.kl1_clause.specs.Plain.{AreRising, AreTrue, IsPlain}
use Rattle.kl1_match.proofs.Answered.{together-yes}

-- ---- numbers that rise

-- numbers rise from above one to at most another
abbrev pub Rises : ℕ → ℕ → List ℕ → Type 0
Rises low high [] = low ≤ high
Rises low high (n ∷ ns) = (low < n) × Rises n high ns

-- the numbers of places do
abbrev pub PlacesRise : ℕ → ℕ → List Replacement → Type 0
PlacesRise low high [] = low ≤ high
PlacesRise low high (p ∷ ps) = (low < p.number) × PlacesRise p.number high ps

rises_within : (low high : ℕ) (ns : List ℕ) → Rises low high ns → low ≤ high
rises_within low high [] r = r
rises_within low high (n ∷ ns) r = let k = rises_within n high ns r.1 in omega (arith, r.0, k)

-- numbers that rise, and after them others
record Parted (low high : ℕ) (ns ms : List ℕ) : Type 0 where
  pub seam : ℕ
  pub front : Rises low seam ns
  pub back : Rises seam high ms

parted : (low high : ℕ) (ns ms : List ℕ) → Rises low high (ns ++ ms) → Parted low high ns ms
parted low high [] ms r = record { seam = low; front = omega arith; back = r }
parted low high (n ∷ ns) ms r = let p = parted n high ns ms r.1 in record { seam = p.seam; front = (r.0, p.front); back = p.back }

places_from : (lower low high : ℕ) (ps : List Replacement) → lower ≤ low → PlacesRise low high ps → PlacesRise lower high ps
places_from lower low high [] le r = omega (arith, le, r)
places_from lower low high (p ∷ ps) le r = (omega (arith, le, r.0), r.1)

places_join : (low seam high : ℕ) (ps qs : List Replacement) → PlacesRise low seam ps → PlacesRise seam high qs → PlacesRise low high (ps ++ qs)
places_join low seam high [] qs r s = places_from low seam high qs r s
places_join low seam high (p ∷ ps) qs r s = (r.0, places_join p.number seam high ps qs r.1 s)

-- ---- the places of a match

either_rises : (low high : ℕ) (b : Bool) (m : Match) → PlacesRise low high m.places → low ≤ high → PlacesRise low high (if b then m else with_answer no).places
either_rises low high true m r le = r
either_rises low high false m r le = le

mutual
  match_rises : (low high : ℕ) (p t : Term) → Rises low high (variables_of p) → PlacesRise low high (match_pattern p t).places
  match_rises low high (variable v) t r = r
  match_rises low high (integer i) (variable w) r = r
  match_rises low high (integer i) (integer j) r = r
  match_rises low high (integer i) (atom b) r = r
  match_rises low high (integer i) (structure g us) r = r
  match_rises low high (atom a) (variable w) r = r
  match_rises low high (atom a) (integer j) r = r
  match_rises low high (atom a) (atom b) r = r
  match_rises low high (atom a) (structure g us) r = r
  match_rises low high (structure f ps) (variable w) r = rises_within low high (variables_of_all ps) r
  match_rises low high (structure f ps) (integer j) r = rises_within low high (variables_of_all ps) r
  match_rises low high (structure f ps) (atom b) r = rises_within low high (variables_of_all ps) r
  match_rises low high (structure f ps) (structure g us) r =
      either_rises low high (bytes_eq f g && count_of ps == count_of us) (match_patterns ps us) (matches_rise low high ps us r) (rises_within low high (variables_of_all ps) r)

  matches_rise : (low high : ℕ) (ps ts : Terms) → Rises low high (variables_of_all ps) → PlacesRise low high (match_patterns ps ts).places
  matches_rise low high none none r = r
  matches_rise low high none (more t ts) r = r
  matches_rise low high (more p ps) none r = rises_within low high (variables_of_all (more p ps)) r
  matches_rise low high (more p ps) (more t ts) r =
      let k = parted low high (variables_of p) (variables_of_all ps) r in
      places_join low k.seam high (match_pattern p t).places (match_patterns ps ts).places (match_rises low k.seam p t k.front) (matches_rise k.seam high ps ts k.back)

-- ---- places of which no two are of one variable

alone_with : (p : Replacement) (low high : ℕ) (qs : List Replacement) → p.number ≤ low → PlacesRise low high qs → one_answer p qs ≡ yes
alone_with p low high [] le r = refl
alone_with p low high (q ∷ qs) le r =
    let other : (p.number == q.number) ≡ false = ne_eqb p.number q.number (λ e. absurd (omega (arith, le, r.0, e))) in
    ap₂ together (ap (λ b. if b then compare p.by q.by else yes) other) (alone_with p q.number high qs (omega (arith, le, r.0)) r.1)

all_alone : (low high : ℕ) (ps : List Replacement) → PlacesRise low high ps → each_answer ps ≡ yes
all_alone low high [] r = refl
all_alone low high (p ∷ ps) r = ap₂ together (alone_with p p.number high ps (omega arith) r.1) (all_alone p.number high ps r.1)

-- ---- rows

-- numbers rise up to some one
record RisesOn (low : ℕ) (ns : List ℕ) : Type 0 where
  pub high : ℕ
  pub rises : Rises low high ns

row_rises : (names : List (List ℕ)) (low : ℕ) (row : List Instruction) → AreRising low row → RisesOn low (variables_in (map (code_in names) row))
row_rises names low [] r = record { high = low; rises = omega arith }
row_rises names low (Variable v ∷ is) r = let k = row_rises names v is r.1 in record { high = k.high; rises = (r.0, k.rises) }
row_rises names low (Integer i ∷ is) r = row_rises names low is r
row_rises names low (Atom a ∷ is) r = row_rises names low is r
row_rises names low (Structure a count ∷ is) r = row_rises names low is r

row_variables : (nodes : List NodeCode) (ps : Terms) → nodes ≡ nodes_of_all ps → variables_in nodes ≡ variables_of_all ps
row_variables nodes ps e = ap variables_in (e ∙ sym (append-nil (nodes_of_all ps))) ∙ (variables_all ps [] ∙ append-nil (variables_of_all ps))

-- the atom of a first node that is one
abbrev atom_at : List NodeCode → Term
atom_at (inr (inl a) ∷ cs) = atom a
atom_at cs = variable 0

-- the nodes after the first
abbrev behind_node : List NodeCode → List NodeCode
behind_node [] = []
behind_node (c ∷ cs) = cs

-- each of these tests is `true`
abbrev AllHold : List Term → Type 0
AllHold [] = Unit {0}
AllHold (t ∷ ts) = (t ≡ atom (codes "true")) × AllHold ts

true_first : (names : List (List ℕ)) (i : Instruction) (is : List Instruction) (nodes : List NodeCode) → i ≡ Atom (Language True) → map (code_in names) (i ∷ is) ≡ nodes → inr (inl (codes "true")) ∷ map (code_in names) is ≡ nodes
true_first names i is nodes e same = ap (λ x. code_in names x ∷ map (code_in names) is) (sym e) ∙ same

all_hold : (names : List (List ℕ)) (row : List Instruction) (tests : List Term) → AreTrue row → map (code_in names) row ≡ nodes_of_all (terms_of tests) → AllHold tests
all_hold names row [] a e = tt
all_hold names [] (variable n ∷ ts) a e = absurd (cc)
all_hold names [] (integer i ∷ ts) a e = absurd (cc)
all_hold names [] (atom b ∷ ts) a e = absurd (cc)
all_hold names [] (structure f us ∷ ts) a e = absurd (cc)
all_hold names (i ∷ is) (variable n ∷ ts) a e = let k = true_first names i is (nodes_of_all (terms_of (variable n ∷ ts))) a.0 e in absurd (cc)
all_hold names (i ∷ is) (integer j ∷ ts) a e = let k = true_first names i is (nodes_of_all (terms_of (integer j ∷ ts))) a.0 e in absurd (cc)
all_hold names (i ∷ is) (atom b ∷ ts) a e =
    let k = true_first names i is (nodes_of_all (terms_of (atom b ∷ ts))) a.0 e in
    (ap atom_at (sym k), all_hold names is ts a.1 (ap behind_node k))
all_hold names (i ∷ is) (structure f us ∷ ts) a e = let k = true_first names i is (nodes_of_all (terms_of (structure f us ∷ ts))) a.0 e in absurd (cc)

hold_agree : (last : ℕ) (places : List Replacement) (tests : List Term) → AllHold tests → tests_answer last places tests ≡ yes
hold_agree last places [] h = refl
hold_agree last places (t ∷ ts) h = ap (λ x. together (one_test_answer last places x) (tests_answer last places ts)) h.0 ∙ hold_agree last places ts h.1

-- ---- verdicts

-- the places of such a clause agree, whatever the goal
places_agree : (names : List (List ℕ)) (compiled : CompiledClause) (clause : Clause) (ts : Terms) → IsPlain compiled.patterns.items compiled.tests.items → IsCompiled names compiled clause → each_answer (match_patterns clause.patterns ts).places ≡ yes
places_agree names compiled clause ts plain is =
    let k = row_rises names 0 compiled.patterns.items plain.rising in
    let R : List ℕ → Type 0 = λ ns. Rises 0 k.high ns in
    let own = subst R (row_variables (map (code_in names) compiled.patterns.items) clause.patterns is.patterns.nodes_are) k.rises in
    all_alone 0 k.high (match_patterns clause.patterns ts).places (matches_rise 0 k.high clause.patterns ts own)

-- and its guard, whose tests all hold
guard_agrees : (names : List (List ℕ)) (compiled : CompiledClause) (clause : Clause) (places : List Replacement) → IsPlain compiled.patterns.items compiled.tests.items → IsCompiled names compiled clause → guard_answer places clause.tests ≡ yes
guard_agrees names compiled clause places plain is = hold_agree (highest_in (terms_of clause.tests)) places clause.tests (all_hold names compiled.tests.items clause.tests plain.tests_are is.tests.nodes_are)

-- the verdict of such a clause is that of its match
pub plain_verdict : (names : List (List ℕ)) (compiled : CompiledClause) (clause : Clause) (ts : Terms) → IsPlain compiled.patterns.items compiled.tests.items → IsCompiled names compiled clause →
    named_verdict clause ts ≡ verdict_with (match_patterns clause.patterns ts) (match_patterns clause.patterns ts).answer
plain_verdict names compiled clause ts plain is =
    let m = match_patterns clause.patterns ts in
    ap (λ o. verdict_with m (together (together m.answer o) (guard_answer m.places clause.tests))) (places_agree names compiled clause ts plain is)
    ∙ (ap (λ o. verdict_with m (together (together m.answer yes) o)) (guard_agrees names compiled clause m.places plain is)
    ∙ ap (verdict_with m) (together-yes (together m.answer yes) ∙ together-yes m.answer))
