-- Verdicts by the match, the places of each variable and the tests.
use Rattle.std.proofs.Common.{◌≡◌, ℕ, Bool, true, false, List, [], ◌++◌, length, map, take, refl, sym, ap, ◌∙◌, subst, arith}
use Rattle.std.proofs.Math.Seq.{take-append_seam}
use Rattle.std.proofs.lemmas.List.{nil_from_length}
use Rattle.std.specs.Prelude.{IsTrue}
use Rattle.kl1_model.specs.declared.built_in.BuiltIn.{BuiltIn}
use Rattle.kl1_model.specs.Term.{Terms, terms_of}
use Rattle.kl1_model.specs.Meaning.{highest_in}
use Rattle.kl1_model.specs.Module.{Clause}
use Rattle.kl1_model.specs.laws.WaitsLaws.{is_guarded}
use Rattle.kl1_model.specs.Answer.{Answer, yes, no, wait, together, awaited_in}
use Rattle.kl1_model.specs.Match.{Match, match_patterns, each_answer, tests_answer, guard_answer}
use Rattle.kl1_model.specs.code.Verdicts.{accepts, suspends, named_verdict, verdict_with}
use Rattle.kl1_model.proofs.VerdictWaits.{named_suspends_waits}
use Rattle.kl1_text.specs.Reading.{Reads}
use Rattle.kl1_store.specs.declared.cell.Cell.{Cell}
use Rattle.kl1_store.specs.Held.{Held}
use Rattle.kl1_store.specs.Meaning.{term_of}
use Rattle.kl1_clause.specs.declared.compiled_clause.CompiledClause.{CompiledClause}
use Rattle.kl1_clause.specs.declared.instruction.Instruction.{Instruction}
use Rattle.kl1_clause.specs.declared.name.Name.{Name}
use Rattle.kl1_clause.specs.Instructions.{AreNamed}
use Rattle.kl1_clause.specs.Clauses.{IsCompiled}
use Rattle.kl1_match.specs.declared.place.Place.{Place}
use Rattle.kl1_match.specs.declared.verdict.Verdict.{Verdict}
use Rattle.kl1_match.specs.declared.verdict.Verdict.TheVariants.{Accepts, Rejects, Suspends}
use Rattle.kl1_match.specs.Instances.{AreThere, IsClause, replacements_of}
use Rattle.kl1_match.specs.Verdicts.{arguments_of_goal, is_rejection, NamesAs, GivesMatch, IsTried, IsVerdict}
use Rattle.kl1_match.specs.Waiting.{AreSame}
use Rattle.kl1_match.specs.Outcomes.{WaitsFor}
use Rattle.kl1_match.specs.TestTerms.{Tests, AreSound, tests_with, name_of, terms_from, highest_among, last_of}
use Rattle.kl1_match.specs.Testing.{tests_from, TestsCome}
use Rattle.kl1_match_verdict.specs.Outcomes.{EachComes, RestComes}
use Rattle.kl1_match.proofs.Answered.{together-group, together-no}
use Rattle.kl1_match.proofs.Naming.{same_as_itself, none_same}
use Rattle.kl1_match.proofs.Outcomes.{both_wait, both_come}
use Rattle.kl1_match.proofs.Coming.{AreUnbound-append, more_named}
use Rattle.kl1_match.proofs.TestRows.{row_means, row_highest}
use Rattle.kl1_match.proofs.Whole.{named_count}

-- a match that doesn't clash, and waits for these
record IsMatched {N : Type 0} (f : N → List ℕ) (h : Held N) (places : List (Place N)) (named : List ℕ) (m : Match) : Type 0 where
  pub waits : WaitsFor named m.answer
  pub places_are : m.places ≡ replacements_of f h places

matched : {N : Type 0} (f : N → List ℕ) (h : Held N) (places : List (Place N)) (named : List ℕ) (given : Verdict) (m : Match) → is_rejection given ≡ false → NamesAs given named → GivesMatch f h places named given m → IsMatched f h places named m
matched f h places named Accepts m fits own g = let W : Answer → Type 0 = λ o. WaitsFor named o in record { waits = subst W (sym g.0) own; places_are = g.1 }
matched f h places named Rejects m fits own g = absurd (cc)
matched f h places named Suspends m fits own g = let W : Answer → Type 0 = λ o. WaitsFor named o in record { waits = subst W (sym g.0) (same_as_itself named); places_are = g.1 }

-- if a verdict rejects
pub rejected_there : {N : Type 0} (built : BuiltIn → N) (names : List N) (compiled : CompiledClause) (h : Held N) (goal : Cell N) (places : List (Place N)) (before after : List ℕ) (given : Verdict) → is_rejection given ≡ true →
    IsTried built names compiled h goal places before after given → IsTried built names compiled h goal places before after Rejects
rejected_there built names compiled h goal places before after Accepts e t = absurd (cc)
rejected_there built names compiled h goal places before after Rejects e t = t
rejected_there built names compiled h goal places before after Suspends e t = absurd (cc)

-- the verdict of a clause
by_rest : (c : Clause) (ts : Terms) → named_verdict c ts ≡ verdict_with (match_patterns c.patterns ts) (together (match_patterns c.patterns ts).answer (together (each_answer (match_patterns c.patterns ts).places) (guard_answer (match_patterns c.patterns ts).places c.tests)))
by_rest c ts = let m = match_patterns c.patterns ts in ap (verdict_with m) (together-group m.answer (each_answer m.places) (guard_answer m.places c.tests))

-- what waits for no variable is accepted
accepted_by : (c : Clause) (ts : Terms) (m : Match) (o : Answer) → IsTrue (is_guarded c) → named_verdict c ts ≡ verdict_with m o → WaitsFor [] o → named_verdict c ts ≡ accepts m.places
accepted_by c ts m yes g v w = v
accepted_by c ts m no g v w = absurd w
accepted_by c ts m (wait vs) g v w = absurd (named_suspends_waits c ts g (v ∙ ap suspends (none_same vs w)))

-- and what waits for some is suspended
suspended_by : (c : Clause) (ts : Terms) (m : Match) (o : Answer) (named : List ℕ) → named_verdict c ts ≡ verdict_with m o → (named ≡ [] → ⊥) → WaitsFor named o → (vs : List ℕ) × (AreSame named vs × (named_verdict c ts ≡ suspends vs))
suspended_by c ts m yes named v some w = absurd (some w)
suspended_by c ts m no named v some w = absurd w
suspended_by c ts m (wait vs) named v some w = (vs, (w, v))

-- the variables for which a match waits
own_named : (named : List ℕ) (o : Answer) → WaitsFor named o → AreSame named (awaited_in o)
own_named named yes w = let S : List ℕ → Type 0 = λ ns. AreSame ns [] in subst S (sym w) (same_as_itself [])
own_named named no w = absurd w
own_named named (wait vs) w = w

-- ---- the match and the rest

-- the names of the tests' row are those of the code, and the places of the store
pub tests_sound : {N : Type 0} (names : List N) (compiled : CompiledClause) (h : Held N) (places : List (Place N)) (row : List Instruction) → IsClause names compiled → row ≡ compiled.tests.items → AreThere h places → AreSound (tests_with h names row places)
tests_sound names compiled h places row c e there =
    let P : ℕ → Type 0 = λ n. AreNamed n compiled.tests.items in
    let Q : List Instruction → Type 0 = λ r. AreNamed (length names) r in
    record { there = there; named = subst Q (sym e) (subst P c.count c.is.tests.named) }

module _ {N : Type 0} (built : BuiltIn → N) (names : List N) (compiled : CompiledClause) (h : Held N) (goal : Cell N) (places : List (Place N)) where
  -- what stands beside the match is the clause's
  rest_is : (f : N → List ℕ) → Reads built f → (clause : Clause) → IsCompiled (map f names) compiled clause → (m : Match) → m.places ≡ replacements_of f h places →
      together (each_answer (replacements_of f h places)) (tests_answer (highest_among compiled.tests.items) (replacements_of f h places) (terms_from (λ a. f (name_of built names a)) compiled.tests.items))
      ≡ together (each_answer m.places) (guard_answer m.places clause.tests)
  rest_is f reads clause is m e =
      let named : Name → List ℕ = λ a. f (name_of built names a) in
      let row = compiled.tests.items in
      let means : terms_from named row ≡ clause.tests = row_means built f names row clause.tests reads is.tests in
      let last : highest_among row ≡ highest_in (terms_of clause.tests) = sym (row_highest named row) ∙ ap (λ ts. highest_in (terms_of ts)) means in
      ap (λ n. together (each_answer (replacements_of f h places)) (tests_answer n (replacements_of f h places) (terms_from named row))) last
      ∙ ap (λ ts. together (each_answer (replacements_of f h places)) (tests_answer (highest_in (terms_of clause.tests)) (replacements_of f h places) ts)) means
      ∙ ap (λ ps. together (each_answer ps) (guard_answer ps clause.tests)) (sym e)

  -- both wait for just the variables that were named
  both_waits : (before mid after : List ℕ) (given : Verdict) → is_rejection given ≡ false → (t : IsTried built names compiled h goal places before mid given) → (e : RestComes built (tests_with h names compiled.tests.items places) mid after true) →
      (f : N → List ℕ) → Reads built f → (clause : Clause) → IsCompiled (map f names) compiled clause → (m : Match) → m ≡ match_patterns clause.patterns (arguments_of_goal (term_of f h goal)) →
      WaitsFor (t.named ++ e.named) (together m.answer (together (each_answer m.places) (guard_answer m.places clause.tests)))
  both_waits before mid after given fits t e f reads clause is m own =
      let G : Match → Type 0 = λ n. GivesMatch f h places t.named given n in
      let k = matched f h places t.named given m fits t.named_as (subst G (sym own) (t.gives f reads clause is)) in
      let P : Answer → Type 0 = λ o. WaitsFor e.named o in
      both_wait t.named e.named m.answer (together (each_answer m.places) (guard_answer m.places clause.tests)) k.waits (subst P (rest_is f reads clause is m k.places_are) (e.comes f reads))

  pub whole_accepts : (before mid after : List ℕ) (given : Verdict) → is_rejection given ≡ false → IsTried built names compiled h goal places before mid given → RestComes built (tests_with h names compiled.tests.items places) mid after true →
      length after ≡ length before → IsVerdict built names compiled h goal places before after Accepts
  whole_accepts before mid after given fits t e count =
      let named = t.named ++ e.named in
      let all = more_named before mid after t.named e.named t.awaited e.added in
      let none : named ≡ [] = nil_from_length named (omega (arith, count, named_count before after named all)) in
      record {
        inside = t.inside;
        named = named;
        named_as = none;
        unbound = AreUnbound-append h t.named e.named t.unbound e.unbound;
        awaited = all;
        gives = λ f reads clause is.
            let ts = arguments_of_goal (term_of f h goal) in
            let m = match_patterns clause.patterns ts in
            let k = matched f h places t.named given m fits t.named_as (t.gives f reads clause is) in
            let o = together m.answer (together (each_answer m.places) (guard_answer m.places clause.tests)) in
            let W : List ℕ → Type 0 = λ ns. WaitsFor ns o in
            let S : List ℕ → Type 0 = λ ns. AreSame ns [] in
            record {
              defined = [];
              same = subst S (sym none) (same_as_itself []);
              verdict_is = accepted_by clause ts m o is.guarded (by_rest clause ts) (subst W none (both_waits before mid after given fits t e f reads clause is m refl)) ∙ ap accepts k.places_are;
            };
      }

  pub whole_suspends : (before mid after : List ℕ) (given : Verdict) → is_rejection given ≡ false → IsTried built names compiled h goal places before mid given → RestComes built (tests_with h names compiled.tests.items places) mid after true →
      (length after ≡ length before → ⊥) → IsVerdict built names compiled h goal places before after Suspends
  whole_suspends before mid after given fits t e more =
      let named = t.named ++ e.named in
      let all = more_named before mid after t.named e.named t.awaited e.added in
      let some : named ≡ [] → ⊥ = λ none. more (omega (arith, ap length none, named_count before after named all)) in
      record {
        inside = t.inside;
        named = named;
        named_as = some;
        unbound = AreUnbound-append h t.named e.named t.unbound e.unbound;
        awaited = all;
        gives = λ f reads clause is.
            let ts = arguments_of_goal (term_of f h goal) in
            let m = match_patterns clause.patterns ts in
            let o = together m.answer (together (each_answer m.places) (guard_answer m.places clause.tests)) in
            let s = suspended_by clause ts m o named (by_rest clause ts) some (both_waits before mid after given fits t e f reads clause is m refl) in
            record { defined = s.0; same = s.1.0; verdict_is = s.1.1 };
      }

  -- two places or a test clash: what the match waits for stays named
  pub whole_rejects : (before mid after now : List ℕ) (n : ℕ) (given : Verdict) → is_rejection given ≡ false → IsTried built names compiled h goal places before mid given → RestComes built (tests_with h names compiled.tests.items places) mid after false →
      n ≡ length mid → now ≡ take n after → IsVerdict built names compiled h goal places before now Rejects
  whole_rejects before mid after now n given fits t e count cut = record {
    inside = t.inside;
    named = t.named;
    named_as = tt;
    unbound = t.unbound;
    awaited = cut ∙ ap (λ l. take n l) e.added ∙ ap (λ k. take k (mid ++ e.named)) count ∙ take-append_seam mid e.named ∙ t.awaited;
    gives = λ f reads clause is.
        let ts = arguments_of_goal (term_of f h goal) in
        let m = match_patterns clause.patterns ts in
        let k = matched f h places t.named given m fits t.named_as (t.gives f reads clause is) in
        let clash = sym (rest_is f reads clause is m k.places_are) ∙ e.comes f reads in
        record {
          defined = awaited_in m.answer;
          same = own_named t.named m.answer k.waits;
          verdict_is = by_rest clause ts ∙ ap (λ o. verdict_with m (together m.answer o)) clash ∙ ap (verdict_with m) (together-no m.answer);
        };
  }

-- ---- places, and then tests

pub rest_clashes : {N : Type 0} (built : BuiltIn → N) (t : Tests N) (before after : List ℕ) → EachComes built t.held t.places before after false → RestComes built t before after false
rest_clashes built t before after e = record {
  named = e.named;
  unbound = e.unbound;
  added = e.added;
  comes = λ f reads. ap (λ o. together o (tests_answer (last_of t) (replacements_of f t.held t.places) (tests_from built f t 0))) (e.comes f reads);
}

pub rest_comes : {N : Type 0} (built : BuiltIn → N) (t : Tests N) (before mid after : List ℕ) (b : Bool) → EachComes built t.held t.places before mid true → TestsCome built t 0 mid after b → RestComes built t before after b
rest_comes built t before mid after b e c = record {
  named = e.named ++ c.named;
  unbound = AreUnbound-append t.held e.named c.named e.unbound c.unbound;
  added = more_named before mid after e.named c.named e.added c.added;
  comes = λ f reads.
      let places = replacements_of f t.held t.places in
      both_come b e.named c.named (each_answer places) (tests_answer (last_of t) places (tests_from built f t 0)) (e.comes f reads) (c.comes f reads);
}
