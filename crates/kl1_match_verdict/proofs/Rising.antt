-- No variable has two places, if places stand in order of the numbers of their variables.
use Rattle.std.proofs.Common.{◌≡◌, ℕ, ◌-◌, ◌<◌, ◌≤◌, ◌==◌, true, List, [], ◌∷◌, length, get_or, take, drop, refl, sym, ap, ◌∙◌, subst, arith, append-nil}
use Rattle.std.proofs.lemmas.List.{take_all}
use Rattle.std.proofs.lemmas.Bool.{cond-false, ne_eqb}
use Rattle.kl1_model.specs.declared.built_in.BuiltIn.{BuiltIn}
use Rattle.kl1_model.specs.Answer.{Answer, yes, together}
use Rattle.kl1_model.specs.Match.{one_answer, each_answer}
use Rattle.kl1_model.specs.Same.{compare}
use Rattle.kl1_store.specs.Held.{Held}
use Rattle.kl1_store.specs.Meaning.{term_of}
use Rattle.kl1_match.specs.declared.place.Place.{Place}
use Rattle.kl1_match.specs.Instances.{replacement_of, replacements_of}
use Rattle.kl1_match.specs.Outcomes.{WaitsFor}
use Rattle.kl1_match_verdict.specs.Outcomes.{EachComes}
use Rattle.kl1_match_verdict.specs.Rising.{AreRising}

pub rising_step : {N : Type 0} (p : Place N) (rest : List (Place N)) (last : ℕ) → 1 ≤ length rest → p ≡ get_or rest 0 p → last < p.variable → AreRising p.variable (take (length rest - 1) (drop 1 rest)) → AreRising last rest
rising_step p [] last some e lt a = absurd (omega arith)
rising_step {N = N} p (q ∷ qs) last some e lt a =
    let P : Place N → Type 0 = λ k. (last < k.variable) × AreRising k.variable qs in
    let Q : List (Place N) → Type 0 = λ l. AreRising p.variable l in
    subst P e (lt, subst Q (take_all (length (q ∷ qs) - 1) qs (omega arith)) a)

pub rising_end : {N : Type 0} (rest : List (Place N)) (last : ℕ) → length rest < 1 → AreRising last rest
rising_end [] last lt = tt
rising_end (q ∷ qs) last lt = absurd (omega arith)

rising_with : {N : Type 0} (f : N → List ℕ) (h : Held N) (p : Place N) (last : ℕ) (qs : List (Place N)) → p.variable ≤ last → AreRising last qs → one_answer (replacement_of f h p) (replacements_of f h qs) ≡ yes
rising_with f h p last [] le a = refl
rising_with f h p last (q ∷ qs) le a =
    let other : p.variable ≡ q.variable → ⊥ = λ e. omega (arith, le, a.0, e) in
    ap (λ o. together o (one_answer (replacement_of f h p) (replacements_of f h qs))) (cond-false (p.variable == q.variable) (compare (term_of f h p.cell) (term_of f h q.cell)) yes (ne_eqb p.variable q.variable other))
    ∙ ap (together yes) (rising_with f h p q.variable qs (omega (arith, le, a.0)) a.1)

rising_each : {N : Type 0} (f : N → List ℕ) (h : Held N) (last : ℕ) (ps : List (Place N)) → AreRising last ps → each_answer (replacements_of f h ps) ≡ yes
rising_each f h last [] a = refl
rising_each f h last (p ∷ ps) a =
    ap (λ o. together o (each_answer (replacements_of f h ps))) (rising_with f h p p.variable ps (omega arith) a.1) ∙ ap (together yes) (rising_each f h p.variable ps a.1)

pub rising_come : {N : Type 0} (built : BuiltIn → N) (h : Held N) (places : List (Place N)) (before : List ℕ) → AreRising 0 places → EachComes built h places before before true
rising_come built h places before a = record {
  named = [];
  unbound = tt;
  added = sym (append-nil before);
  comes = λ f reads.
      let W : Answer → Type 0 = λ o. WaitsFor [] o in
      subst W (sym (rising_each f h 0 places a)) refl;
}
