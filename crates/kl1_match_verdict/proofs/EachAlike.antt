-- Two places of a head, a place beside others, and each two places, looked at one after another.
use Rattle.std.proofs.Common.{◌≡◌, ℕ, ◌-◌, ◌<◌, ◌≤◌, ◌==◌, Bool, true, false, List, [], ◌∷◌, length, get_or, take, drop, refl, sym, ◌∙◌, subst, arith, append-nil}
use Rattle.std.proofs.lemmas.List.{take_all}
use Rattle.std.proofs.lemmas.Bool.{cond-true, cond-false, eq-eqb, ne_eqb}
use Rattle.kl1_model.specs.declared.built_in.BuiltIn.{BuiltIn}
use Rattle.kl1_model.specs.Answer.{Answer, yes}
use Rattle.kl1_model.specs.Match.{two_answer, one_answer, each_answer}
use Rattle.kl1_model.specs.Same.{compare}
use Rattle.kl1_store.specs.Held.{Held}
use Rattle.kl1_store.specs.Meaning.{term_of}
use Rattle.kl1_store.specs.Sameness.{AlikeAs}
use Rattle.kl1_match.specs.declared.place.Place.{Place}
use Rattle.kl1_match.specs.Instances.{AreThere, replacement_of, replacements_of}
use Rattle.kl1_match.specs.Outcomes.{WaitsFor}
use Rattle.kl1_match_verdict.specs.Outcomes.{TwoCome, OneComes, EachComes}
use Rattle.kl1_match.proofs.Coming.{LeftTo, parts_begin, part_done, part_clashes, parts_end}
use Rattle.kl1_match_verdict.proofs.TwoTerms.{compared_waits, compared_clashes}

-- ---- two places

pub others_agree : {N : Type 0} (built : BuiltIn → N) (h : Held N) (p q : Place N) (before : List ℕ) → (p.variable ≡ q.variable → ⊥) → TwoCome built h p q before before true
others_agree built h p q before ne = record {
  named = [];
  unbound = tt;
  added = sym (append-nil before);
  comes = λ f reads.
      let W : Answer → Type 0 = λ o. WaitsFor [] o in
      subst W (sym (cond-false (p.variable == q.variable) (compare (term_of f h p.cell) (term_of f h q.cell)) yes (ne_eqb p.variable q.variable ne))) refl;
}

pub two_compared : {N : Type 0} (built : BuiltIn → N) (h : Held N) (p q : Place N) (before after : List ℕ) (b : Bool) → p.variable ≡ q.variable → AlikeAs built h p.cell q.cell before after b → TwoCome built h p q before after b
two_compared {N = N} built h p q before after true e a = record {
  named = a.named;
  unbound = a.unbound;
  added = a.added;
  comes = λ f reads.
      let W : Answer → Type 0 = λ o. WaitsFor a.named o in
      subst W (sym (cond-true (p.variable == q.variable) (compare (term_of f h p.cell) (term_of f h q.cell)) yes (eq-eqb p.variable q.variable e)))
      (compared_waits (term_of f h p.cell) (term_of f h q.cell) a.named (a.clash f reads) (record { each = a.awaited f reads }));
}
two_compared built h p q before after false e a = record {
  named = [];
  unbound = tt;
  added = a.0 ∙ sym (append-nil before);
  comes = λ f reads.
      cond-true (p.variable == q.variable) (compare (term_of f h p.cell) (term_of f h q.cell)) yes (eq-eqb p.variable q.variable e)
      ∙ compared_clashes (term_of f h p.cell) (term_of f h q.cell) (a.1 f reads);
}

-- ---- a place beside others

-- the places that are left are of the store, and lead to the answer of all
pub record OneLeft {N : Type 0} (built : BuiltIn → N) (h : Held N) (p : Place N) (all rest : List (Place N)) (before now : List ℕ) : Type 0 where
  pub inside : AreThere h rest
  pub left : LeftTo built h (λ f. one_answer (replacement_of f h p) (replacements_of f h rest)) (λ f. one_answer (replacement_of f h p) (replacements_of f h all)) before now

pub one_begins : {N : Type 0} (built : BuiltIn → N) (h : Held N) (p : Place N) (all : List (Place N)) (before : List ℕ) → AreThere h all → OneLeft built h p all all before before
one_begins built h p all before inside = record { inside = inside; left = parts_begin built h _ before }

pub one_steps : {N : Type 0} (built : BuiltIn → N) (h : Held N) (p q : Place N) (all rest : List (Place N)) (before now next : List ℕ) → 1 ≤ length rest → q ≡ get_or rest 0 q → OneLeft built h p all rest before now → TwoCome built h p q now next true →
    OneLeft built h p all (take (length rest - 1) (drop 1 rest)) before next
one_steps built h p q all [] before now next le e l c = absurd (omega arith)
one_steps {N = N} built h p q all (z ∷ zs) before now next le e l c =
    let P : List (Place N) → Type 0 = λ r. OneLeft built h p all r before next in
    let Q : Place N → Type 0 = λ k. TwoCome built h p k now next true in
    subst P (sym (take_all (length (z ∷ zs) - 1) zs (omega arith)))
    (record { inside = l.inside.1; left = part_done built h (λ f. two_answer (replacement_of f h p) (replacement_of f h z)) (λ f. one_answer (replacement_of f h p) (replacements_of f h zs)) _ _ before now next (λ f. refl) l.left (subst Q e c) })

pub one_clashes : {N : Type 0} (built : BuiltIn → N) (h : Held N) (p q : Place N) (all rest : List (Place N)) (before now next : List ℕ) → 1 ≤ length rest → q ≡ get_or rest 0 q → OneLeft built h p all rest before now → TwoCome built h p q now next false →
    OneComes built h p all before next false
one_clashes built h p q all [] before now next le e l c = absurd (omega arith)
one_clashes {N = N} built h p q all (z ∷ zs) before now next le e l c =
    let Q : Place N → Type 0 = λ k. TwoCome built h p k now next false in
    part_clashes built h (λ f. two_answer (replacement_of f h p) (replacement_of f h z)) (λ f. one_answer (replacement_of f h p) (replacements_of f h zs)) _ _ before now next (λ f. refl) l.left (subst Q e c)

pub one_ends : {N : Type 0} (built : BuiltIn → N) (h : Held N) (p : Place N) (all rest : List (Place N)) (before now : List ℕ) → length rest < 1 → OneLeft built h p all rest before now → OneComes built h p all before now true
one_ends built h p all [] before now le l = parts_end built h _ _ before now (λ f. refl) l.left
one_ends built h p all (z ∷ zs) before now le l = absurd (omega arith)

pub one_inside : {N : Type 0} (h : Held N) (q : Place N) (rest : List (Place N)) → 1 ≤ length rest → q ≡ get_or rest 0 q → AreThere h rest → AreThere h (q ∷ take (length rest - 1) (drop 1 rest))
one_inside h q [] le e inside = absurd (omega arith)
one_inside {N = N} h q (z ∷ zs) le e inside =
    let P : List (Place N) → Type 0 = λ r. AreThere h r in
    let Q : Place N → Type 0 = λ k. AreThere h (k ∷ []) in
    ((subst Q (sym e) (inside.0, tt)).0, subst P (sym (take_all (length (z ∷ zs) - 1) zs (omega arith))) inside.1)

-- ---- each two places

-- the places that are left are of the store, and lead to the answer of all
pub record EachLeft {N : Type 0} (built : BuiltIn → N) (h : Held N) (all rest : List (Place N)) (before now : List ℕ) : Type 0 where
  pub inside : AreThere h rest
  pub left : LeftTo built h (λ f. each_answer (replacements_of f h rest)) (λ f. each_answer (replacements_of f h all)) before now

pub each_begins : {N : Type 0} (built : BuiltIn → N) (h : Held N) (all : List (Place N)) (before : List ℕ) → AreThere h all → EachLeft built h all all before before
each_begins built h all before inside = record { inside = inside; left = parts_begin built h _ before }

pub each_steps : {N : Type 0} (built : BuiltIn → N) (h : Held N) (q : Place N) (all rest : List (Place N)) (before now next : List ℕ) → 1 ≤ length rest → q ≡ get_or rest 0 q → EachLeft built h all rest before now →
    OneComes built h q (take (length rest - 1) (drop 1 rest)) now next true → EachLeft built h all (take (length rest - 1) (drop 1 rest)) before next
each_steps built h q all [] before now next le e l c = absurd (omega arith)
each_steps {N = N} built h q all (z ∷ zs) before now next le e l c =
    let whole = take_all (length (z ∷ zs) - 1) zs (omega arith) in
    let P : List (Place N) → Type 0 = λ r. EachLeft built h all r before next in
    let Q : Place N → Type 0 = λ k. OneComes built h k zs now next true in
    let R : List (Place N) → Type 0 = λ r. OneComes built h q r now next true in
    subst P (sym whole)
    (record { inside = l.inside.1; left = part_done built h (λ f. one_answer (replacement_of f h z) (replacements_of f h zs)) (λ f. each_answer (replacements_of f h zs)) _ _ before now next (λ f. refl) l.left (subst Q e (subst R whole c)) })

pub each_clashes : {N : Type 0} (built : BuiltIn → N) (h : Held N) (q : Place N) (all rest : List (Place N)) (before now next : List ℕ) → 1 ≤ length rest → q ≡ get_or rest 0 q → EachLeft built h all rest before now →
    OneComes built h q (take (length rest - 1) (drop 1 rest)) now next false → EachComes built h all before next false
each_clashes built h q all [] before now next le e l c = absurd (omega arith)
each_clashes {N = N} built h q all (z ∷ zs) before now next le e l c =
    let whole = take_all (length (z ∷ zs) - 1) zs (omega arith) in
    let Q : Place N → Type 0 = λ k. OneComes built h k zs now next false in
    let R : List (Place N) → Type 0 = λ r. OneComes built h q r now next false in
    part_clashes built h (λ f. one_answer (replacement_of f h z) (replacements_of f h zs)) (λ f. each_answer (replacements_of f h zs)) _ _ before now next (λ f. refl) l.left (subst Q e (subst R whole c))

pub each_ends : {N : Type 0} (built : BuiltIn → N) (h : Held N) (all rest : List (Place N)) (before now : List ℕ) → length rest < 1 → EachLeft built h all rest before now → EachComes built h all before now true
each_ends built h all [] before now le l = parts_end built h _ _ before now (λ f. refl) l.left
each_ends built h all (z ∷ zs) before now le l = absurd (omega arith)
