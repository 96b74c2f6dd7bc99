-- Tests one after another.
use Rattle.std.proofs.Common.{◌≡◌, ℕ, ℤ, suc, ◌<◌, ◌≤◌, Bool, true, false, if◌then◌else◌, List, [], ◌∷◌, ◌++◌, length, take, drop, refl, sym, ap, ◌∙◌, subst, append-nil}
use Rattle.std.specs.Prelude.{bytes_eq, codes, Option, Some, None, option_map}
use Rattle.std.proofs.Math.Seq.{take-append_seam}
use Rattle.std.proofs.lemmas.List.{drop_all}
use Rattle.kl1_model.specs.declared.built_in.BuiltIn.{BuiltIn}
use Rattle.kl1_model.specs.declared.comparison.Comparison.{Comparison}
use Rattle.kl1_model.specs.declared.type_test.TypeTest.{TypeTest}
use Rattle.kl1_model.specs.Term.{Term, variable, integer, atom, structure, none, more, substituted}
use Rattle.kl1_model.specs.code.TermCode.{first_term, behind_first}
use Rattle.kl1_model.specs.Arithmetic.{evaluated}
use Rattle.kl1_model.specs.Guard as guard
use Rattle.kl1_model.specs.Guard.{type_test_named, comparison_named, holds, looks, is_same, is_other, compares, test_of, test_substituted, sides_answer, test_answer}
use Rattle.kl1_model.specs.Answer.{Answer, yes, no, together, opposite, known}
use Rattle.kl1_model.specs.Match.{option_answer, own_answer, one_test_answer, tests_answer}
use Rattle.kl1_text.specs.Reading.{Reads}
use Rattle.kl1_store.specs.Held.{Held}
use Rattle.kl1_clause.specs.declared.name.Name.{Name}
use Rattle.kl1_clause.specs.declared.instruction.Instruction.{Instruction}
use Rattle.kl1_clause.specs.declared.instruction.Instruction.TheVariants as instruction
use Rattle.kl1_match_guard.specs.declared.outcome.Outcome as found
use Rattle.kl1_match_guard.specs.declared.outcome.Outcome.TheVariants.{Agrees, Clashes, Waits}
use Rattle.kl1_match_guard.specs.declared.test.Test.{Test}
use Rattle.kl1_match_guard.specs.declared.test.Test.TheVariants.{Holds, Looks, IsSame, IsOther, Compares}
use Rattle.kl1_match_guard.specs.Outcomes.{outcome_of, LooksAs}
use Rattle.kl1_match_guard.specs.Tests.{test_in, IsTestAt}
use Rattle.kl1_match.specs.declared.passing.Passed.TheVariants.{Same, Differs, Unknown}
use Rattle.kl1_match.specs.declared.test_view.TestAt.{TestAt}
use Rattle.kl1_match.specs.declared.test_view.TestAt.TheVariants as at
use Rattle.kl1_match.specs.declared.test_view.TestVariable.{TestVariable}
use Rattle.kl1_match.specs.declared.test_view.TestVariable.TheVariants.{Own, Goal}
use Rattle.kl1_match.specs.Instances.{replacements_of}
use Rattle.kl1_match.specs.Waiting.{AreUnbound, AreSame}
use Rattle.kl1_match.specs.Outcomes.{WaitsFor, ComesTo, Comes}
use Rattle.kl1_match.specs.Passing.{Passes}
use Rattle.kl1_match.specs.TestTerms.{Tests, last_of, named_in, value_in, terms_from, instruction_in, test_term, test_number, IsFreeIn, IsTermAt}
use Rattle.kl1_match.specs.Testing.{is_variable, tests_from, SettledAs, SameAs, OtherAs, ComparedAs, FoundAs, TestComes, TestsCome}
use Rattle.kl1_match.proofs.Naming.{same_as_itself}
use Rattle.kl1_match.proofs.Among.{own_dropped, own_taken}
use Rattle.kl1_match.proofs.Reading.{top_of, first_at, some_first}
use Rattle.kl1_match.proofs.Coming.{LeftTo, parts_begin, part_done, part_clashes, parts_end}

-- ---- what comes of parts

pub comes_as : {N : Type 0} (built : BuiltIn → N) (h : Held N) (one other : (N → List ℕ) → Answer) (before after : List ℕ) (b : Bool) → ((f : N → List ℕ) → Reads built f → one f ≡ other f) → Comes built h one before after b → Comes built h other before after b
comes_as built h one other before after b same c = record {
  named = c.named;
  unbound = c.unbound;
  added = c.added;
  comes = λ f reads. let P : Answer → Type 0 = λ o. ComesTo b c.named o in subst P (same f reads) (c.comes f reads);
}

pub it_agrees : {N : Type 0} (built : BuiltIn → N) (h : Held N) (one : (N → List ℕ) → Answer) (before after : List ℕ) → after ≡ before → ((f : N → List ℕ) → Reads built f → one f ≡ yes) → Comes built h one before after true
it_agrees built h one before after e is = record {
  named = [];
  unbound = tt;
  added = e ∙ sym (append-nil before);
  comes = λ f reads. let W : Answer → Type 0 = λ o. WaitsFor [] o in subst W (sym (is f reads)) refl;
}

pub it_clashes : {N : Type 0} (built : BuiltIn → N) (h : Held N) (one : (N → List ℕ) → Answer) (before after named : List ℕ) → AreUnbound h named → after ≡ before ++ named → ((f : N → List ℕ) → Reads built f → one f ≡ no) → Comes built h one before after false
it_clashes built h one before after named unbound e is = record { named = named; unbound = unbound; added = e; comes = is }

-- ---- outcomes that are known

module _ {N : Type 0} (built : BuiltIn → N) (t : Tests N) where
  outcome_at : found.Outcome TestVariable → Answer
  outcome_at o = own_answer (last_of t) (outcome_of (test_number t) o)

  pub settled_agrees : (o : found.Outcome TestVariable) (before : List ℕ) → o ≡ Agrees → SettledAs built t o before before true
  settled_agrees o before e = it_agrees built t.held _ before before refl (λ f reads. ap (λ k. own_answer (last_of t) (outcome_of (test_number t) k)) e)

  pub settled_clashes : (o : found.Outcome TestVariable) (before : List ℕ) → o ≡ Clashes → SettledAs built t o before before false
  settled_clashes o before e = it_clashes built t.held _ before before [] tt (sym (append-nil before)) (λ f reads. ap (λ k. own_answer (last_of t) (outcome_of (test_number t) k)) e)

  pub settled_own : (o : found.Outcome TestVariable) (x : TestVariable) (v : ℕ) (before : List ℕ) → o ≡ Waits x → x ≡ Own v → IsFreeIn t x → SettledAs built t o before before true
  settled_own o x v before e k free = record {
    named = [];
    unbound = tt;
    added = sym (append-nil before);
    comes = λ f reads.
        let F : TestVariable → Type 0 = λ y. IsFreeIn t y in
        let W : Answer → Type 0 = λ o. WaitsFor [] o in
        let S : List ℕ → Type 0 = λ ws. AreSame [] ws in
        subst W (sym (ap (λ j. own_answer (last_of t) (outcome_of (test_number t) j)) (e ∙ ap Waits k))) (subst S (sym (own_dropped (last_of t) v [] (subst F k free))) (same_as_itself []));
  }

  pub settled_goal : (o : found.Outcome TestVariable) (x : TestVariable) (w : ℕ) (before after : List ℕ) → o ≡ Waits x → x ≡ Goal w → IsFreeIn t x → after ≡ before ++ w ∷ [] → SettledAs built t o before after true
  settled_goal o x w before after e k free added =
      let F : TestVariable → Type 0 = λ y. IsFreeIn t y in
      record {
        named = w ∷ [];
        unbound = (subst F k free, tt);
        added = added;
        comes = λ f reads.
            let W : Answer → Type 0 = λ o. WaitsFor (w ∷ []) o in
            let S : List ℕ → Type 0 = λ ws. AreSame (w ∷ []) ws in
            subst W (sym (ap (λ j. own_answer (last_of t) (outcome_of (test_number t) j)) (e ∙ ap Waits k))) (subst S (sym (own_taken (last_of t) w [])) (same_as_itself (w ∷ [])));
      }

  -- ---- passive equality

  pub same_agrees : (x y : TestAt N) (before after : List ℕ) → Passes built t x y before after Same → SameAs built t x y before after true
  same_agrees x y before after p = record {
    named = p.named;
    unbound = p.unbound;
    added = p.added;
    comes = λ f reads.
        let W : Answer → Type 0 = λ o. WaitsFor p.named o in
        let k = p.comes f reads in
        subst W (sym (ap (own_answer (last_of t)) k.0)) k.1;
  }

  pub same_clashes : (x y : TestAt N) (before after : List ℕ) → Passes built t x y before after Differs → SameAs built t x y before after false
  same_clashes x y before after p = it_clashes built t.held _ before after p.named p.unbound p.added (λ f reads. ap (own_answer (last_of t)) (p.comes f reads))

  pub same_waits : (x y : TestAt N) (before after : List ℕ) → Passes built t x y before after Unknown → SameAs built t x y before after true
  same_waits x y before after p = record {
    named = p.named;
    unbound = p.unbound;
    added = p.added;
    comes = λ f reads.
        let W : Answer → Type 0 = λ o. WaitsFor p.named o in
        let k = p.comes f reads in
        subst W (sym (ap (own_answer (last_of t)) k.1.0)) k.1.1;
  }

  pub other_clashes : (x y : TestAt N) (before after : List ℕ) → Passes built t x y before after Same → OtherAs built t x y before after false
  other_clashes x y before after p = it_clashes built t.held _ before after p.named p.unbound p.added (λ f reads. ap (λ a. own_answer (last_of t) (opposite a)) (p.comes f reads).0)

  pub other_agrees : (x y : TestAt N) (before after now : List ℕ) (n : ℕ) → n ≡ length before → now ≡ take n after → Passes built t x y before after Differs → OtherAs built t x y before now true
  other_agrees x y before after now n count cut p =
      it_agrees built t.held _ before now (cut ∙ ap (λ l. take n l) p.added ∙ ap (λ k. take k (before ++ p.named)) count ∙ take-append_seam before p.named)
      (λ f reads. ap (λ a. own_answer (last_of t) (opposite a)) (p.comes f reads))

  pub other_waits : (x y : TestAt N) (before after : List ℕ) → Passes built t x y before after Unknown → OtherAs built t x y before after true
  other_waits x y before after p = record {
    named = p.named;
    unbound = p.unbound;
    added = p.added;
    comes = λ f reads.
        let W : Answer → Type 0 = λ o. WaitsFor p.named o in
        let k = p.comes f reads in
        subst W (sym (ap (λ a. own_answer (last_of t) (opposite a)) k.1.0)) k.1.1;
  }

  -- ---- a comparison

  sides : (q : Comparison) (x y : TestAt N) (i j : ℤ) (b : Bool) (f : N → List ℕ) → b ≡ guard.compared q i j → test_term built f t x ≡ integer i → test_term built f t y ≡ integer j →
      own_answer (last_of t) (sides_answer q (evaluated (test_term built f t x)) (evaluated (test_term built f t y))) ≡ own_answer (last_of t) (known b)
  sides q x y i j b f e one two =
      ap (λ k. own_answer (last_of t) (sides_answer q (evaluated k) (evaluated (test_term built f t y)))) one
      ∙ ap (λ k. own_answer (last_of t) (sides_answer q (evaluated (integer i)) (evaluated k))) two
      ∙ ap (λ d. own_answer (last_of t) (known d)) (sym e)

  pub compared_integers : (q : Comparison) (x y : TestAt N) (i j : ℤ) (before : List ℕ) (b : Bool) → b ≡ guard.compared q i j →
      ((f : N → List ℕ) → test_term built f t x ≡ integer i) → ((f : N → List ℕ) → test_term built f t y ≡ integer j) → ComparedAs built t q x y before before b
  compared_integers q x y i j before true e one two = it_agrees built t.held _ before before refl (λ f reads. sides q x y i j true f e (one f) (two f))
  compared_integers q x y i j before false e one two = it_clashes built t.held _ before before [] tt (sym (append-nil before)) (λ f reads. sides q x y i j false f e (one f) (two f))

  -- ---- a test

  found_at : (f : N → List ℕ) → Test (TestAt N) → Answer
  found_at f test = own_answer (last_of t) (test_answer (test_in (test_term built f t) test))

  pub found_holds : (test : Test (TestAt N)) (before : List ℕ) → test ≡ Holds → FoundAs built t test before before true
  found_holds test before e = it_agrees built t.held _ before before refl (λ f reads. ap (λ k. own_answer (last_of t) (test_answer (test_in (test_term built f t) k))) e)

  pub found_looks : (test : Test (TestAt N)) (i : TypeTest) (x : TestAt N) (o : found.Outcome TestVariable) (before after : List ℕ) (b : Bool) → test ≡ Looks i x → LooksAs built (test_number t) i (λ f. test_term built f t x) o → SettledAs built t o before after b → FoundAs built t test before after b
  found_looks test i x o before after b e looked c =
      comes_as built t.held _ _ before after b (λ f reads. ap (own_answer (last_of t)) (looked f reads) ∙ sym (ap (λ k. own_answer (last_of t) (test_answer (test_in (test_term built f t) k))) e)) c

  pub found_same : (test : Test (TestAt N)) (x y : TestAt N) (before after : List ℕ) (b : Bool) → test ≡ IsSame x y → SameAs built t x y before after b → FoundAs built t test before after b
  found_same test x y before after b e c = comes_as built t.held _ _ before after b (λ f reads. sym (ap (λ k. own_answer (last_of t) (test_answer (test_in (test_term built f t) k))) e)) c

  pub found_other : (test : Test (TestAt N)) (x y : TestAt N) (before after : List ℕ) (b : Bool) → test ≡ IsOther x y → OtherAs built t x y before after b → FoundAs built t test before after b
  found_other test x y before after b e c = comes_as built t.held _ _ before after b (λ f reads. sym (ap (λ k. own_answer (last_of t) (test_answer (test_in (test_term built f t) k))) e)) c

  pub found_compares : (test : Test (TestAt N)) (q : Comparison) (x y : TestAt N) (before after : List ℕ) (b : Bool) → test ≡ Compares q x y → ComparedAs built t q x y before after b → FoundAs built t test before after b
  found_compares test q x y before after b e c = comes_as built t.held _ _ before after b (λ f reads. sym (ap (λ k. own_answer (last_of t) (test_answer (test_in (test_term built f t) k))) e)) c

  pub test_there : (test other : Test (TestAt N)) → test ≡ other → IsTestAt (IsTermAt t) test → IsTestAt (IsTermAt t) other
  test_there test other e i = let P : Test (TestAt N) → Type 0 = λ k. IsTestAt (IsTermAt t) k in subst P e i

-- ---- which test a term is, with terms in place of its variables

true_again : (s : ℕ → Term) (b : Bool) → (if b then Some holds else None) ≡ option_map (test_substituted s) (if b then Some holds else None)
true_again s true = refl
true_again s false = refl

one_again : (s : ℕ → Term) (a : Term) (o : Option TypeTest) → option_map (λ i. looks i (substituted s a)) o ≡ option_map (test_substituted s) (option_map (λ i. looks i a) o)
one_again s a None = refl
one_again s a (Some i) = refl

two_again : (s : ℕ → Term) (a b : Term) (c d : Bool) (o : Option Comparison) →
    (if c then Some (is_same (substituted s a) (substituted s b)) else if d then Some (is_other (substituted s a) (substituted s b)) else option_map (λ k. compares k (substituted s a) (substituted s b)) o)
    ≡ option_map (test_substituted s) (if c then Some (is_same a b) else if d then Some (is_other a b) else option_map (λ k. compares k a b) o)
two_again s a b true d o = refl
two_again s a b false true o = refl
two_again s a b false false None = refl
two_again s a b false false (Some k) = refl

-- a term that is no variable
abbrev NoVariable : Term → Type 0
NoVariable (variable v) = ⊥
NoVariable (integer i) = Unit {0}
NoVariable (atom a) = Unit {0}
NoVariable (structure g ts) = Unit {0}

test_again : (s : ℕ → Term) (t : Term) → NoVariable t → test_of (substituted s t) ≡ option_map (test_substituted s) (test_of t)
test_again s (variable v) no_one = absurd no_one
test_again s (integer i) no_one = refl
test_again s (atom a) no_one = true_again s (bytes_eq a (codes "true"))
test_again s (structure g none) no_one = refl
test_again s (structure g (more a none)) no_one = one_again s a (type_test_named g)
test_again s (structure g (more a (more b none))) no_one = two_again s a b (bytes_eq g (codes "=")) (bytes_eq g (codes "\\=")) (comparison_named g)
test_again s (structure g (more a (more b (more c ts)))) no_one = refl

-- an outcome by a test that was found
abbrev outcome_found : Option guard.Test → Answer
outcome_found None = no
outcome_found (Some test) = test_answer test

by_found : (s : ℕ → Term) (o : Option guard.Test) → option_answer s o ≡ outcome_found (option_map (test_substituted s) o)
by_found s None = refl
by_found s (Some test) = refl

top_other : (named : Name → List ℕ) (i : Instruction) (ts : List Term) → is_variable i ≡ false → NoVariable (top_of named i ts)
top_other named (instruction.Variable n) ts e = absurd (cc)
top_other named (instruction.Integer k) ts e = tt
top_other named (instruction.Atom a) ts e = tt
top_other named (instruction.Structure a n) ts e = tt

top_variable : (named : Name → List ℕ) (i : Instruction) (ts : List Term) (s : ℕ → Term) → is_variable i ≡ true → option_answer s (test_of (top_of named i ts)) ≡ no
top_variable named (instruction.Variable n) ts s e = refl
top_variable named (instruction.Integer k) ts s e = absurd (cc)
top_variable named (instruction.Atom a) ts s e = absurd (cc)
top_variable named (instruction.Structure a n) ts s e = absurd (cc)

-- ---- the test at a place

module _ {N : Type 0} (built : BuiltIn → N) (t : Tests N) (q : ℕ) where
  outcome_there : (f : N → List ℕ) → Answer
  outcome_there f = one_test_answer (last_of t) (replacements_of f t.held t.places) (first_term (tests_from built f t q))

  -- a variable is no test
  pub variable_clashes : (before : List ℕ) → is_variable (instruction_in t.row q) ≡ true → TestComes built t q before before false
  variable_clashes before e =
      it_clashes built t.held _ before before [] tt (sym (append-nil before)) (λ f reads.
      ap (λ k. own_answer (last_of t) (option_answer (value_in f t) (test_of k))) (first_at (named_in built f t) t.row q)
      ∙ ap (own_answer (last_of t)) (top_variable (named_in built f t) (instruction_in t.row q) (terms_from (named_in built f t) (drop (suc q) t.row)) (value_in f t) e))

  -- another term is the test that is found
  is_found : (f : N → List ℕ) (o : Option (Test (TestAt N))) → is_variable (instruction_in t.row q) ≡ false → option_map (test_in (test_term built f t)) o ≡ test_of (test_term built f t (at.Row q)) →
      own_answer (last_of t) (outcome_found (option_map (test_in (test_term built f t)) o)) ≡ one_test_answer (last_of t) (replacements_of f t.held t.places) (first_term (tests_from built f t q))
  is_found f o e means =
      let named = named_in built f t in
      let rest = terms_from named (drop (suc q) t.row) in
      let P : Term → Type 0 = λ k. NoVariable k in
      let other = subst P (sym (first_at named t.row q)) (top_other named (instruction_in t.row q) rest e) in
      ap (λ k. own_answer (last_of t) (outcome_found k)) (means ∙ test_again (value_in f t) (first_term (tests_from built f t q)) other)
      ∙ ap (own_answer (last_of t)) (sym (by_found (value_in f t) (test_of (first_term (tests_from built f t q)))))

  pub test_found : (o : Option (Test (TestAt N))) (test : Test (TestAt N)) (before after : List ℕ) (b : Bool) → is_variable (instruction_in t.row q) ≡ false → o ≡ Some test →
      ((f : N → List ℕ) → Reads built f → option_map (test_in (test_term built f t)) o ≡ test_of (test_term built f t (at.Row q))) → FoundAs built t test before after b → TestComes built t q before after b
  test_found o test before after b e s means c =
      comes_as built t.held _ _ before after b (λ f reads. sym (ap (λ k. own_answer (last_of t) (outcome_found (option_map (test_in (test_term built f t)) k))) s) ∙ is_found f o e (means f reads)) c

  pub no_test : (o : Option (Test (TestAt N))) (before : List ℕ) → is_variable (instruction_in t.row q) ≡ false → o ≡ None →
      ((f : N → List ℕ) → Reads built f → option_map (test_in (test_term built f t)) o ≡ test_of (test_term built f t (at.Row q))) → TestComes built t q before before false
  no_test o before e s means =
      it_clashes built t.held _ before before [] tt (sym (append-nil before)) (λ f reads. sym (is_found f o e (means f reads)) ∙ ap (λ k. own_answer (last_of t) (outcome_found (option_map (test_in (test_term built f t)) k))) s)

-- ---- all tests

-- the tests from a place on lead to the answer of all
abbrev pub TestsLeft : {N : Type 0} → (BuiltIn → N) → Tests N → ℕ → List ℕ → List ℕ → Type 0
TestsLeft built t q before now = LeftTo built t.held (λ f. tests_answer (last_of t) (replacements_of f t.held t.places) (tests_from built f t q)) (λ f. tests_answer (last_of t) (replacements_of f t.held t.places) (tests_from built f t 0)) before now

module _ {N : Type 0} (built : BuiltIn → N) (t : Tests N) where
  pub tests_begin : (before : List ℕ) → TestsLeft built t 0 before before
  tests_begin before = parts_begin built t.held _ before

  tests_parted : (q next : ℕ) → q < length t.row → ((named : Name → List ℕ) → terms_from named (drop next t.row) ≡ behind_first (terms_from named (drop q t.row))) → (f : N → List ℕ) →
      tests_answer (last_of t) (replacements_of f t.held t.places) (tests_from built f t q)
      ≡ together (one_test_answer (last_of t) (replacements_of f t.held t.places) (first_term (tests_from built f t q))) (tests_answer (last_of t) (replacements_of f t.held t.places) (tests_from built f t next))
  tests_parted q next lt behind f =
      let places = replacements_of f t.held t.places in
      ap (tests_answer (last_of t) places) (some_first (named_in built f t) t.row q lt)
      ∙ ap (λ ts. together (one_test_answer (last_of t) places (first_term (tests_from built f t q))) (tests_answer (last_of t) places ts)) (sym (behind (named_in built f t)))

  pub tests_step : (q next : ℕ) (before now after : List ℕ) → q < length t.row → ((named : Name → List ℕ) → terms_from named (drop next t.row) ≡ behind_first (terms_from named (drop q t.row))) →
      TestsLeft built t q before now → TestComes built t q now after true → TestsLeft built t next before after
  tests_step q next before now after lt behind l c = part_done built t.held _ _ _ _ before now after (tests_parted q next lt behind) l c

  pub tests_clash : (q : ℕ) (before now after : List ℕ) → q < length t.row → TestsLeft built t q before now → TestComes built t q now after false → TestsCome built t 0 before after false
  tests_clash q before now after lt l c =
      part_clashes built t.held _ (λ f. tests_answer (last_of t) (replacements_of f t.held t.places) (behind_first (tests_from built f t q))) _ _ before now after
      (λ f. ap (tests_answer (last_of t) (replacements_of f t.held t.places)) (some_first (named_in built f t) t.row q lt)) l c

  pub tests_end : (q : ℕ) (before now : List ℕ) → length t.row ≤ q → TestsLeft built t q before now → TestsCome built t 0 before now true
  tests_end q before now le l = parts_end built t.held _ _ before now (λ f. ap (λ r. tests_answer (last_of t) (replacements_of f t.held t.places) (terms_from (named_in built f t) r)) (drop_all q t.row le)) l
