-- Passive equality of two terms of tests, from their parts.
use Rattle.std.proofs.Common.{◌≡◌, ℕ, suc, ◌+◌, ◌-◌, ◌<◌, ◌≤◌, ◌==◌, Bool, true, false, ◌||◌, List, [], ◌∷◌, ◌++◌, length, get_or, take, drop, map, refl, sym, ap, ap₂, ◌∙◌, subst, arith, append_assoc, append-nil, drop-cons}
use Rattle.std.specs.List.{All}
use Rattle.std.proofs.lemmas.List.{take_all, drop_all, nil_from_length}
use Rattle.std.proofs.lemmas.List.Elements.{All-head, All-tail}
use Rattle.std.proofs.lemmas.List.Folds.{list_any-append}
use Rattle.std.proofs.lemmas.Bool.{or_parts, or_from, or_left}
use Rattle.kl1_model.specs.declared.built_in.BuiltIn.{BuiltIn}
use Rattle.kl1_model.specs.Term.{Term}
use Rattle.kl1_model.specs.Answer.{yes, no, wait}
use Rattle.kl1_model.specs.Same.{compare}
use Rattle.kl1_model.specs.code.Comparing.{clash, awaited, answer_of_parts}
use Rattle.kl1_model.specs.Match.{own_variables}
use Rattle.kl1_model.proofs.Comparisons.{compare_is_parts}
use Rattle.kl1_model.proofs.Beside.{moved, clash_beside, awaited_beside, own_moved}
use Rattle.kl1_text.specs.Reading.{Reads}
use Rattle.kl1_store.specs.declared.cell.Cell.{Cell}
use Rattle.kl1_store.specs.Meaning.{term_of}
use Rattle.kl1_store.specs.Sameness.{AlikeAs}
use Rattle.kl1_match_guard.specs.declared.pair.Pair.{Pair}
use Rattle.kl1_match_guard.specs.Alike.{is_among, wait_for, some_pair, IsPairOf, PartsAs, Parts}
use Rattle.kl1_match.specs.declared.test_view.TestAt.{TestAt}
use Rattle.kl1_match.specs.declared.test_view.TestAt.TheVariants as at
use Rattle.kl1_match.specs.declared.test_view.TestVariable.{TestVariable}
use Rattle.kl1_match.specs.declared.test_view.TestVariable.TheVariants.{Own, Goal}
use Rattle.kl1_match.specs.declared.passing.Passed.TheVariants.{Same, Differs, Unknown}
use Rattle.kl1_match.specs.TestTerms.{Tests, last_of, goal_of, test_number, test_term, IsFreeIn, IsTermAt, IsCellAt}
use Rattle.kl1_match.specs.Passing.{goal_number, PairsCome, Passes}
use Rattle.kl1_match.specs.Waiting.{AreUnbound, AreSame}
use Rattle.kl1_match.proofs.Naming.{none_same}
use Rattle.kl1_match.proofs.Among.{among_same, same_among, none_among, own_among, own_dropped, own_taken}
use Rattle.kl1_match.proofs.Coming.{AreUnbound-append, more_named}
use Rattle.kl1_match.proofs.Whole.{named_count}

or_nothing : (b : Bool) → (b || false) ≡ b
or_nothing true = refl
or_nothing false = refl

pub or_group : (a b c : Bool) → ((a || b) || c) ≡ (a || (b || c))
or_group true b c = refl
or_group false b c = refl

both_empty : (vs ws : List ℕ) → vs ++ ws ≡ [] → (vs ≡ []) × (ws ≡ [])
both_empty [] ws e = (refl, e)
both_empty (v ∷ vs) ws e = absurd (cc)

-- ---- variables of the goal

own_one : {N : Type 0} (t : Tests N) (x : TestVariable) (vs : List ℕ) → IsFreeIn t x → own_variables (last_of t) (test_number t x ∷ vs) ≡ goal_of x ++ own_variables (last_of t) vs
own_one t (Own v) vs free = own_dropped (last_of t) v vs free
own_one t (Goal w) vs free = own_taken (last_of t) w vs

-- the variables that are left, after those that were put
pub record PutLeft {N : Type 0} (t : Tests N) (all left : List TestVariable) (before now : List ℕ) : Type 0 where
  pub free : All (IsFreeIn t) left
  pub put : now ++ own_variables (last_of t) (map (test_number t) left) ≡ before ++ own_variables (last_of t) (map (test_number t) all)

pub put_step : {N : Type 0} (t : Tests N) (all : List TestVariable) (place : ℕ) (d : TestVariable) (before now next : List ℕ) → place < length all → PutLeft t all (drop place all) before now → next ≡ now ++ goal_of (get_or all place d) →
    PutLeft t all (drop (place + 1) all) before next
put_step t all place d before now next lt l p =
    let x = get_or all place d in
    let zs = drop (suc place) all in
    let one : suc place ≡ place + 1 = omega arith in
    let ws = own_variables (last_of t) (map (test_number t) zs) in
    let P : ℕ → Type 0 = λ n. PutLeft t all (drop n all) before next in
    let Q : List TestVariable → Type 0 = λ r. PutLeft t all r before now in
    let k = subst Q (drop-cons all place d lt) l in
    subst P one (record {
      free = All-tail (IsFreeIn t) x zs k.free;
      put =
          ap (λ m. m ++ ws) p ∙ append_assoc now (goal_of x) ws
          ∙ ap (λ m. now ++ m) (sym (own_one t x (map (test_number t) zs) (All-head (IsFreeIn t) x zs k.free))) ∙ k.put;
    })

pub put_end : {N : Type 0} (t : Tests N) (all : List TestVariable) (place : ℕ) (before now : List ℕ) → length all ≤ place → PutLeft t all (drop place all) before now → now ≡ before ++ own_variables (last_of t) (map (test_number t) all)
put_end t all place before now le l = sym (append-nil now) ∙ ap (λ r. now ++ own_variables (last_of t) (map (test_number t) r)) (sym (drop_all place all le)) ∙ l.put

-- they are unbound
goal_unbound : {N : Type 0} (t : Tests N) (x : TestVariable) (vs : List ℕ) → IsFreeIn t x → AreUnbound t.held vs → AreUnbound t.held (goal_of x ++ vs)
goal_unbound t (Own v) vs free u = u
goal_unbound t (Goal w) vs free u = (free, u)

own_unbound : {N : Type 0} (t : Tests N) (xs : List TestVariable) → All (IsFreeIn t) xs → AreUnbound t.held (own_variables (last_of t) (map (test_number t) xs))
own_unbound t [] a = tt
own_unbound {N = N} t (x ∷ xs) a =
    let U : List ℕ → Type 0 = λ l. AreUnbound t.held l in
    subst U (sym (own_one t x (map (test_number t) xs) (All-head (IsFreeIn t) x xs a))) (goal_unbound t x _ (All-head (IsFreeIn t) x xs a) (own_unbound t xs (All-tail (IsFreeIn t) x xs a)))

-- ---- pairs of cells

module _ {N : Type 0} (built : BuiltIn → N) (t : Tests N) where
  pair_waits : (f : N → List ℕ) (p : Pair (TestAt N)) (x y : Cell N) → p.left ≡ at.Cell x → p.right ≡ at.Cell y → awaited (test_term built f t p.left) (test_term built f t p.right) ≡ map (moved (last_of t)) (awaited (term_of f t.held x) (term_of f t.held y))
  pair_waits f p x y e k = ap₂ (λ (a b : TestAt N). awaited (test_term built f t a) (test_term built f t b)) e k ∙ awaited_beside (last_of t) (term_of f t.held x) (term_of f t.held y)

  pair_clash : (f : N → List ℕ) (p : Pair (TestAt N)) (x y : Cell N) → p.left ≡ at.Cell x → p.right ≡ at.Cell y → clash (test_term built f t p.left) (test_term built f t p.right) ≡ clash (term_of f t.held x) (term_of f t.held y)
  pair_clash f p x y e k = ap₂ (λ (a b : TestAt N). clash (test_term built f t a) (test_term built f t b)) e k ∙ clash_beside (last_of t) (term_of f t.held x) (term_of f t.held y)

  pub pair_compared : (p : Pair (TestAt N)) (x y : Cell N) (before after : List ℕ) (b : Bool) → p.left ≡ at.Cell x → p.right ≡ at.Cell y → AlikeAs built t.held x y before after b → PairsCome built t (p ∷ []) before after b
  pair_compared p x y before after true e k a = record {
    named = a.named;
    unbound = a.unbound;
    added = a.added;
    comes = λ f reads.
        let ws = awaited (term_of f t.held x) (term_of f t.held y) in
        record {
          clash = or_from _ false (pair_clash f p x y e k ∙ a.clash f reads) refl;
          awaited = λ w.
              among_same w a.named ws (a.awaited f reads w) ∙ ap (is_among w) (sym (own_moved (last_of t) ws)) ∙ own_among (last_of t) w (map (moved (last_of t)) ws)
              ∙ ap (is_among (goal_number t w)) (sym (pair_waits f p x y e k)) ∙ sym (or_nothing (wait_for (goal_number t w) (test_term built f t p.left) (test_term built f t p.right)));
          none = λ empty v.
              let S : List ℕ → Type 0 = λ ns. AreSame ns ws in
              let nothing : ws ≡ [] = none_same ws (subst S empty (record { each = a.awaited f reads })) in
              or_from _ false (ap (is_among v) (pair_waits f p x y e k ∙ ap (map (moved (last_of t))) nothing)) refl;
        };
  }
  pair_compared p x y before after false e k a = record {
    named = [];
    unbound = tt;
    added = a.0 ∙ sym (append-nil before);
    comes = λ f reads. or_left _ false (pair_clash f p x y e k ∙ a.1 f reads);
  }

  pub no_row_left : (p : Pair (TestAt N)) (q : ℕ) → p.left ≡ at.Row q → IsPairOf (IsTermAt t) (IsCellAt t) p → ⊥
  no_row_left p q e i = let P : TestAt N → Type 0 = λ k. IsCellAt t k in subst P e i.left_shared

  pub no_row_right : (p : Pair (TestAt N)) (q : ℕ) → p.right ≡ at.Row q → IsPairOf (IsTermAt t) (IsCellAt t) p → ⊥
  no_row_right p q e i = let P : TestAt N → Type 0 = λ k. IsCellAt t k in subst P e i.right_shared

  -- what is left of pairs, with what was named
  pub record PairsLead (f : N → List ℕ) (all left : List (Pair (TestAt N))) (named : List ℕ) : Type 0 where
    pub clash : some_pair (test_term built f t) clash all ≡ some_pair (test_term built f t) clash left
    pub awaited : (w : ℕ) → (is_among w named || some_pair (test_term built f t) (wait_for (goal_number t w)) left) ≡ some_pair (test_term built f t) (wait_for (goal_number t w)) all
    pub none : named ≡ [] → (v : ℕ) → some_pair (test_term built f t) (wait_for v) all ≡ some_pair (test_term built f t) (wait_for v) left

  pub record PairsLeft (all left : List (Pair (TestAt N))) (before now : List ℕ) : Type 0 where
    pub inside : All (IsPairOf (IsTermAt t) (IsCellAt t)) left
    pub named : List ℕ
    pub unbound : AreUnbound t.held named
    pub added : now ≡ before ++ named
    pub leads : (f : N → List ℕ) → Reads built f → PairsLead f all left named

  pub pairs_begin : (all : List (Pair (TestAt N))) (before : List ℕ) → All (IsPairOf (IsTermAt t) (IsCellAt t)) all → PairsLeft all all before before
  pairs_begin all before inside = record { inside = inside; named = []; unbound = tt; added = sym (append-nil before); leads = λ f reads. record { clash = refl; awaited = λ w. refl; none = λ e v. refl } }

  pub pairs_step : (x : Pair (TestAt N)) (all left : List (Pair (TestAt N))) (before now next : List ℕ) → 1 ≤ length left → x ≡ get_or left 0 x → PairsLeft all left before now → PairsCome built t (x ∷ []) now next true →
      PairsLeft all (take (length left - 1) (drop 1 left)) before next
  pairs_step x all [] before now next le e l k = absurd (omega arith)
  pairs_step x all (z ∷ zs) before now next le e l k =
      let P : List (Pair (TestAt N)) → Type 0 = λ r. PairsLeft all r before next in
      let Q : Pair (TestAt N) → Type 0 = λ y. PairsCome built t (y ∷ []) now next true in
      subst P (sym (take_all (length (z ∷ zs) - 1) zs (omega arith))) (went (subst Q e k))
    where
      went : PairsCome built t (z ∷ []) now next true → PairsLeft all zs before next
      went c = record {
        inside = All-tail (IsPairOf (IsTermAt t) (IsCellAt t)) z zs l.inside;
        named = l.named ++ c.named;
        unbound = AreUnbound-append t.held l.named c.named l.unbound c.unbound;
        added = more_named before now next l.named c.named l.added c.added;
        leads = λ f reads.
            let d = l.leads f reads in
            let one = c.comes f reads in
            let here = or_parts (clash (test_term built f t z.left) (test_term built f t z.right)) false one.clash in
            record {
              clash = d.clash ∙ ap (λ b. b || some_pair (test_term built f t) clash zs) here.0;
              awaited = λ w.
                  let p = wait_for (goal_number t w) in
                  let mine = p (test_term built f t z.left) (test_term built f t z.right) in
                  let others = some_pair (test_term built f t) p zs in
                  ap (λ b. b || others) (list_any-append (λ k. w == k) l.named c.named)
                  ∙ or_group (is_among w l.named) (is_among w c.named) others
                  ∙ ap (λ b. is_among w l.named || (b || others)) (one.awaited w ∙ or_nothing mine)
                  ∙ d.awaited w;
              none = λ empty v.
                  let k = both_empty l.named c.named empty in
                  let nothing = or_parts (wait_for v (test_term built f t z.left) (test_term built f t z.right)) false (one.none k.1 v) in
                  d.none k.0 v ∙ ap (λ b. b || some_pair (test_term built f t) (wait_for v) zs) nothing.0;
            };
      }

  pub pairs_clash : (x : Pair (TestAt N)) (all left : List (Pair (TestAt N))) (before now next : List ℕ) → 1 ≤ length left → x ≡ get_or left 0 x → PairsLeft all left before now → PairsCome built t (x ∷ []) now next false →
      PairsCome built t all before next false
  pairs_clash x all [] before now next le e l k = absurd (omega arith)
  pairs_clash x all (z ∷ zs) before now next le e l k = let Q : Pair (TestAt N) → Type 0 = λ y. PairsCome built t (y ∷ []) now next false in went (subst Q e k)
    where
      went : PairsCome built t (z ∷ []) now next false → PairsCome built t all before next false
      went c = record {
        named = l.named ++ c.named;
        unbound = AreUnbound-append t.held l.named c.named l.unbound c.unbound;
        added = more_named before now next l.named c.named l.added c.added;
        comes = λ f reads.
            let mine = clash (test_term built f t z.left) (test_term built f t z.right) in
            (l.leads f reads).clash ∙ or_left mine (some_pair (test_term built f t) clash zs) (sym (or_nothing mine) ∙ c.comes f reads);
      }

  pub pairs_end : (all left : List (Pair (TestAt N))) (before now : List ℕ) → length left < 1 → PairsLeft all left before now → PairsCome built t all before now true
  pairs_end all [] before now le l = record {
    named = l.named;
    unbound = l.unbound;
    added = l.added;
    comes = λ f reads.
        let d = l.leads f reads in
        record { clash = d.clash; awaited = λ w. sym (or_nothing (is_among w l.named)) ∙ d.awaited w; none = d.none };
  }
  pairs_end all (z ∷ zs) before now le l = absurd (omega arith)

  pub pair_inside : (x : Pair (TestAt N)) (left : List (Pair (TestAt N))) → 1 ≤ length left → x ≡ get_or left 0 x → All (IsPairOf (IsTermAt t) (IsCellAt t)) left → IsPairOf (IsTermAt t) (IsCellAt t) x
  pair_inside x [] le e a = absurd (omega arith)
  pair_inside x (z ∷ zs) le e a = let P : Pair (TestAt N) → Type 0 = λ y. IsPairOf (IsTermAt t) (IsCellAt t) y in subst P (sym e) (All-head (IsPairOf (IsTermAt t) (IsCellAt t)) z zs a)

-- ---- answers

pub they_differ : (t u : Term) → clash t u ≡ true → compare t u ≡ no
they_differ t u c = compare_is_parts t u ∙ ap (λ b. answer_of_parts b (awaited t u)) c

pub they_are_same : (t u : Term) → clash t u ≡ false → awaited t u ≡ [] → compare t u ≡ yes
they_are_same t u c a = compare_is_parts t u ∙ ap₂ answer_of_parts c a

parts_wait : (vs : List ℕ) → (vs ≡ [] → ⊥) → answer_of_parts false vs ≡ wait vs
parts_wait [] some = absurd (some refl)
parts_wait (v ∷ vs) some = refl

pub they_wait : (t u : Term) → clash t u ≡ false → (awaited t u ≡ [] → ⊥) → compare t u ≡ wait (awaited t u)
they_wait t u c some = compare_is_parts t u ∙ ap (λ b. answer_of_parts b (awaited t u)) c ∙ parts_wait (awaited t u) some

module _ {N : Type 0} (built : BuiltIn → N) (t : Tests N) (x y : TestAt N) (waits : List TestVariable) (rest : List (Pair (TestAt N))) (before mid after : List ℕ) where
  -- they clash at once
  pub differ_at_once : (now : List ℕ) → now ≡ before → PartsAs built (test_number t) (λ f z. test_term built f t z) x y waits rest false → Passes built t x y before now Differs
  differ_at_once now e p = record {
    named = [];
    unbound = tt;
    added = e ∙ sym (append-nil before);
    comes = λ f reads. they_differ (test_term built f t x) (test_term built f t y) (p f reads);
  }

  -- or in cells that they have
  pub differ_in_pairs : All (IsFreeIn t) waits → mid ≡ before ++ own_variables (last_of t) (map (test_number t) waits) → PartsAs built (test_number t) (λ f z. test_term built f t z) x y waits rest true → PairsCome built t rest mid after false → Passes built t x y before after Differs
  differ_in_pairs free put p c =
      let own = own_variables (last_of t) (map (test_number t) waits) in
      record {
        named = own ++ c.named;
        unbound = AreUnbound-append t.held own c.named (own_unbound t waits free) c.unbound;
        added = more_named before mid after own c.named put c.added;
        comes = λ f reads. they_differ (test_term built f t x) (test_term built f t y) ((p f reads).clash ∙ c.comes f reads);
      }

  -- which variables they wait for
  all_waits : (f : N → List ℕ) → Reads built f → (p : PartsAs built (test_number t) (λ f z. test_term built f t z) x y waits rest true) → (c : PairsCome built t rest mid after true) → (w : ℕ) →
      is_among w (own_variables (last_of t) (map (test_number t) waits) ++ c.named) ≡ is_among w (own_variables (last_of t) (awaited (test_term built f t x) (test_term built f t y)))
  all_waits f reads p c w =
      let own = own_variables (last_of t) (map (test_number t) waits) in
      list_any-append (λ k. w == k) own c.named
      ∙ ap₂ (λ (a b : Bool). a || b) (own_among (last_of t) w (map (test_number t) waits)) ((c.comes f reads).awaited w)
      ∙ sym ((p f reads).awaited (goal_number t w))
      ∙ sym (own_among (last_of t) w (awaited (test_term built f t x) (test_term built f t y)))

  pub same_terms_there : All (IsFreeIn t) waits → mid ≡ before ++ own_variables (last_of t) (map (test_number t) waits) → PartsAs built (test_number t) (λ f z. test_term built f t z) x y waits rest true → PairsCome built t rest mid after true →
      waits ≡ [] → length after ≡ length before → Passes built t x y before after Same
  same_terms_there free put p c empty count =
      let own = own_variables (last_of t) (map (test_number t) waits) in
      let all = more_named before mid after own c.named put c.added in
      let none : own ++ c.named ≡ [] = nil_from_length (own ++ c.named) (omega (arith, count, named_count before after (own ++ c.named) all)) in
      let k = both_empty own c.named none in
      record {
        named = own ++ c.named;
        unbound = AreUnbound-append t.held own c.named (own_unbound t waits free) c.unbound;
        added = all;
        comes = λ f reads.
            let d = p f reads in
            let o = c.comes f reads in
            let nothing : awaited (test_term built f t x) (test_term built f t y) ≡ [] = none_among (awaited (test_term built f t x) (test_term built f t y)) (λ v. d.awaited v ∙ ap (λ ws. is_among v (map (test_number t) ws) || some_pair (test_term built f t) (wait_for v) rest) empty ∙ o.none k.1 v) in
            (they_are_same (test_term built f t x) (test_term built f t y) (d.clash ∙ o.clash) nothing, none);
      }

  pub terms_wait : All (IsFreeIn t) waits → mid ≡ before ++ own_variables (last_of t) (map (test_number t) waits) → PartsAs built (test_number t) (λ f z. test_term built f t z) x y waits rest true → PairsCome built t rest mid after true →
      (waits ≡ [] → length after ≡ length before → ⊥) → Passes built t x y before after Unknown
  terms_wait free put p c some =
      let own = own_variables (last_of t) (map (test_number t) waits) in
      let all = more_named before mid after own c.named put c.added in
      record {
        named = own ++ c.named;
        unbound = AreUnbound-append t.held own c.named (own_unbound t waits free) c.unbound;
        added = all;
        comes = λ f reads.
            let d = p f reads in
            let o = c.comes f reads in
            let ws = awaited (test_term built f t x) (test_term built f t y) in
            let same_there = same_among (own ++ c.named) (own_variables (last_of t) ws) (all_waits f reads p c) in
            (ws, (they_wait (test_term built f t x) (test_term built f t y) (d.clash ∙ o.clash) (λ nothing. never f reads d nothing (subst (λ l. AreSame (own ++ c.named) (own_variables (last_of t) l)) nothing same_there)), same_there));
      }
    where
      no_map : (xs : List TestVariable) → map (test_number t) xs ≡ [] → xs ≡ []
      no_map [] e = refl
      no_map (z ∷ zs) e = absurd (cc)

      never : (f : N → List ℕ) → Reads built f → Parts (test_number t) (test_term built f t) (test_term built f t x) (test_term built f t y) waits rest → awaited (test_term built f t x) (test_term built f t y) ≡ [] →
          AreSame (own_variables (last_of t) (map (test_number t) waits) ++ c.named) [] → ⊥
      never f reads d nothing s =
          let own = own_variables (last_of t) (map (test_number t) waits) in
          let none : own ++ c.named ≡ [] = none_same (own ++ c.named) (record { each = λ v. ((s.each v).1, (s.each v).0) }) in
          let no_waits : map (test_number t) waits ≡ [] = none_among (map (test_number t) waits) (λ v. (or_parts (is_among v (map (test_number t) waits)) (some_pair (test_term built f t) (wait_for v) rest) (sym (d.awaited v) ∙ ap (is_among v) nothing)).0) in
          some (no_map waits no_waits) (ap length (more_named before mid after own c.named put c.added ∙ ap (λ l. before ++ l) none ∙ append-nil before))
