use Rattle.std.proofs.Common.{◌≡◌, Bool, true, false, List, ◌++◌, map, sym, ap, ◌∙◌, subst, arith}
use Rattle.std.specs.List.{All}
use Rattle.kl1_model.specs.Match.{own_variables}
use Rattle.kl1_match_guard.specs.declared.pair.Pair.{Pair}
use Rattle.kl1_match_guard.specs.Alike.{IsPairOf, PartsAs}
use Rattle.kl1_match.specs.declared.test_view.TestAt.{TestAt}
use Rattle.kl1_match.specs.TestTerms.{tests_of, last_of, test_number, test_term, IsTermAt, IsCellAt}
use Rattle.kl1_match.specs.Passing.{PairsCome}
use Rattle.kl1_match.proofs.TermPairs.{differ_at_once, differ_in_pairs, same_terms_there, terms_wait}
use Rattle.kl1_match.proofs.passing.compare_terms.Goals as goal

pub returns-then-not-branch-clause-passes : goal.returns-then-not-branch-clause-passes
returns-then-not-branch-clause-passes g c =
    let t = tests_of c.args.view.now in
    let built = g.N.NameValue.built in
    let before = c.args.awaited.now.items in
    let waits = c.alike.new.waits.items in
    let rest = c.alike.new.rest.items in
    let P : Bool → Type 0 = λ b. PartsAs built (test_number t) (λ f z. test_term built f t z) c.args.left c.args.right waits rest b in
    differ_at_once built t c.args.left c.args.right waits rest before before before before (λ i. before) (subst P c.if-not-branch.true c.in_ok-alike.ensures.value)

pub compare_pairs-requires-clause-pairs : goal.compare_pairs-requires-clause-pairs
compare_pairs-requires-clause-pairs g c =
    let t = tests_of c.args.view.now in
    let A : List (Pair (TestAt _)) → Type 0 = λ l. All (IsPairOf (IsTermAt t) (IsCellAt t)) l in
    subst A (sym c.as_slice-2.ensures.value) c.in_ok-alike.ensures.rest

pub returns-then-not-branch-2-clause-passes : goal.returns-then-not-branch-2-clause-passes
returns-then-not-branch-2-clause-passes g c =
    let t = tests_of c.args.view.now in
    let built = g.N.NameValue.built in
    let before = c.args.awaited.now.items in
    let mid = c.put_goal_variables.new.awaited.items in
    let after = c.compare_pairs.new.awaited.items in
    let waits = c.alike.new.waits.items in
    let rest = c.alike.new.rest.items in
    let P : Bool → Type 0 = λ b. PartsAs built (test_number t) (λ f z. test_term built f t z) c.args.left c.args.right waits rest b in
    let Q : Bool → Type 0 = λ b. PairsCome built t c.as_slice-2.result.now mid after b in
    let R : List (Pair (TestAt _)) → Type 0 = λ l. PairsCome built t l mid after false in
    let put : mid ≡ before ++ own_variables (last_of t) (map (test_number t) waits) = c.in_ok-put_goal_variables.ensures ∙ ap (λ l. before ++ own_variables (last_of t) (map (test_number t) l)) c.as_slice.ensures.value in
    differ_in_pairs built t c.args.left c.args.right waits rest before mid after c.in_ok-alike.ensures.waits put (subst P c.if-not-branch.false c.in_ok-alike.ensures.value)
    (subst R c.as_slice-2.ensures.value (subst Q c.if-not-branch-2.true c.in_ok-compare_pairs.ensures.comes))

pub returns-then-is_settled-clause-passes : goal.returns-then-is_settled-clause-passes
returns-then-is_settled-clause-passes g c =
    let t = tests_of c.args.view.now in
    let built = g.N.NameValue.built in
    let before = c.args.awaited.now.items in
    let mid = c.put_goal_variables.new.awaited.items in
    let after = c.compare_pairs.new.awaited.items in
    let waits = c.alike.new.waits.items in
    let rest = c.alike.new.rest.items in
    let P : Bool → Type 0 = λ b. PartsAs built (test_number t) (λ f z. test_term built f t z) c.args.left c.args.right waits rest b in
    let Q : Bool → Type 0 = λ b. PairsCome built t c.as_slice-2.result.now mid after b in
    let R : List (Pair (TestAt _)) → Type 0 = λ l. PairsCome built t l mid after true in
    let put : mid ≡ before ++ own_variables (last_of t) (map (test_number t) waits) = c.in_ok-put_goal_variables.ensures ∙ ap (λ l. before ++ own_variables (last_of t) (map (test_number t) l)) c.as_slice.ensures.value in
    let settled = c.is_settled.ensures.yes c.if-is_settled.true in
    same_terms_there built t c.args.left c.args.right waits rest before mid after c.in_ok-alike.ensures.waits put (subst P c.if-not-branch.false c.in_ok-alike.ensures.value)
    (subst R c.as_slice-2.ensures.value (subst Q c.if-not-branch-2.false c.in_ok-compare_pairs.ensures.comes))
    (sym c.as_slice-3.ensures.value ∙ settled.0) (omega (arith, settled.1, c.len.ensures, c.len-before.ensures, c.compare_pairs.new.awaited.ok.0, c.args.awaited.now.ok.0))

pub returns-clause-passes : goal.returns-clause-passes
returns-clause-passes g c =
    let t = tests_of c.args.view.now in
    let built = g.N.NameValue.built in
    let before = c.args.awaited.now.items in
    let mid = c.put_goal_variables.new.awaited.items in
    let after = c.compare_pairs.new.awaited.items in
    let waits = c.alike.new.waits.items in
    let rest = c.alike.new.rest.items in
    let P : Bool → Type 0 = λ b. PartsAs built (test_number t) (λ f z. test_term built f t z) c.args.left c.args.right waits rest b in
    let Q : Bool → Type 0 = λ b. PairsCome built t c.as_slice-2.result.now mid after b in
    let R : List (Pair (TestAt _)) → Type 0 = λ l. PairsCome built t l mid after true in
    let put : mid ≡ before ++ own_variables (last_of t) (map (test_number t) waits) = c.in_ok-put_goal_variables.ensures ∙ ap (λ l. before ++ own_variables (last_of t) (map (test_number t) l)) c.as_slice.ensures.value in
    terms_wait built t c.args.left c.args.right waits rest before mid after c.in_ok-alike.ensures.waits put (subst P c.if-not-branch.false c.in_ok-alike.ensures.value)
    (subst R c.as_slice-2.ensures.value (subst Q c.if-not-branch-2.false c.in_ok-compare_pairs.ensures.comes))
    (λ empty count. c.is_settled.ensures.no c.if-is_settled.false (c.as_slice-3.ensures.value ∙ empty) (omega (arith, count, c.len.ensures, c.len-before.ensures, c.compare_pairs.new.awaited.ok.0, c.args.awaited.now.ok.0)))
