use Rattle.std.proofs.Common.{◌≡◌, Bool, true, false, List, length, sym, ◌∙◌, arith, subst}
use Rattle.kl1_clause.specs.declared.instruction.Instruction.{Instruction}
use Rattle.kl1_match.specs.declared.place.Place.{Place}
use Rattle.kl1_match.specs.Verdicts.{IsTried}
use Rattle.kl1_match.specs.Instances.{AreThere}
use Rattle.kl1_match.specs.TestTerms.{tests_with}
use Rattle.kl1_match_verdict.specs.Outcomes.{RestComes}
use Rattle.kl1_match.proofs.Trying.{of_places}
use Rattle.kl1_match.proofs.Whole.{dropped}
use Rattle.kl1_match_verdict.proofs.Judging.{rejected_there, tests_sound, whole_accepts, whole_suspends, whole_rejects}
use Rattle.kl1_match_verdict.proofs.verdicts.judge_whole.Goals as goal

pub returns-then-is_rejection-clause-judged : goal.returns-then-is_rejection-clause-judged
returns-then-is_rejection-clause-judged g c =
    let h = c.args.store.now.held in
    let built = g.N.NameValue.built in
    let places = c.find_match.new.places.items in
    let before = c.args.awaited.now.items in
    let mid = c.find_match.new.awaited.items in
    let t = of_places places (λ ps. IsTried built c.args.names.now c.args.clause.now h c.args.goal ps before mid c.in_ok-tried.tried) c.in_ok-tried.ensures in
    dropped built c.args.names.now c.args.clause.now h c.args.goal places before mid c.truncate.new.self.items c.len-before.result (omega (arith, c.len-before.ensures, c.args.awaited.now.ok.0)) c.truncate.ensures.items
    (rejected_there built c.args.names.now c.args.clause.now h c.args.goal places before mid c.in_ok-tried.tried (sym c.is_rejection.ensures ∙ c.if-is_rejection.true) t)

pub may_go_on-requires-clause-sound : goal.may_go_on-requires-clause-sound
may_go_on-requires-clause-sound g c =
    let h = c.args.store.now.held in
    let places = c.find_match.new.places.items in
    let t = of_places places (λ ps. IsTried g.N.NameValue.built c.args.names.now c.args.clause.now h c.args.goal ps c.args.awaited.now.items c.find_match.new.awaited.items c.in_ok-tried.tried) c.in_ok-tried.ensures in
    let P : List (Place _) → Type 0 = λ ps. AreThere h ps in
    tests_sound c.args.names.now c.args.clause.now h c.as_slice.result.now c.as_slice-row.result.now c.requires.clause c.as_slice-row.ensures.value (subst P (sym c.as_slice.ensures.value) t.inside)

pub returns-then-not-branch-clause-judged : goal.returns-then-not-branch-clause-judged
returns-then-not-branch-clause-judged g c =
    let h = c.args.store.now.held in
    let built = g.N.NameValue.built in
    let names = c.args.names.now in
    let places = c.find_match.new.places.items in
    let before = c.args.awaited.now.items in
    let mid = c.find_match.new.awaited.items in
    let after = c.may_go_on.new.awaited.items in
    let t = of_places places (λ ps. IsTried built names c.args.clause.now h c.args.goal ps before mid c.in_ok-tried.tried) c.in_ok-tried.ensures in
    let P : Bool → Type 0 = λ b. RestComes built (tests_with h names c.as_slice-row.result.now c.as_slice.result.now) mid after b in
    let Q : List (Place _) → Type 0 = λ ps. RestComes built (tests_with h names c.as_slice-row.result.now ps) mid after false in
    let R : List Instruction → Type 0 = λ row. RestComes built (tests_with h names row places) mid after false in
    whole_rejects built names c.args.clause.now h c.args.goal places before mid after c.truncate-then-not-branch.new.self.items c.len-matched.result c.in_ok-tried.tried (sym c.is_rejection.ensures ∙ c.if-is_rejection.false) t
    (subst R c.as_slice-row.ensures.value (subst Q c.as_slice.ensures.value (subst P c.if-not-branch.true c.in_ok-may_go_on.ensures.come))) (omega (arith, c.len-matched.ensures, c.find_match.new.awaited.ok.0)) c.truncate-then-not-branch.ensures.items

pub returns-then-len-before-clause-judged : goal.returns-then-len-before-clause-judged
returns-then-len-before-clause-judged g c =
    let h = c.args.store.now.held in
    let built = g.N.NameValue.built in
    let names = c.args.names.now in
    let places = c.find_match.new.places.items in
    let before = c.args.awaited.now.items in
    let mid = c.find_match.new.awaited.items in
    let after = c.may_go_on.new.awaited.items in
    let t = of_places places (λ ps. IsTried built names c.args.clause.now h c.args.goal ps before mid c.in_ok-tried.tried) c.in_ok-tried.ensures in
    let P : Bool → Type 0 = λ b. RestComes built (tests_with h names c.as_slice-row.result.now c.as_slice.result.now) mid after b in
    let Q : List (Place _) → Type 0 = λ ps. RestComes built (tests_with h names c.as_slice-row.result.now ps) mid after true in
    let R : List Instruction → Type 0 = λ row. RestComes built (tests_with h names row places) mid after true in
    let same : length after ≡ length before = omega (arith, c.may_go_on.new.awaited.ok.0, c.args.awaited.now.ok.0, c.len-before.ensures, c.len.ensures, c.if-len-before.true) in
    whole_accepts built names c.args.clause.now h c.args.goal places before mid after c.in_ok-tried.tried (sym c.is_rejection.ensures ∙ c.if-is_rejection.false) t
    (subst R c.as_slice-row.ensures.value (subst Q c.as_slice.ensures.value (subst P c.if-not-branch.false c.in_ok-may_go_on.ensures.come))) same

pub returns-clause-judged : goal.returns-clause-judged
returns-clause-judged g c =
    let h = c.args.store.now.held in
    let built = g.N.NameValue.built in
    let names = c.args.names.now in
    let places = c.find_match.new.places.items in
    let before = c.args.awaited.now.items in
    let mid = c.find_match.new.awaited.items in
    let after = c.may_go_on.new.awaited.items in
    let t = of_places places (λ ps. IsTried built names c.args.clause.now h c.args.goal ps before mid c.in_ok-tried.tried) c.in_ok-tried.ensures in
    let P : Bool → Type 0 = λ b. RestComes built (tests_with h names c.as_slice-row.result.now c.as_slice.result.now) mid after b in
    let Q : List (Place _) → Type 0 = λ ps. RestComes built (tests_with h names c.as_slice-row.result.now ps) mid after true in
    let R : List Instruction → Type 0 = λ row. RestComes built (tests_with h names row places) mid after true in
    let more : length after ≡ length before → ⊥ = λ e. c.if-len-before.false (omega (arith, c.may_go_on.new.awaited.ok.0, c.args.awaited.now.ok.0, c.len-before.ensures, c.len.ensures, e)) in
    whole_suspends built names c.args.clause.now h c.args.goal places before mid after c.in_ok-tried.tried (sym c.is_rejection.ensures ∙ c.if-is_rejection.false) t
    (subst R c.as_slice-row.ensures.value (subst Q c.as_slice.ensures.value (subst P c.if-not-branch.false c.in_ok-may_go_on.ensures.come))) more
