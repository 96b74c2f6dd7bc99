use Rattle.std.proofs.Common.{◌∙◌, ◌+◌, ◌≡◌, ◌&&◌, true, false, ap, sym, not, suc, Option, Some, None, ℕ, if◌then◌else◌, arith}
use Rattle.kl1_read.specs.Followings.{holds}
use Rattle.kl1_read.proofs.Follows.{no_room, section_few, follows_last, follows_others}
use Rattle.kl1_read.proofs.following.section_for.Goals as goal

pub returns-then-not-has_room : goal.returns-then-not-has_room
returns-then-not-has_room c = no_room c.args.before.now c.args.behind c.args.clause.now c.if-not-has_room.ensures

pub overflow_add-result : goal.overflow_add-result
overflow_add-result c =
    let few = section_few c.args.clause.now.name c.len-count.result c.args.before.now c.in-Some.section (sym c.in-Some.is ∙ c.section_within.ensures) c.requires c.if-not-has_room.ensures in
    omega (arith, few)

pub returns-then-behind : goal.returns-then-behind
returns-then-behind c =
    let more : c.in-Some.section + 1 ≡ suc c.in-Some.section = omega arith in
    ap (λ n. Some n) more
    ∙ sym (ap (λ b. Some (if◌then◌else◌ {A = ℕ} b (suc c.in-Some.section) c.in-Some.section)) c.if-behind.true)
    ∙ follows_last c.args.before.now c.args.behind c.args.clause.now c.len-count.result c.in-Some.section c.if-not-has_room.ensures (omega (arith, c.len-count.ensures, c.args.clause.now.patterns.ok.0)) (sym c.in-Some.is ∙ c.section_within.ensures)

pub returns-else-behind : goal.returns-else-behind
returns-else-behind c =
    sym (ap (λ b. Some (if◌then◌else◌ {A = ℕ} b (suc c.in-Some.section) c.in-Some.section)) c.if-behind.false)
    ∙ follows_last c.args.before.now c.args.behind c.args.clause.now c.len-count.result c.in-Some.section c.if-not-has_room.ensures (omega (arith, c.len-count.ensures, c.args.clause.now.patterns.ok.0)) (sym c.in-Some.is ∙ c.section_within.ensures)

pub returns-then-behind-2 : goal.returns-then-behind-2
returns-then-behind-2 c =
    sym (ap (λ b. if◌then◌else◌ {A = Option ℕ} (not b && not (holds c.args.clause.now.name c.len-count.result c.args.before.now)) (Some 0) None) c.if-behind-2.true)
    ∙ follows_others c.args.before.now c.args.behind c.args.clause.now c.len-count.result c.if-not-has_room.ensures (omega (arith, c.len-count.ensures, c.args.clause.now.patterns.ok.0)) (sym c.in-None.is ∙ c.section_within.ensures)

pub returns-then-holds : goal.returns-then-holds
returns-then-holds c =
    sym (ap (λ b. if◌then◌else◌ {A = Option ℕ} (not b && not true) (Some 0) None) c.if-behind-2.false)
    ∙ ap (λ h. if◌then◌else◌ {A = Option ℕ} (not c.args.behind && not h) (Some 0) None) (sym c.if-holds.true ∙ c.holds.ensures)
    ∙ follows_others c.args.before.now c.args.behind c.args.clause.now c.len-count.result c.if-not-has_room.ensures (omega (arith, c.len-count.ensures, c.args.clause.now.patterns.ok.0)) (sym c.in-None.is ∙ c.section_within.ensures)

pub returns-else-holds : goal.returns-else-holds
returns-else-holds c =
    sym (ap (λ b. if◌then◌else◌ {A = Option ℕ} (not b && not false) (Some 0) None) c.if-behind-2.false)
    ∙ ap (λ h. if◌then◌else◌ {A = Option ℕ} (not c.args.behind && not h) (Some 0) None) (sym c.if-holds.false ∙ c.holds.ensures)
    ∙ follows_others c.args.before.now c.args.behind c.args.clause.now c.len-count.result c.if-not-has_room.ensures (omega (arith, c.len-count.ensures, c.args.clause.now.patterns.ok.0)) (sym c.in-None.is ∙ c.section_within.ensures)
