use Rattle.std.proofs.Common.{◌≡◌, Bool, true, ◌∷◌, ◌++◌, sym, subst}
use Rattle.std.proofs.lemmas.Result.{IfOk-weaker}
use Rattle.std.specs.Prelude.{[]}
use Rattle.kl1_store.specs.Compares.{ComparesAs}
use Rattle.kl1_store.specs.Unbound.{AreUnbound}
use Rattle.kl1_store.proofs.Comparing.{looked_same, looked_two, looked_one_variable, looked_left, looked_right, looked_clash, looked_open}
use Rattle.kl1_store.proofs.Unbinding.{one_pushed}
use Rattle.kl1_store.proofs.compare.compare_sides.Goals as goal

pub returns-in-Some-variable-clause-compares : goal.returns-in-Some-variable-clause-compares
returns-in-Some-variable-clause-compares g c =
    let one = c.push.new.self.items in
    let two = c.wait_for.new.waits.items in
    let As : Bool → Type 0 = λ b. ComparesAs g.N.NameValue.built c.args.cells.now.held c.args.left c.args.right c.args.frames.now.items c.args.frames.now.items c.args.waits.now.items two b in
    let Waits : Bool → Type 0 = λ b. (b ≡ true) × (two ≡ one ++ c.in-Some-variable.other ∷ []) in
    IfOk-weaker c.wait_for.result Waits As (λ b w. subst As (sym w.0) (
    looked_two g.N.NameValue.built c.args.cells.now.held c.args.left c.args.right c.in-Some.variable c.in-Some-variable.other c.args.frames.now.items c.args.waits.now.items one two
    c.requires.pairs c.in-Some.ensures c.in-Some-variable.ensures c.requires.left_walked c.requires.right_walked c.if-variable-other.false c.in_ok-push-in-Some-variable.ensures.items w.1)) c.wait_for.ensures

pub returns-then-variable-other-clause-compares : goal.returns-then-variable-other-clause-compares
returns-then-variable-other-clause-compares g c =
    looked_one_variable g.N.NameValue.built c.args.cells.now.held c.args.left c.args.right c.in-Some.variable c.in-Some-variable.other c.args.frames.now.items c.args.waits.now.items c.requires.pairs c.in-Some.ensures c.in-Some-variable.ensures c.if-variable-other.true

pub returns-in-None-clause-compares : goal.returns-in-None-clause-compares
returns-in-None-clause-compares g c =
    let two = c.wait_for-in-None.new.waits.items in
    let As : Bool → Type 0 = λ b. ComparesAs g.N.NameValue.built c.args.cells.now.held c.args.left c.args.right c.args.frames.now.items c.args.frames.now.items c.args.waits.now.items two b in
    let Waits : Bool → Type 0 = λ b. (b ≡ true) × (two ≡ c.args.waits.now.items ++ c.in-Some.variable ∷ []) in
    IfOk-weaker c.wait_for-in-None.result Waits As (λ b w. subst As (sym w.0) (
    looked_left g.N.NameValue.built c.args.cells.now.held c.args.left c.args.right c.in-Some.variable c.args.frames.now.items c.args.waits.now.items two c.requires.formed c.requires.pairs c.in-Some.ensures c.requires.left_walked c.requires.right_in c.in-None.ensures w.1)) c.wait_for-in-None.ensures

pub returns-in-Some-variable-2-clause-compares : goal.returns-in-Some-variable-2-clause-compares
returns-in-Some-variable-2-clause-compares g c =
    let two = c.wait_for-in-Some-variable-2.new.waits.items in
    let As : Bool → Type 0 = λ b. ComparesAs g.N.NameValue.built c.args.cells.now.held c.args.left c.args.right c.args.frames.now.items c.args.frames.now.items c.args.waits.now.items two b in
    let Waits : Bool → Type 0 = λ b. (b ≡ true) × (two ≡ c.args.waits.now.items ++ c.in-Some-variable-2.variable ∷ []) in
    IfOk-weaker c.wait_for-in-Some-variable-2.result Waits As (λ b w. subst As (sym w.0) (
    looked_right g.N.NameValue.built c.args.cells.now.held c.args.left c.args.right c.in-Some-variable-2.variable c.args.frames.now.items c.args.waits.now.items two c.requires.formed c.requires.pairs c.in-Some-variable-2.ensures c.requires.right_walked c.requires.left_in c.in_default.ensures w.1)) c.wait_for-in-Some-variable-2.ensures

pub returns-in-Same-clause-compares : goal.returns-in-Same-clause-compares
returns-in-Same-clause-compares g c = looked_same g.N.NameValue.built c.args.cells.now.held c.args.left c.args.right c.args.frames.now.items c.args.waits.now.items c.requires.pairs c.in-Same.ensures

pub returns-in-Clash-clause-compares : goal.returns-in-Clash-clause-compares
returns-in-Clash-clause-compares g c = looked_clash g.N.NameValue.built c.args.cells.now.held c.args.left c.args.right c.requires.formed c.requires.left_in c.requires.right_in c.in_default.ensures c.in_default-variable.ensures c.in-Clash.ensures

pub returns-in_ok-push-in-Open-clause-compares : goal.returns-in_ok-push-in-Open-clause-compares
returns-in_ok-push-in-Open-clause-compares g c =
    looked_open g.N.NameValue.built c.args.cells.now.held c.args.left c.args.right c.in-Open.frame c.args.frames.now.items c.push-in-Open.new.self.items c.args.waits.now.items c.requires.formed c.requires.pairs c.in-Open.ensures c.in_ok-push-in-Open.ensures.items

pub returns-in-Some-variable-clause-unbound : goal.returns-in-Some-variable-clause-unbound
returns-in-Some-variable-clause-unbound g c =
    let h = c.args.cells.now.held in
    let zero = c.args.waits.now.items in
    let one = c.push.new.self.items in
    let two = c.wait_for.new.waits.items in
    let Waits : Bool → Type 0 = λ b. (b ≡ true) × (two ≡ one ++ c.in-Some-variable.other ∷ []) in
    IfOk-weaker c.wait_for.result Waits (λ b. AreUnbound h zero → AreUnbound h two) (λ b w unbound.
    one_pushed h c.args.right c.in-Some-variable.other one two c.in-Some-variable.ensures c.requires.right_in c.requires.right_walked w.1
    (one_pushed h c.args.left c.in-Some.variable zero one c.in-Some.ensures c.requires.left_in c.requires.left_walked c.in_ok-push-in-Some-variable.ensures.items unbound)) c.wait_for.ensures

pub returns-in-None-clause-unbound : goal.returns-in-None-clause-unbound
returns-in-None-clause-unbound g c =
    let h = c.args.cells.now.held in
    let two = c.wait_for-in-None.new.waits.items in
    let Waits : Bool → Type 0 = λ b. (b ≡ true) × (two ≡ c.args.waits.now.items ++ c.in-Some.variable ∷ []) in
    IfOk-weaker c.wait_for-in-None.result Waits (λ b. AreUnbound h c.args.waits.now.items → AreUnbound h two) (λ b w unbound.
    one_pushed h c.args.left c.in-Some.variable c.args.waits.now.items two c.in-Some.ensures c.requires.left_in c.requires.left_walked w.1 unbound) c.wait_for-in-None.ensures

pub returns-in-Some-variable-2-clause-unbound : goal.returns-in-Some-variable-2-clause-unbound
returns-in-Some-variable-2-clause-unbound g c =
    let h = c.args.cells.now.held in
    let two = c.wait_for-in-Some-variable-2.new.waits.items in
    let Waits : Bool → Type 0 = λ b. (b ≡ true) × (two ≡ c.args.waits.now.items ++ c.in-Some-variable-2.variable ∷ []) in
    IfOk-weaker c.wait_for-in-Some-variable-2.result Waits (λ b. AreUnbound h c.args.waits.now.items → AreUnbound h two) (λ b w unbound.
    one_pushed h c.args.right c.in-Some-variable-2.variable c.args.waits.now.items two c.in-Some-variable-2.ensures c.requires.right_in c.requires.right_walked w.1 unbound) c.wait_for-in-Some-variable-2.ensures
