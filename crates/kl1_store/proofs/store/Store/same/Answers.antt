use Rattle.std.proofs.Common.{◌≡◌, ℕ, ◌<◌, Bool, List, [], length, sym, ◌∙◌, arith, subst}
use Rattle.std.proofs.lemmas.List.{nil_from_length}
use Rattle.std.proofs.lemmas.Bool.{eqb-true, eqb-false}
use Rattle.kl1_store.specs.declared.same.Same.TheVariants.{Yes, No, Wait}
use Rattle.kl1_store.specs.Hooks.{Kept}
use Rattle.kl1_store.specs.ComparesEach.{ComparedEachAs}
use Rattle.kl1_store.specs.Sameness.{SameAs}
use Rattle.kl1_store.specs.Unbound.{AreUnbound}
use Rattle.kl1_store.proofs.Answering.{answers_yes, answers_no, answers_wait}
use Rattle.kl1_store.proofs.store.Store.same.Goals as goal

pub returns-then-not-branch-clause-ok : goal.returns-then-not-branch-clause-ok
returns-then-not-branch-clause-ok g c =
    let old = c.self.inside.cells.held in
    let P : Bool → Type 0 = λ b. ComparedEachAs g.N.NameValue.built old c.args.terms.now c.new-waits.result.items c.compare_each.new.waits.items b in
    let Q : Kept g.row.N.Denot → Type 0 = λ s. SameAs g.N.NameValue.built s.held c.args.terms.now No in
    subst Q c.self.view_is (λ f reads. answers_no f old c.args.terms.now ((subst P c.if-not-branch.true c.in_ok-compare_each.ensures.compared) f reads))

pub returns-then-is_empty-clause-ok : goal.returns-then-is_empty-clause-ok
returns-then-is_empty-clause-ok g c =
    let old = c.self.inside.cells.held in
    let P : Bool → Type 0 = λ b. ComparedEachAs g.N.NameValue.built old c.args.terms.now c.new-waits.result.items c.compare_each.new.waits.items b in
    let w = c.compare_each.new.waits in
    let empty : w.items ≡ [] = nil_from_length w.items (omega (arith, w.ok.0, eqb-true w.len 0 (sym c.is_empty.ensures ∙ c.if-is_empty.true))) in
    let Q : Kept g.row.N.Denot → Type 0 = λ s. SameAs g.N.NameValue.built s.held c.args.terms.now Yes in
    subst Q c.self.view_is (λ f reads. answers_yes f old c.args.terms.now c.new-waits.result.items w.items c.new-waits.ensures.items empty ((subst P c.if-not-branch.false c.in_ok-compare_each.ensures.compared) f reads))

pub returns-clause-ok : goal.returns-clause-ok
returns-clause-ok g c =
    let old = c.self.inside.cells.held in
    let P : Bool → Type 0 = λ b. ComparedEachAs g.N.NameValue.built old c.args.terms.now c.new-waits.result.items c.compare_each.new.waits.items b in
    let w = c.compare_each.new.waits in
    let some : 0 < length w.items = let ne : w.len ≡ 0 → ⊥ = eqb-false w.len 0 (sym c.is_empty.ensures ∙ c.if-is_empty.false) in omega (arith, w.ok.0, ne) in
    let Q : Kept g.row.N.Denot → Type 0 = λ s. SameAs g.N.NameValue.built s.held c.args.terms.now (Wait w) in
    subst Q c.self.view_is (λ f reads. answers_wait f old c.args.terms.now c.new-waits.result.items w.items c.new-waits.ensures.items some ((subst P c.if-not-branch.false c.in_ok-compare_each.ensures.compared) f reads))

pub returns-clause-unbound : goal.returns-clause-unbound
returns-clause-unbound g c =
    let h = c.self.inside.cells.held in
    let U : List ℕ → Type 0 = λ l. AreUnbound h l in
    let Q : Kept g.row.N.Denot → Type 0 = λ s. AreUnbound s.held c.compare_each.new.waits.items in
    subst Q c.self.view_is (c.in_ok-compare_each.ensures.unbound (subst U (sym c.new-waits.ensures.items) tt))
