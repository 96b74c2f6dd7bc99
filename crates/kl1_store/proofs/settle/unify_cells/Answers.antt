use Rattle.std.proofs.Common.{◌≡◌, Bool, [], ◌∷◌, ◌++◌, ap, ◌∙◌}
use Rattle.std.proofs.lemmas.Result.{IfOk-weaker}
use Rattle.kl1_store.specs.Waiting.{waiting}
use Rattle.kl1_store.specs.Unifies.{BindsAs, SettlesAs, equation_of}
use Rattle.kl1_store.proofs.Settling.{OneEquation, one_same, one_clash, one_taken, grown_taken, settled_at}
use Rattle.kl1_store.proofs.settle.unify_cells.Goals as goal

pub returns-in-Same-clause-settled : goal.returns-in-Same-clause-settled
returns-in-Same-clause-settled g c =
    let one : OneEquation c.args.cells.now.held c.args.left c.args.right c.walk-first.result c.walk-second.result = record { formed = c.requires.formed; left_in = c.walk-first.ensures.inside; right_in = c.walk-second.ensures.inside; left_means = c.walk-first.ensures.means; right_means = c.walk-second.ensures.means } in
    one_same g.N.NameValue.built c.args.cells.now.held c.args.left c.args.right c.walk-first.result c.walk-second.result one c.in-Same.ensures

pub returns-in-Clash-clause-settled : goal.returns-in-Clash-clause-settled
returns-in-Clash-clause-settled g c =
    let one : OneEquation c.args.cells.now.held c.args.left c.args.right c.walk-first.result c.walk-second.result = record { formed = c.requires.formed; left_in = c.walk-first.ensures.inside; right_in = c.walk-second.ensures.inside; left_means = c.walk-first.ensures.means; right_means = c.walk-second.ensures.means } in
    one_clash g.N.NameValue.built c.args.cells.now.held c.args.left c.args.right c.walk-first.result c.walk-second.result one c.in-Clash.ensures

pub returns-in-Bind-clause-settled : goal.returns-in-Bind-clause-settled
returns-in-Bind-clause-settled g c =
    let one : OneEquation c.args.cells.now.held c.args.left c.args.right c.walk-first.result c.walk-second.result = record { formed = c.requires.formed; left_in = c.walk-first.ensures.inside; right_in = c.walk-second.ensures.inside; left_means = c.walk-first.ensures.means; right_means = c.walk-second.ensures.means } in
    let old = c.args.cells.now.held in
    let new = c.bind_new.new.cells.held in
    let P : Bool → Type 0 = λ b. BindsAs old new c.in-Bind.variable c.in-Bind.value b in
    let Q : Bool → Type 0 = λ b. SettlesAs g.N.NameValue.built old new (λ f. equation_of f old c.args.left c.args.right) b in
    IfOk-weaker c.bind_new.result P Q (λ b p. one_taken g.N.NameValue.built old new c.args.left c.args.right c.walk-first.result c.walk-second.result c.in-Bind.variable c.in-Bind.value b one c.in-Bind.ensures p) c.bind_new.ensures.ok

pub returns-in-Bind-clause-grown : goal.returns-in-Bind-clause-grown
returns-in-Bind-clause-grown g c = grown_taken c.args.cells.now.held c.bind_new.new.cells.held c.in-Bind.variable c.in-Bind.value c.bind_new.result c.bind_new.ensures.ok c.bind_new.ensures.err

pub returns-in_ok-push-in-Open-clause-settled : goal.returns-in_ok-push-in-Open-clause-settled
returns-in_ok-push-in-Open-clause-settled g c =
    let one : OneEquation c.args.cells.now.held c.args.left c.args.right c.walk-first.result c.walk-second.result = record { formed = c.requires.formed; left_in = c.walk-first.ensures.inside; right_in = c.walk-second.ensures.inside; left_means = c.walk-first.ensures.means; right_means = c.walk-second.ensures.means } in
    let e : c.push.new.self.items ≡ c.in-Open.frame ∷ [] = c.in_ok-push-in-Open.ensures.items ∙ ap (λ l. l ++ c.in-Open.frame ∷ []) c.clear.ensures.items in
    let old = c.args.cells.now.held in
    let new = c.settle.new.cells.held in
    let P : Bool → Type 0 = λ b. SettlesAs g.N.NameValue.built old new (λ f. waiting f old [] c.push.new.self.items) b in
    let Q : Bool → Type 0 = λ b. SettlesAs g.N.NameValue.built old new (λ f. equation_of f old c.args.left c.args.right) b in
    IfOk-weaker c.settle.result P Q (λ b p. settled_at g.N.NameValue.built old new c.args.left c.args.right c.walk-first.result c.walk-second.result c.in-Open.frame c.push.new.self.items b one c.in-Open.ensures e p) c.settle.ensures.settled
