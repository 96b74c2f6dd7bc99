use Rattle.std.proofs.Common.{◌++◌, ap, ◌∙◌}
use Rattle.std.proofs.lemmas.Result.{IfOk-weaker}
use Rattle.kl1_store.specs.declared.cell.Cell.TheVariants.{Structure}
use Rattle.kl1_store.specs.Sameness.{AlikeAs}
use Rattle.kl1_store.proofs.Recalling.{alike_after, alike_walked}
use Rattle.kl1_store.proofs.remembering.compare_once.Goals as goal

pub returns-in-Structure-second-clause-alike : goal.returns-in-Structure-second-clause-alike
returns-in-Structure-second-clause-alike g c =
    let built = g.N.NameValue.built in
    let h = c.args.cells.now.held in
    let x = Structure c.in-Structure.structure in
    let y = Structure c.in-Structure-second.other in
    let before = c.args.waits.now.items in
    let after = c.compare_structures.new.waits.items in
    IfOk-weaker c.compare_structures.result (AlikeAs built h x y before after) (AlikeAs built h c.args.left c.args.right before after)
    (λ b a. alike_walked built h x y c.args.left c.args.right before after b c.in-Structure.ensures.means c.in-Structure-second.ensures.means a) c.compare_structures.ensures.alike

pub returns-clause-alike : goal.returns-clause-alike
returns-clause-alike g c =
    let before = c.args.waits.now.items in
    let after = c.extend_from_slice.new.self.items in
    alike_after g.N.NameValue.built c.args.cells.now.held c.args.left c.args.right c.compare_alone.new.found.items before after c.in_ok-alike.alike c.in_ok-alike.ensures (c.in_ok-extend_from_slice.ensures.items ∙ ap (λ l. before ++ l) c.as_slice.ensures.value)
