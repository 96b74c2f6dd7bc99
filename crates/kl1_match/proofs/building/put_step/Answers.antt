use mir.Val.{SFits}
use mir.Syntax.{w64}
use Rattle.std.proofs.lemmas.Int.{to_z-of_z}
use Rattle.std.proofs.Common.{ℤ, rules, [], ◌∷◌, ◌++◌, ◌≡◌, ◌<◌, length, ◌∙◌, subst, sym, slice_index_or}
use Rattle.std.proofs.lemmas.Result.{on_ok_weaker}
use Rattle.kl1_store.specs.declared.cell.Cell.TheVariants as cell
use Rattle.kl1_match.specs.Steps.{IsBelow, PutsStep}
use Rattle.kl1_match.specs.Rooms.{step_structures, step_arguments, HasRoomFor, UsesRoom}
use Rattle.kl1_match.proofs.Rooms.{puts_one}
use Rattle.kl1_match.proofs.Steps.{any_default, puts_variable, puts_integer, puts_atom, puts_structure}
use Rattle.kl1_match.proofs.building.put_step.Goals as goal

pub returns-in-Variable-clause-puts : goal.returns-in-Variable-clause-puts
returns-in-Variable-clause-puts g c =
    let h = c.args.store.now.held in
    let below : c.in-Variable.number < length c.args.variables.now = subst (λ s. IsBelow (length c.args.variables.now) s) c.in-Variable.is c.requires.below in
    let is : c.index-variables-number.result ≡ slice_index_or c.args.variables.now c.in-Variable.number (cell.Variable 0) = c.index-variables-number.is ∙ any_default c.args.variables.now c.in-Variable.number c.index-variables-number.result (cell.Variable 0) below in
    subst (λ s. PutsStep h h c.args.variables.now s c.args.stack.now.items c.push_reserved.new.self.items) (sym c.in-Variable.is)
    (puts_variable h c.args.variables.now c.args.stack.now.items c.push_reserved.new.self.items c.in-Variable.number c.index-variables-number.result c.requires.variables c.requires.stack below is c.push_reserved.ensures.items)

pub returns-in-Integer-clause-puts : goal.returns-in-Integer-clause-puts
returns-in-Integer-clause-puts g c =
    let h = c.args.store.now.held in
    let fits : SFits w64 c.in-Integer.number = search rules in
    let P : ℤ → Type 0 = λ i. c.push_reserved-in-Integer.new.self.items ≡ c.args.stack.now.items ++ cell.Integer i ∷ [] in
    subst (λ s. PutsStep h h c.args.variables.now s c.args.stack.now.items c.push_reserved-in-Integer.new.self.items) (sym c.in-Integer.is)
    (puts_integer h c.args.variables.now c.args.stack.now.items c.push_reserved-in-Integer.new.self.items c.in-Integer.number c.requires.stack (subst P (to_z-of_z w64 c.in-Integer.number fits) c.push_reserved-in-Integer.ensures.items))

pub returns-in-Atom-clause-puts : goal.returns-in-Atom-clause-puts
returns-in-Atom-clause-puts g c =
    let h = c.args.store.now.held in
    subst (λ s. PutsStep h h c.args.variables.now s c.args.stack.now.items c.push_reserved-in-Atom.new.self.items) (sym c.in-Atom.is)
    (puts_atom h c.args.variables.now c.args.stack.now.items c.push_reserved-in-Atom.new.self.items c.in-Atom.name c.requires.stack c.push_reserved-in-Atom.ensures.items)

pub returns-in-Structure-clause-puts : goal.returns-in-Structure-clause-puts
returns-in-Structure-clause-puts g c =
    let some = subst (λ s. IsBelow (length c.args.variables.now) s) c.in-Structure.is c.requires.below in
    on_ok_weaker c.join_top.result (λ e.
    subst (λ s. PutsStep c.args.store.now.held c.join_top.new.store.held c.args.variables.now s c.args.stack.now.items c.join_top.new.stack.items) (sym c.in-Structure.is)
    (puts_structure c.args.store.now.held c.join_top.new.store.held c.args.variables.now c.args.stack.now.items c.join_top.new.stack.items c.index-variables-0.result c.in-Structure.name c.in-Structure.count some (c.index-variables-0.is ∙ any_default c.args.variables.now 0 c.index-variables-0.result (cell.Variable 0) some) e.0 e.1)) c.join_top.ensures.joins

pub returns-in-Variable-clause-uses : goal.returns-in-Variable-clause-uses
returns-in-Variable-clause-uses g c =
    puts_one (step_structures c.args.step) (step_arguments c.args.step) c.args.store.now.room c.args.stack.now c.push_reserved.new.self _ c.push_reserved.ensures.items c.push_reserved.ensures.capacity

pub returns-in-Integer-clause-uses : goal.returns-in-Integer-clause-uses
returns-in-Integer-clause-uses g c =
    puts_one (step_structures c.args.step) (step_arguments c.args.step) c.args.store.now.room c.args.stack.now c.push_reserved-in-Integer.new.self _ c.push_reserved-in-Integer.ensures.items c.push_reserved-in-Integer.ensures.capacity

pub returns-in-Atom-clause-uses : goal.returns-in-Atom-clause-uses
returns-in-Atom-clause-uses g c =
    puts_one (step_structures c.args.step) (step_arguments c.args.step) c.args.store.now.room c.args.stack.now c.push_reserved-in-Atom.new.self _ c.push_reserved-in-Atom.ensures.items c.push_reserved-in-Atom.ensures.capacity

pub returns-in-Structure-clause-room : goal.returns-in-Structure-clause-room
returns-in-Structure-clause-room g c h =
    c.join_top.ensures.room (subst (λ s. HasRoomFor (step_structures s) (step_arguments s) c.args.store.now.room) c.in-Structure.is h)

pub returns-in-Structure-clause-uses : goal.returns-in-Structure-clause-uses
returns-in-Structure-clause-uses g c =
    on_ok_weaker c.join_top.result (λ u.
    subst (λ s. UsesRoom (step_structures s) (step_arguments s) c.args.store.now.room c.join_top.new.store.room c.args.stack.now c.join_top.new.stack) (sym c.in-Structure.is) u) c.join_top.ensures.uses
