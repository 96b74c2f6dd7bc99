use Rattle.std.proofs.Common.{◌∙◌, sym, ap, take, subst}
use Rattle.kl1_store.specs.Held.{Held}
use Rattle.kl1_store.specs.Levels.{AreLevels}
use Rattle.kl1_store.proofs.Levelling.{levels-taken}
use Rattle.kl1_store.proofs.take_back.take_back.Goals as goal

pub returns-clause-levels : goal.returns-clause-levels
returns-clause-levels g c =
    let r = c.requires.mark in
    let P : Held g.row.N.Denot → Type 0 = λ h. AreLevels h c.keep.new.self in
    subst P (sym (c.back.ensures.held r.0 r.1.0 r.1.1.1))
    (levels-taken r.0 c.args.cells.now.held c.args.levels.now c.keep.new.self r.1.1.0 r.1.1.1 c.requires.levels
    (c.keep.ensures.variables ∙ ap (λ m. take m.variables c.args.levels.now.variables.items) r.1.0)
    (c.keep.ensures.structures ∙ ap (λ m. take m.structures c.args.levels.now.structures.items) r.1.0))
