use Rattle.std.proofs.Common.{sym, ap, ◌∙◌, arith}
use Rattle.std.specs.Prelude.{nat_lt}
use Rattle.std.proofs.lemmas.Bool.{false≢true}
use Rattle.kl1_store.specs.declared.mark.Mark.{Mark}
use Rattle.kl1_store.proofs.Walking.{found_itself}
use Rattle.kl1_store.proofs.Occurrences.{other_free, beyond, bound_by, seen_is}
use Rattle.kl1_store.proofs.occurring.is_seen.Goals as goal

pub returns-then-number-held : goal.returns-then-number-held
returns-then-number-held g c = λ f.
    let h = c.args.cells.now.held in
    let all = ap (λ (m : Mark). m.variables) c.mark-held.ensures.sizes in
    other_free f h c.args.number c.args.cell c.mark-held.ensures.formed (beyond h c.args.number (omega (arith, all, c.if-number-held.true))) c.requires.inside

pub returns-then-not-is_variable : goal.returns-then-not-is_variable
returns-then-not-is_variable g c = λ f.
    let h = c.args.cells.now.held in
    other_free f h c.args.number c.args.cell c.mark-held.ensures.formed
    (bound_by h c.args.number (λ e. false≢true (sym c.if-not-is_variable.true ∙ c.is_variable.ensures.1 (c.slot.ensures.found ∙ e)))) c.requires.inside

pub returns : goal.returns
returns g c = λ f.
    let h = c.args.cells.now.held in
    let formed = c.mark-held.ensures.formed in
    let itself = found_itself h c.args.number formed (sym c.slot.ensures.found ∙ c.is_variable.ensures.0 c.if-not-is_variable.false) in
    ap (nat_lt 0) c.level_of.ensures ∙ seen_is f h c.args.levels.now c.args.cell c.args.number formed c.requires.levels c.requires.sees c.requires.inside itself
