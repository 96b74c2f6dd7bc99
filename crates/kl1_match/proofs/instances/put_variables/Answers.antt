use Rattle.std.proofs.Common.{rules, ◌≡◌, ◌+◌, ◌<◌, ℕ, length, subst, slice_index_or}
use Rattle.std.proofs.lemmas.Result.{on_ok_weaker}
use Rattle.kl1_store.specs.declared.cell.Cell.{Cell}
use Rattle.kl1_store.specs.declared.cell.Cell.TheVariants.{Atom}
use Rattle.kl1_match.specs.Variables.{cell_at}
use Rattle.kl1_match.proofs.Places.{variables_are}
use Rattle.kl1_match.proofs.instances.put_variables.Goals as goal

pub returns-clause-variables : goal.returns-clause-variables
returns-clause-variables g c =
    let count : c.in_ok-count.count ≡ c.args.clause.now.head_variables + 1 = search rules in
    let first = c.put_places.new.cells.items in
    let many : length first ≡ c.args.clause.now.head_variables + 1 = subst (λ n. length first ≡ n) count c.in_ok-put_places.ensures.length in
    let set : (v : ℕ) (d : Cell g.row.N.Denot) → v < c.args.clause.now.head_variables + 1 → slice_index_or first v d ≡ cell_at c.args.places.now v (Atom c.of.result) =
    subst (λ (n : ℕ). (v : ℕ) (d : Cell g.row.N.Denot) → v < n → slice_index_or first v d ≡ cell_at c.args.places.now v (Atom c.of.result)) count c.in_ok-put_places.ensures.set in
    on_ok_weaker c.put_fresh.result (λ e. variables_are g.N.NameValue.built c.args.clause.now.head_variables c.args.clause.now.fresh_variables c.args.places.now c.args.store.now.held c.put_fresh.new.store.held
    (Atom c.of.result) first c.put_fresh.new.cells.items
    c.mark.ensures.formed c.requires.some c.requires.places (search rules) many set e.0 e.1) c.put_fresh.ensures.put
