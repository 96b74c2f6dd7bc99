use Rattle.std.proofs.Common.{rules, ◌≡◌, ◌+◌, ◌<◌, ◌∙◌, ℕ, List, ap, sym, length, subst, slice_index_or}
use Rattle.std.proofs.lemmas.Result.{on_ok_weaker}
use Rattle.kl1_store.specs.declared.cell.Cell.{Cell}
use Rattle.kl1_store.specs.declared.cell.Cell.TheVariants.{Atom}
use Rattle.kl1_match.specs.Variables.{cell_at}
use Rattle.kl1_match.specs.Kept.{places_behind}
use Rattle.kl1_match.proofs.Places.{variables_are}
use Rattle.kl1_match.proofs.instances.fill_variables.Goals as goal

pub returns-clause-variables : goal.returns-clause-variables
returns-clause-variables g c =
    let places = places_behind c.args.cells.now.items in
    let count : c.in_ok-count.count ≡ c.args.clause.now.head_variables + 1 = search rules in
    let first = c.reserve.new.self.items in
    let many : length first ≡ c.args.clause.now.head_variables + 1 = ap length c.reserve.ensures.items ∙ (c.in_ok-fill_places.ensures.length ∙ count) in
    let set : (v : ℕ) (d : Cell g.row.N.Denot) → v < c.args.clause.now.head_variables + 1 → slice_index_or first v d ≡ cell_at places v (Atom c.of.result) =
    subst (λ (n : ℕ). (v : ℕ) (d : Cell g.row.N.Denot) → v < n → slice_index_or first v d ≡ cell_at places v (Atom c.of.result)) count
    (subst (λ (xs : List (Cell g.row.N.Denot)). (v : ℕ) (d : Cell g.row.N.Denot) → v < c.in_ok-count.count → slice_index_or xs v d ≡ cell_at places v (Atom c.of.result)) (sym c.reserve.ensures.items) c.in_ok-fill_places.ensures.set) in
    on_ok_weaker c.put_fresh.result (λ e. variables_are g.N.NameValue.built c.args.clause.now.head_variables c.args.clause.now.fresh_variables places c.args.store.now.held c.put_fresh.new.store.held
    (Atom c.of.result) first c.put_fresh.new.cells.items
    c.mark.ensures.formed c.requires.some c.requires.places (search rules) many set e.0 e.1) c.put_fresh.ensures.put
