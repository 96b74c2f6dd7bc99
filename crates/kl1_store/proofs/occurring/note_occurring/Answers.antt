use Rattle.std.proofs.Common.{◌≡◌, ℕ, Bool, [], ◌∷◌, ◌++◌, map, get_or, refl, ap, ◌∙◌}
use Rattle.kl1_model.specs.Term.{occurs}
use Rattle.kl1_store.specs.Meaning.{term_of}
use Rattle.kl1_store.proofs.Occurrences.{notes_first, notes_all}
use Rattle.kl1_store.proofs.occurring.note_occurring.Goals as goal

pub loop-rest-init : goal.loop-rest-init
loop-rest-init g c = record { found = λ f. refl; levels = c.lift_alone.ensures.levels; sees = c.in_ok-lift_alone.ensures.sees }

pub loop-rest-preserved : goal.loop-rest-preserved
loop-rest-preserved g c = record {
  found = λ f.
      let in_term : ℕ → Bool = λ n. occurs n (term_of f c.args.cells.now.held c.args.cell) in
      let pushed : c.push.new.self.items ≡ c.loop-rest.found.items ++ in_term (get_or c.loop-rest.rest.now 0 0) ∷ [] = c.in_ok-push.ensures.items ∙ ap (λ (b : Bool). c.loop-rest.found.items ++ b ∷ []) (c.is_seen.ensures f) in
      notes_first in_term c.loop-rest.found.items c.push.new.self.items (c.args.found.now.items ++ map in_term c.args.numbers.now) c.loop-rest.rest.now c.in-len1-up.len_at_least pushed (c.loop-rest.invariant.found f);
  levels = c.loop-rest.invariant.levels;
  sees = c.loop-rest.invariant.sees;
}

pub returns-clause-found : goal.returns-clause-found
returns-clause-found g c = λ f.
    let in_term : ℕ → Bool = λ n. occurs n (term_of f c.args.cells.now.held c.args.cell) in
    notes_all in_term c.loop-rest.found.items (c.args.found.now.items ++ map in_term c.args.numbers.now) c.loop-rest.rest.now c.in_default.len_below (c.loop-rest.invariant.found f)
