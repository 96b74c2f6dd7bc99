use Rattle.std.proofs.Common.{◌≡◌, ◌++◌, ℕ, List, map, subst}
use Rattle.std.specs.Prelude.{OnOk}
use Rattle.kl1_model.specs.Term.{occurs}
use Rattle.kl1_store.specs.Meaning.{term_of}
use Rattle.kl1_store.specs.Hooks.{Kept}
use Rattle.kl1_store.proofs.store.Store.note_occurring.Goals as goal

pub returns-clause-found : goal.returns-clause-found
returns-clause-found g c =
    let P : Kept g.row.N.Denot → Type 0 = λ k. OnOk c.note_occurring.result ((f : g.row.N.Denot → List ℕ) → c.note_occurring.new.found.items ≡ c.args.found.now.items ++ map (λ n. occurs n (term_of f k.held c.args.cell)) c.args.numbers.now) in
    subst P c.self.view_is c.note_occurring.ensures.found
