use Rattle.std.proofs.Common.{List, ◌++◌, sym, ap, ◌∙◌, subst}
use Rattle.std.specs.List.{All}
use Rattle.std.proofs.lemmas.List.Elements.{All-push}
use Rattle.kl1_store.specs.declared.same_scratch.Remembered.{Remembered}
use Rattle.kl1_store.specs.Remembers.{IsRemembered}
use Rattle.kl1_store.proofs.Recalling.{recalled, not_recalled}
use Rattle.kl1_store.proofs.remembering.compare_structures.Goals as goal

pub returns-in_ok-push-clause-alike : goal.returns-in_ok-push-clause-alike
returns-in_ok-push-clause-alike g c =
    let h = c.args.cells.now.held in
    let found = c.in_ok-found.found in
    let slice = c.as_slice-2.result.now in
    recalled g.N.NameValue.built h found c.args.left c.args.right slice c.args.waits.now.items c.extend_from_slice.new.self.items c.in_ok-found.ensures.remembered c.in_ok-found.ensures.left c.in_ok-found.ensures.right c.as_slice-2.ensures.value
    (c.in_ok-extend_from_slice.ensures.items ∙ ap (λ l. l ++ slice) (not_recalled g.N.NameValue.built h c.args.left c.args.right c.args.waits.now.items c.recall.new.waits.items c.in_ok-alike.field-0 c.in_default.is c.in_ok-alike.ensures))

pub returns-else-len-lt-MOST-clause-alike : goal.returns-else-len-lt-MOST-clause-alike
returns-else-len-lt-MOST-clause-alike g c =
    let h = c.args.cells.now.held in
    let found = c.in_ok-found.found in
    let slice = c.as_slice-2.result.now in
    recalled g.N.NameValue.built h found c.args.left c.args.right slice c.args.waits.now.items c.extend_from_slice.new.self.items c.in_ok-found.ensures.remembered c.in_ok-found.ensures.left c.in_ok-found.ensures.right c.as_slice-2.ensures.value
    (c.in_ok-extend_from_slice.ensures.items ∙ ap (λ l. l ++ slice) (not_recalled g.N.NameValue.built h c.args.left c.args.right c.args.waits.now.items c.recall.new.waits.items c.in_ok-alike.field-0 c.in_default.is c.in_ok-alike.ensures))

pub returns-in_ok-push-clause-remembers : goal.returns-in_ok-push-clause-remembers
returns-in_ok-push-clause-remembers g c =
    let P : Remembered → Type 0 = λ r. IsRemembered g.N.NameValue.built c.args.cells.now.held r in
    let Q : List Remembered → Type 0 = λ l. All P l in
    subst Q (sym c.in_ok-push.ensures.items) (All-push P c.args.scratch.now.remembered.items c.in_ok-found.found c.requires.remembers c.in_ok-found.ensures.remembered)
