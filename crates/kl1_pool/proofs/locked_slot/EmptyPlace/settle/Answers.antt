use Rattle.std.proofs.Common.{[], ◌∙◌, ap, sym, subst}
use Rattle.kl1_model.specs.declared.rules.Rules.{Rules}
use Rattle.kl1_model_server.specs.laws.TextLaws.{AreNames as MayBeNames}
use Rattle.kl1_pool.specs.Parts.{HasRoomFor}
use Rattle.kl1_tally.specs.Seats.{Book}
use Rattle.kl1_journal.specs.Keeping.{Held}
use Rattle.kl1_pool.proofs.Calling.{called_there}
use Rattle.kl1_pool.proofs.Seating.{some_is}
use Rattle.kl1_pool.proofs.locked_slot.EmptyPlace.settle.Goals as goal

pub with_names-requires-clause-of : goal.with_names-requires-clause-of
with_names-requires-clause-of g c = (some_is _ _ _ c.in-Some.is c.self.invariant.1).1.0

pub with_names-requires-clause-nothing : goal.with_names-requires-clause-nothing
with_names-requires-clause-nothing g c = (some_is _ _ _ c.in-Some.is c.self.invariant.1).1.1

pub with_names-requires-clause-names : goal.with_names-requires-clause-names
with_names-requires-clause-names g c = subst (λ (of : Rules). MayBeNames of c.args.texts.now) (sym (some_is _ _ _ c.in-Some.is c.self.invariant.1).0) c.requires.texts

pub with_names-requires-clause-room : goal.with_names-requires-clause-room
with_names-requires-clause-room g c =
    let is = some_is _ _ _ c.in-Some.is c.self.invariant.1 in
    subst (λ (of : Rules). HasRoomFor of c.in-Some.field-0.seat) (sym is.0) is.1.0.1

pub new-requires-clause-entries : goal.new-requires-clause-entries
new-requires-clause-entries g c = ap (λ k. k.journal.entries) (c.in-Ok.ensures.fresh (λ n. []))

pub new-requires-clause-book : goal.new-requires-clause-book
new-requires-clause-book g c = (some_is _ _ _ c.in-Some.is c.self.invariant.1).2

pub new-requires-clause-rules : goal.new-requires-clause-rules
new-requires-clause-rules g c = ap (λ k. k.state.rules) (c.in-Ok.ensures.fresh (λ n. [])) ∙ (some_is _ _ _ c.in-Some.is c.self.invariant.1).0

pub new-requires-clause-name : goal.new-requires-clause-name
new-requires-clause-name g c = record {
  is = ap (λ k. k.state.own_name) (c.in-Ok.ensures.fresh (λ n. []));
  listed = called_there g.K.Names.names c.args.self c.self.inside.book.account c.args.name (sym c.self.view_is) c.requires.name;
}

pub new-requires-clause-shown : goal.new-requires-clause-shown
new-requires-clause-shown g c =
    let is = some_is _ _ _ c.in-Some.is c.self.invariant.1 in
    (is.3, is.4)

pub returns-in-Ok-clause-used : goal.returns-in-Ok-clause-used
returns-in-Ok-clause-used g c = ap (λ (h : Held). h.1.names) c.new.ensures.held ∙ ap (λ k. k.journal.names) (c.in-Ok.ensures.fresh (λ n. []))

pub returns-in-Ok-clause-account : goal.returns-in-Ok-clause-account
returns-in-Ok-clause-account g c = ap (λ (b : Book). b.account) c.new.ensures.book ∙ c.self.view_is

pub returns-in-Ok-clause-name : goal.returns-in-Ok-clause-name
returns-in-Ok-clause-name g c = ap (λ (h : Held). h.0.own_name) c.new.ensures.held ∙ ap (λ k. k.state.own_name) (c.in-Ok.ensures.fresh (λ n. []))

pub returns-in-Ok-clause-fresh : goal.returns-in-Ok-clause-fresh
returns-in-Ok-clause-fresh g c = (ap (λ (h : Held). h.1.entries) c.new.ensures.held ∙ ap (λ k. k.journal.entries) (c.in-Ok.ensures.fresh (λ n. [])), c.new.ensures.out)
