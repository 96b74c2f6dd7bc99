use Rattle.std.proofs.Common.{[], sym, ap, ◌∙◌}
use Rattle.std.proofs.lemmas.Option.{get_or_from_slice_get}
use Rattle.std.proofs.lemmas.Slice.Eq.{bytes_eq-Decides}
use Rattle.kl1_clause.specs.NameList.{with_text}
use Rattle.kl1_clause.proofs.NameLists.{is_language, is_put}
use Rattle.kl1_clause.proofs.names.Names.placed.Goals as goal

pub returns-in-Some-clause-names : goal.returns-in-Some-clause-names
returns-in-Some-clause-names c = sym (is_language c.args.self.now c.args.text.now c.in-Some.built_in (sym c.in-Some.ensures)).0

pub returns-in-Some-clause-text : goal.returns-in-Some-clause-text
returns-in-Some-clause-text c = (is_language c.args.self.now c.args.text.now c.in-Some.built_in (sym c.in-Some.ensures)).1

pub invariant_of-self-2 : goal.invariant_of-self-2
invariant_of-self-2 c = (is_put c.self.inside.texts.keys c.insert_full.new.self.keys c.args.text.now (sym c.in_default.ensures) c.self.invariant c.in_ok-place.ensures.keys).list

pub returns-clause-names : goal.returns-clause-names
returns-clause-names c =
    (is_put c.self.inside.texts.keys c.insert_full.new.self.keys c.args.text.now (sym c.in_default.ensures) c.self.invariant c.in_ok-place.ensures.keys).with
    ∙ ap (λ names. with_text names c.args.text.now) c.self.view_is

pub returns-clause-text : goal.returns-clause-text
returns-clause-text c =
    let stored = c.in_ok-place.ensures.stored in
    get_or_from_slice_get c.insert_full.new.self.keys c.in_ok-place.place stored.0 [] stored.1 ∙ sym ((bytes_eq-Decides c.args.text.now stored.0).0 stored.2)
