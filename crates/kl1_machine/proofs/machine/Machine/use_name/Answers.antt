use Rattle.kl1_machine.proofs.Words.{List, ℕ, Option, Machine, most_names, refl, sym, ap, ◌∙◌, Some, option_map, CellName, Variable, Atom, Raises, Unifies, Names, Does, Failure, Exhaustion}
use Rattle.kl1_machine.specs.declared.machine.naming.Named.TheVariants.{Becomes}
use Rattle.kl1_machine.proofs.Sincing.{named_machine}
use Rattle.kl1_machine.proofs.Naming.{Walks, used_as, unnamed, full_stands, known_stands, new_stands, variable_can}
use Rattle.kl1_machine.proofs.machine.Machine.use_name.Goals as goal

pub returns-in_default-clause-ok : goal.returns-in_default-clause-ok
returns-in_default-clause-ok c p places =
    let m = c.args.self.now in
    record {
      is = ap (λ (o : Option (List ℕ)). let z : Machine = record m { name = o } in z) (c.requires.none ∙ sym (unnamed (most_names m) c.args.made m.names.names c.args.trial.now.text c.in_default.not-Names));
      machine = c.requires.machine;
      nameless = c.in_default.not-Names;
      inside = λ j. j;
      by = λ k. k;
      made_by = λ ms k is. is;
      does = λ ms k key reads is f knows g t s. refl;
    }

pub of-text-requires : goal.of-text-requires
of-text-requires c = rw c.as_slice.ensures (c.requires.inside c.in-Names.target c.in-Names.is).0

pub walk-requires : goal.walk-requires
walk-requires c = (c.requires.inside c.in-Names.target c.in-Names.is).1

pub returns-then-not-has_room-clause-ok : goal.returns-then-not-has_room-clause-ok
returns-then-not-has_room-clause-ok c =
    let m = c.args.self.now in
    used_as (Names c.in-Names.target) c.args.made c.of-text.result c.args.trial.now.text m m (Does (Raises Exhaustion)) c.in-Names.is (c.of-text.ensures ∙ c.as_slice.ensures)
    (λ p places. full_stands p places c.of-text.result c.in-Names.target m c.requires.machine c.requires.none (sym (rw c.limits.ensures.value at c.has_room.ensures) ∙ c.if-not-has_room.true))

pub returns-in-Some-clause-ok : goal.returns-in-Some-clause-ok
returns-in-Some-clause-ok c =
    let m = c.args.self.now in
    used_as (Names c.in-Names.target) c.args.made c.of-text.result c.args.trial.now.text m m (Does (Unifies c.in-Names.target (Atom c.in-Some.name))) c.in-Names.is (c.of-text.ensures ∙ c.as_slice.ensures)
    (λ p places. known_stands p places c.of-text.result c.in-Names.target m c.requires.machine c.requires.none c.in-Some.name (sym (rw c.limits.ensures.value at c.has_room.ensures) ∙ c.if-not-has_room.false)
    (sym c.number_of.ensures ∙ ap (option_map (λ (a : CellName). a.number)) c.in-Some.is))

pub returns-in-Variable-clause-ok : goal.returns-in-Variable-clause-ok
returns-in-Variable-clause-ok c =
    let m = c.args.self.now in
    let h = m.store.held in
    let text = c.of-text.result in
    let walks : Walks h c.in-Names.target c.walk.result = record { inside = c.walk.ensures.inside; walked = c.walk.ensures.walked; means = c.walk.ensures.means } in
    let to : Walks h c.in-Names.target (Variable c.in-Variable.variable) = rw c.in-Variable.is at walks in
    used_as (Names c.in-Names.target) c.args.made text c.args.trial.now.text m (record m { name = Some text }) (Becomes c.in-Variable.variable) c.in-Names.is (c.of-text.ensures ∙ c.as_slice.ensures)
    (record {
      target = c.in-Names.target;
      uses = refl;
      can = variable_can (most_names m) h m.names.names text c.in-Names.target c.in-Variable.variable to (rw (c.of-text.ensures, c.as_slice.ensures) (c.requires.inside c.in-Names.target c.in-Names.is).0)
          (sym c.number_of.ensures ∙ ap (option_map (λ (a : CellName). a.number)) c.in_default-number_of.is) (sym (rw c.limits.ensures.value at c.has_room.ensures) ∙ c.if-not-has_room.false);
      is = refl;
      machine = (named_machine m text c.requires.machine).machine;
    })

pub returns-in_default-walk-clause-ok : goal.returns-in_default-walk-clause-ok
returns-in_default-walk-clause-ok c =
    let m = c.args.self.now in
    let h = m.store.held in
    let text = c.of-text.result in
    let to : Walks h c.in-Names.target c.walk.result = record { inside = c.walk.ensures.inside; walked = c.walk.ensures.walked; means = c.walk.ensures.means } in
    used_as (Names c.in-Names.target) c.args.made text c.args.trial.now.text m (record m { name = Some text }) (Does (Raises Failure)) c.in-Names.is (c.of-text.ensures ∙ c.as_slice.ensures)
    (λ p places. new_stands p places text c.in-Names.target m c.requires.machine c.requires.none c.walk.result (sym (rw c.limits.ensures.value at c.has_room.ensures) ∙ c.if-not-has_room.false) (sym c.number_of.ensures ∙ ap (option_map (λ (a : CellName). a.number)) c.in_default-number_of.is)
    c.mark-formed.ensures.formed to c.in_default-walk.not-Variable)
