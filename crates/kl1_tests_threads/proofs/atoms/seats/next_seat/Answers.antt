use Rattle.std.proofs.Common.{◌≡◌, List, Some, slice_get, sym, subst}
use Rattle.std.specs.Option.{option_to_list}
use Rattle.kl1_atoms.specs.declared.atom_seat.AtomSeat.{AtomSeat}
use Rattle.kl1_tests_threads.proofs.Front.{in_front}
use Rattle.kl1_tests_threads.proofs.atoms.seats.next_seat.Goals as goal

pub returns-clause-seats : goal.returns-clause-seats
returns-clause-seats c = λ k seat e.
    c.requires.seats k seat (subst (λ (l : List AtomSeat). slice_get l k ≡ Some seat) (sym c.pop.ensures.items) (in_front c.pop.new.self.items (option_to_list c.pop.result) k seat e))

pub returns-clause-rooms : goal.returns-clause-rooms
returns-clause-rooms c = λ k seat e.
    c.requires.rooms k seat (subst (λ (l : List AtomSeat). slice_get l k ≡ Some seat) (sym c.pop.ensures.items) (in_front c.pop.new.self.items (option_to_list c.pop.result) k seat e))
