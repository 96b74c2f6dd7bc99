-- What a goal's move does to a machine, and a move with the charge before it.
use Rattle.kl1_machine.proofs.Words.{most_names, ◌≡◌, ℕ, suc, Bool, List, [], length, refl, sym, ap, ◌∙◌, subst, Some, Candidate, State, charge, commits, unifies, opens, gives_way, moved, CellName, Cell, Qualified, IsIn, Move, ExecuteArguments, order_at, IsOrder, IsCandidate, IsMove, Reduces, Goal, Numbered, Reading, meaning, goal_with, aim, IsOwned, worked, Knows, name_for, turns_as, replaced_turns, Machine, made, IsMachine, goal_at, with_goal, Puts, Charges, TurnsAs, Commits, UnifiesAs, OpensChild, Making, IsMade, MovesAs, ReadsAll, StandsFor, Predicate, taken_places}
use Rattle.kl1_model.specs.Term as term
use Rattle.kl1_model.specs.Reduction as model
use Rattle.kl1_goals_moves.specs.declared.moves.Move.TheVariants as move
use Rattle.kl1_goals_moves.specs.declared.trial.Trial.{Trial}
use Rattle.kl1_user_effects.specs.Works as works
use Rattle.kl1_machine.proofs.Naming.{found_is}

-- a move of a goal by the clauses of a predicate, with what was tried of them
abbrev pub tried : Predicate CellName → Move CellName → Trial CellName → Making
tried p y t = record { predicate = p; move = y; places = taken_places t; text = t.text }

-- what a goal does by a move
abbrev moves_by : Goal CellName → Qualified CellName → Machine → (Reading → model.Move) → Reading → State → State
moves_by goal x m k f = moved (goal_with (meaning f m.store.held) goal) (aim f m.store.held x) (k f)

-- a move that is another's
moves_as : (ms : List Numbered) (goal : Goal CellName) (x : Qualified CellName) (m n : Machine) (k l : Reading → model.Move) → ((f : Reading) → Knows ms f → k f ≡ l f) →
    works.Turns ms (moves_by goal x m l) m.store.held n.store.held (made m) (made n) → works.Turns ms (moves_by goal x m k) m.store.held n.store.held (made m) (made n)
moves_as ms goal x m n k l is p =
    turns_as ms (moves_by goal x m l) (moves_by goal x m k) m.store.held n.store.held (made m) (made n)
    (λ f knows s. ap (λ y. moved (goal_with (meaning f m.store.held) goal) (aim f m.store.held x) y (worked f s m.store.held (made m))) (is f knows)) p

-- ---- commits

-- the candidate that a move commits to, or one without a clause
abbrev candidate_in : model.Move → Candidate
candidate_in (commits k) = k
candidate_in y = record { number = 0; clause = record { name = []; patterns = term.none; tests = []; section = 0; body = [] }; places = [] }

pub moves_commit : (a : Making) (place : ℕ) (goal : Goal CellName) (x : Qualified CellName) (m n : Machine) → a.move ≡ move.Commits place → Commits (record { predicate = a.predicate; place = place; places = a.places }) goal x m n → MovesAs a goal x m n
moves_commit a place goal x m n is c =
    let P : Move CellName → Type 0 = λ y. MovesAs (record a { move = y }) goal x m n in
    subst P (sym is)
    (record {
      turns = λ ms k found.
          let so : (f : Reading) (knows : Knows ms f) → k f ≡ commits (found f knows).candidate = λ f knows. found_is (k f) (commits (found f knows).candidate) (Some (k f)) refl (found f knows).moves in
          let C : (f : Reading) → Candidate → Type 0 = λ f y. IsCandidate f m.store.held a.predicate place a.places y in
          moves_as ms goal x m n k (λ f. commits (candidate_in (k f))) (λ f knows. so f knows ∙ ap (λ y. commits (candidate_in y)) (sym (so f knows)))
          (c.turns ms (λ f. candidate_in (k f)) (λ f knows. subst (C f) (ap candidate_in (sym (so f knows))) (found f knows).is));
      machine = c.machine;
      named = c.named;
    })

-- ---- other moves

-- a move that is one of the definitions for each reading
pub moves_one : (a : Making) (y : Move CellName) (j : Reading → model.Move) (goal : Goal CellName) (x : Qualified CellName) (m n : Machine) → a.move ≡ y → ((f : Reading) (k : model.Move) → IsMove f m.store.held (Some k) a.predicate a.places a.text (Some y) → Some k ≡ Some (j f)) →
    TurnsAs (λ f. moved (goal_with (meaning f m.store.held) goal) (aim f m.store.held x) (j f)) m n → MovesAs a goal x m n
moves_one a y j goal x m n is found c =
    let P : Move CellName → Type 0 = λ z. MovesAs (record a { move = z }) goal x m n in
    subst P (sym is) (record { turns = λ ms k made_is. moves_as ms goal x m n k j (λ f knows. found_is (k f) (j f) (Some (k f)) refl (found f (k f) (made_is f knows))) (c.turns ms); machine = c.machine; named = c.named })

pub moves_unification : (a : Making) (l r : Cell CellName) (goal : Goal CellName) (x : Qualified CellName) (m n : Machine) → a.move ≡ move.Unifies l r → UnifiesAs goal x l r m n → MovesAs a goal x m n
moves_unification a l r goal x m n is c = moves_one a (move.Unifies l r) (λ f. unifies (meaning f m.store.held l) (meaning f m.store.held r)) goal x m n is (λ f k e. e) c

pub moves_order : (a : Making) (s : ℕ) (o : ExecuteArguments CellName) (goal : Goal CellName) (x : Qualified CellName) (m n : Machine) → a.move ≡ move.Opens s → IsOrder m.store.held s o → OpensChild s goal x m n → MovesAs a goal x m n
moves_order a s o goal x m n is order c = moves_one a (move.Opens s) (λ f. opens (order_at f m.store.held o)) goal x m n is (λ f k e. e o order) (record { turns = c.turns o order; machine = c.machine; named = c.named })

pub moves_giving_way : (a : Making) (goal : Goal CellName) (x : Qualified CellName) (m n : Machine) → a.move ≡ move.GivesWay → IsMachine m → IsIn m.store.held x.cell → IsOwned (length m.shoens.shoens) goal → Puts goal.shoen goal.priority (Reduces x) m n → MovesAs a goal x m n
moves_giving_way a goal x m n is i inside own p =
    let come = with_goal (goal_at (suc m.counts.last_goal) goal.shoen goal.priority (Reduces x)) m in
    let machine : IsMachine come = rw p.is at p.machine in
    rw p.is (moves_one a move.GivesWay (λ f. gives_way) goal x m come is (λ f k e. e) (record { turns = λ ms. replaced_turns ms m.store.held (made m) goal (Reduces x) i.inside inside own; machine = machine; named = record { name = refl; spelled = refl } }))

-- ---- a move with the charge before it

-- a goal has made a move, after a charge of its shoen; a name that is new has been used
pub record RunsAs (a : Making) (goal : Goal CellName) (x : Qualified CellName) (m n : Machine) : Type 0 where
  pub turns : (ms : List Numbered) (k : Reading → model.Move) (key : CellName) → ReadsAll (most_names m) a.move ms m.store.held m.names.names a.text key → IsMade a ms m k →
      works.Turns ms (λ f s. moved (goal_with (meaning f m.store.held) goal) (aim f m.store.held x) (k f) (charge goal.shoen s)) m.store.held n.store.held (made m) (made n)
  pub machine : IsMachine n
  pub name : n.name ≡ name_for (most_names m) a.move m.names.names a.text
  pub spelled : n.spelled ≡ m.spelled

pub runs : (a : Making) (b : Move CellName) (goal : Goal CellName) (x : Qualified CellName) (m c d u : Machine) (reached : Bool) → Charges goal.shoen m c reached → StandsFor b a c d → MovesAs (record a { move = b }) goal x d u → RunsAs a goal x m u
runs a b goal x m c d u reached charges stands moves =
    let first = rw charges.is at charges.turns in
    let stand = rw charges.is at stands in
    let p = rw stand.is at stand in
    let q = rw stand.is at moves in
    record {
      turns = λ ms k key reads is.
          let then = q.turns ms (p.by k) (p.made_by ms k is) in
          record {
            inside = then.inside;
            states = λ f knows s.
                let g = goal_with (meaning f m.store.held) goal in
                let t = aim f m.store.held x in
                ap (moved g t (k f)) ((first ms).states f knows s) ∙ p.does ms k key reads is f knows g t s ∙ then.states f knows s;
          };
      machine = q.machine;
      name = q.named.name;
      spelled = q.named.spelled;
    }
