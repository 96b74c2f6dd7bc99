-- What goals do that were judged, when variables are replaced.
use Rattle.std.proofs.Common.{◌≡◌, ℕ, Bool, true, false, if◌then◌else◌, List, [], ◌++◌, refl, sym, ap, subst, ◌∙◌}
use Rattle.std.specs.Prelude.{codes, bytes_eq, Option, Some, None, option_map, ◌&&◌}
use Rattle.kl1_model.specs.Term.{Term, variable, integer, atom, structure, Terms, none, more, substituted, each_substituted}
use Rattle.kl1_model.specs.Match.{call_of}
use Rattle.kl1_model.specs.Module.{Module}
use Rattle.kl1_model.specs.Arithmetic.{evaluated}
use Rattle.kl1_model.specs.Goal.{is_execute, is_called}
use Rattle.kl1_model.specs.Look.{spelling, ExecuteArguments, arguments_look}
use Rattle.kl1_model.specs.Found.{Found, found, awaits, wrong}
use Rattle.kl1_model.specs.declared.number.Number.{Number}
use Rattle.kl1_model.specs.declared.number.Number.TheVariants.{Value, Overflow, ZeroDivisor}
use Rattle.kl1_model.specs.declared.rules.Rules.{Rules}
use Rattle.kl1_model.specs.State.{most_spelled}
use Rattle.kl1_model.specs.Reduction.{Move, raises, unifies, names, opens, illegal_input, move_found, becomes, execute_arguments, execute_move, built_in_move}
use Rattle.kl1_model.specs.code.Waits.{awaited_by_found, LeavesEach, awaited_by_order, awaited_by_execute, awaited_by_built_in, awaited_by_call, awaited_at_head, awaited_by_substitute, awaited_by_term}
use Rattle.kl1_model.specs.code.Steps.{order_move}
use Rattle.kl1_model.specs.laws.WaitsLaws.{call_substituted}
use Rattle.kl1_model.proofs.Substitutions.{count-each_substituted}
use Rattle.kl1_model.proofs.SameStays.{left_front, left_back}
use Rattle.kl1_model.proofs.ScanStays.{evaluated_stays}
use Rattle.kl1_model.proofs.LookStays.{spelling_stays, order_substituted, order_stays, substitutes_stay}
use Rattle.kl1_model.proofs.TermStays.{head_stays}
use Rattle.kl1_goals.specs.declared.standing.Standing.{Standing}
use Rattle.kl1_goals.specs.declared.standing.Standing.TheVariants as standing
use Rattle.kl1_goals_moves.specs.Judged.{IsCalling, IsComputing, IsNaming, IsOrdering, IsMisusing, DoesAs, SubstituteDoes}

-- ---- what was found waits for nothing

-- what is known of what was found holds after a substitution as well
still_found : {A : Type 0} (s : ℕ → Term) (x y : Found A) (a : A) → (LeavesEach s (awaited_by_found x) → y ≡ x) → x ≡ found a → y ≡ found a
still_found s x y a stays e = let L : Found _ → Type 0 = λ z. LeavesEach s (awaited_by_found z) in stays (subst L (sym e) tt) ∙ e

computing_stays : (s : ℕ → Term) (t : Term) (n : Number) → IsComputing t n → IsComputing (substituted s t) n
computing_stays s t n k = record {
  left = substituted s k.left;
  right = substituted s k.right;
  is = ap (substituted s) k.is;
  comes = still_found s (evaluated k.right) (evaluated (substituted s k.right)) n (evaluated_stays s k.right) k.comes;
}

naming_stays : (rules : Rules) (s : ℕ → Term) (t : Term) → IsNaming rules t → IsNaming rules (substituted s t)
naming_stays rules s t k = record {
  list = substituted s k.list;
  target = substituted s k.target;
  text = k.text;
  is = ap (substituted s) k.is;
  spells = still_found s (spelling (most_spelled rules) k.list) (spelling (most_spelled rules) (substituted s k.list)) k.text (spelling_stays s (most_spelled rules) k.list) k.spells;
}

ordering_stays : (s : ℕ → Term) (t : Term) → IsOrdering t → IsOrdering (substituted s t)
ordering_stays s t k = record {
  order = order_substituted s k.order;
  is = ap (substituted s) k.is;
  look = still_found s (arguments_look k.order) (arguments_look (order_substituted s k.order)) tt (order_stays s k.order) k.look;
}

calling_stays : (s : ℕ → Term) (t : Term) → LeavesEach s (awaited_at_head t) → IsCalling t → IsCalling (substituted s t)
calling_stays s t l k = record { call = call_substituted s k.call; is = head_stays s t l ∙ ap (option_map (call_substituted s)) k.is }

-- ---- what raises an exception of illegal input

-- what is found raises it afterwards, if it leads to that
found_raises : {A : Type 0} (f g : A → Move) (x y : Found A) → y ≡ x → ((a : A) → f a ≡ raises illegal_input → g a ≡ raises illegal_input) → move_found f x ≡ Some (raises illegal_input) → move_found g y ≡ Some (raises illegal_input)
found_raises f g (found a) y e k m = ap (move_found g) e ∙ ap Some (k a (some_move m))
  where
    some_move : {m n : Move} → Some m ≡ Some n → m ≡ n
    some_move e = cc
found_raises f g (awaits v) y e k m = absurd (cc)
found_raises f g wrong y e k m = ap (move_found g) e

becomes_raises : (a b : Term) (n : Number) → becomes a n ≡ raises illegal_input → becomes b n ≡ raises illegal_input
becomes_raises a b (Value z) m = absurd (cc)
becomes_raises a b Overflow m = m
becomes_raises a b ZeroDivisor m = refl

arguments_substituted : (s : ℕ → Term) (p : List ℕ) (ts : Terms) → execute_arguments (structure p (each_substituted s ts)) ≡ option_map (order_substituted s) (execute_arguments (structure p ts))
arguments_substituted s p none = refl
arguments_substituted s p (more a none) = refl
arguments_substituted s p (more a (more b none)) = refl
arguments_substituted s p (more a (more b (more c none))) = refl
arguments_substituted s p (more a (more b (more c (more d none)))) = refl
arguments_substituted s p (more a (more b (more c (more d (more e none))))) = refl
arguments_substituted s p (more a (more b (more c (more d (more e (more g none)))))) = refl
arguments_substituted s p (more a (more b (more c (more d (more e (more g (more h us))))))) = refl

order_raises : (s : ℕ → Term) (c : Bool) (o : Option ExecuteArguments) → LeavesEach s (if c then awaited_by_order o else []) →
    (if c then order_move o else None) ≡ Some (raises illegal_input) → (if c then order_move (option_map (order_substituted s) o) else None) ≡ Some (raises illegal_input)
order_raises s true None l m = m
order_raises s true (Some o) l m =
    found_raises (λ right. opens o) (λ right. opens (order_substituted s o)) (arguments_look o) (arguments_look (order_substituted s o)) (order_stays s o l) (λ right e. absurd (cc)) m
order_raises s false o l m = m

execute_raises : (s : ℕ → Term) (a b : Term) → LeavesEach s (awaited_by_execute a b) → execute_move a b ≡ Some (raises illegal_input) → execute_move (substituted s a) (substituted s b) ≡ Some (raises illegal_input)
execute_raises s (variable v) b l m = absurd (cc)
execute_raises s (integer i) b l m = absurd (cc)
execute_raises s (structure f ts) b l m = absurd (cc)
execute_raises s (atom n) (variable v) l m = absurd (cc)
execute_raises s (atom n) (integer i) l m = absurd (cc)
execute_raises s (atom n) (atom p) l m = absurd (cc)
execute_raises s (atom n) (structure p ts) l m =
    ap (λ k. if bytes_eq n (codes "shoen") && is_called (codes "execute") 6 p k then order_move (execute_arguments (structure p (each_substituted s ts))) else None) (count-each_substituted s ts)
    ∙ ap (λ o. if is_execute n (structure p ts) then order_move o else None) (arguments_substituted s p ts)
    ∙ order_raises s (is_execute n (structure p ts)) (execute_arguments (structure p ts)) l m

-- by whether a name is `=`, `:=`, `atom_from` or `:`
pair_raises : (rules : Rules) (s : ℕ → Term) (c d e g : Bool) (a b : Term) → LeavesEach s (if d then awaited_by_found (evaluated b) else if e then awaited_by_found (spelling (most_spelled rules) a) else if g then awaited_by_execute a b else []) →
    (if c then Some (unifies a b) else if d then move_found (becomes a) (evaluated b) else if e then move_found (λ text. names text b) (spelling (most_spelled rules) a) else if g then execute_move a b else None) ≡ Some (raises illegal_input) →
    (if c then Some (unifies (substituted s a) (substituted s b)) else if d then move_found (becomes (substituted s a)) (evaluated (substituted s b)) else if e then move_found (λ text. names text (substituted s b)) (spelling (most_spelled rules) (substituted s a)) else if g then execute_move (substituted s a) (substituted s b) else None)
    ≡ Some (raises illegal_input)
pair_raises rules s true d e g a b l m = absurd (cc)
pair_raises rules s false true e g a b l m = found_raises (becomes a) (becomes (substituted s a)) (evaluated b) (evaluated (substituted s b)) (evaluated_stays s b l) (becomes_raises a (substituted s a)) m
pair_raises rules s false false true g a b l m =
    found_raises (λ text. names text b) (λ text. names text (substituted s b)) (spelling (most_spelled rules) a) (spelling (most_spelled rules) (substituted s a)) (spelling_stays s (most_spelled rules) a l) (λ text e. absurd (cc)) m
pair_raises rules s false false false true a b l m = execute_raises s a b l m
pair_raises rules s false false false false a b l m = m

built_in_raises : (rules : Rules) (s : ℕ → Term) (t : Term) → LeavesEach s (awaited_by_built_in rules t) → built_in_move rules t ≡ Some (raises illegal_input) → built_in_move rules (substituted s t) ≡ Some (raises illegal_input)
built_in_raises rules s (variable v) l m = absurd (cc)
built_in_raises rules s (integer i) l m = m
built_in_raises rules s (atom a) l m = m
built_in_raises rules s (structure f none) l m = m
built_in_raises rules s (structure f (more a none)) l m = m
built_in_raises rules s (structure f (more a (more b none))) l m = pair_raises rules s (bytes_eq f (codes "=")) (bytes_eq f (codes ":=")) (bytes_eq f (codes "atom_from")) (bytes_eq f (codes ":")) a b l m
built_in_raises rules s (structure f (more a (more b (more c us)))) l m = m

misusing_stays : (rules : Rules) (s : ℕ → Term) (t : Term) → LeavesEach s (awaited_at_head t) → LeavesEach s (awaited_by_built_in rules t) → IsMisusing rules t → IsMisusing rules (substituted s t)
misusing_stays rules s t l k u = record { call = head_stays s t l ∙ ap (option_map (call_substituted s)) u.call; move = built_in_raises rules s t k u.move }

-- ---- goals and substitutes

-- a term that stands so is still of this form until a variable that it waits for is replaced
pub does_stays : (rules : Rules) (modules : List Module) (s : ℕ → Term) (t : Term) (standing : Standing) → LeavesEach s (awaited_by_term rules modules t) → DoesAs rules t standing → DoesAs rules (substituted s t) standing
does_stays rules modules s t x l d =
    let calls = awaited_by_call modules (call_of t) in
    let built = awaited_by_built_in rules t in
    by x (left_front s (awaited_at_head t) calls (left_front s (awaited_at_head t ++ calls) built l)) (left_back s (awaited_at_head t ++ calls) built l) d
  where
    by : (x : Standing) → LeavesEach s (awaited_at_head t) → LeavesEach s (awaited_by_built_in rules t) → DoesAs rules t x → DoesAs rules (substituted s t) x
    by standing.Waits head built d = tt
    by (standing.Commits clause place) head built d = (calling_stays s t head d.0, d.1)
    by standing.Fails head built d = calling_stays s t head d
    by standing.Unifies head built d = record { left = substituted s d.left; right = substituted s d.right; is = ap (substituted s) d.is }
    by (standing.Becomes z) head built d = computing_stays s t (Value z) d
    by standing.Overflows head built d = computing_stays s t Overflow d
    by standing.Misuses head built d = misusing_stays rules s t head built d
    by standing.Names head built d = naming_stays rules s t d
    by standing.Opens head built d = ordering_stays s t d
    by standing.Goes head built d = ap (substituted s) d
    by standing.Reads head built d = d
    by standing.GivesWay head built d = d

-- a substitute that stands so does so still until the variable that it waits for is replaced
pub substitute_does_stays : (s : ℕ → Term) (t : Term) (standing : Standing) → LeavesEach s (awaited_by_substitute t) → SubstituteDoes t standing → SubstituteDoes (substituted s t) standing
substitute_does_stays s t standing.Waits l d = tt
substitute_does_stays s t standing.Misuses l d = substitutes_stay s t l ∙ d
substitute_does_stays s t standing.GivesWay l d = substitutes_stay s t l ∙ d
substitute_does_stays s t (standing.Commits clause place) l d = d
substitute_does_stays s t standing.Fails l d = d
substitute_does_stays s t standing.Unifies l d = d
substitute_does_stays s t (standing.Becomes z) l d = d
substitute_does_stays s t standing.Overflows l d = d
substitute_does_stays s t standing.Names l d = d
substitute_does_stays s t standing.Opens l d = d
substitute_does_stays s t standing.Goes l d = d
substitute_does_stays s t standing.Reads l d = d
