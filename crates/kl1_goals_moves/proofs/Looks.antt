-- What looks at cells come to, by what stands at their tops.
use Rattle.std.proofs.Common.{◌≡◌, ℕ, Bool, true, false, List, refl, sym, ap, ap₂, ◌∙◌, ℤ}
use Rattle.std.specs.Prelude.{pos, negsuc, nat_le, ◌||◌, codes, bytes_eq, ⊤}
use Rattle.std.proofs.lemmas.Bool.{cond-true, cond-false}
use Rattle.kl1_model.specs.Term.{Term, variable, integer, atom, structure, Terms, none, more}
use Rattle.kl1_model.specs.declared.limits.TheConstants.{MOST_PRIORITY}
use Rattle.kl1_model.specs.Found as model
use Rattle.kl1_model.specs.Look.{callee_look, goal_look, priority_look, allowance_look, number_of_term, arguments_look}
use Rattle.kl1_store.specs.declared.cell.Cell.{Cell}
use Rattle.kl1_store.specs.declared.cell.Cell.TheVariants.{Variable, Integer, Atom, Structure}
use Rattle.kl1_store.specs.Held.{Held}
use Rattle.kl1_store.specs.Meaning.{term_of}
use Rattle.kl1_goals_moves.specs.Tops.{HasTop}
use Rattle.kl1_goals_moves.specs.Shapes.{is_other}
use Rattle.kl1_goals_moves.specs.declared.look.Look.{Look}
use Rattle.kl1_goals_moves.specs.declared.look.Look.TheVariants.{Right, Waits, Wrong}
use Rattle.kl1_goals_moves.specs.Looks.{look_of, right_if, then_look, priority_by, allowance_by, number_by, callee_in, callee_outside, callee_by}
use Rattle.kl1_goals_moves.specs.declared.order.ExecuteArguments.{ExecuteArguments}
use Rattle.kl1_goals_moves.specs.Orders.{order_at}

look_right : (b : Bool) → look_of (right_if b) ≡ model.right_if b
look_right true = refl
look_right false = refl

look_then : (x y : Look) → look_of (then_look x y) ≡ model.then_found (look_of x) (λ right. look_of y)
look_then Right y = refl
look_then (Waits v) y = refl
look_then Wrong y = refl

-- ---- numbers

priority_top : {N : Type 0} (f : N → List ℕ) (t : Term) (x : Cell N) → HasTop f t x → look_of (priority_by x) ≡ priority_look t
priority_top f t (Variable v) e = sym (ap priority_look e)
priority_top f t (Integer (pos n)) e = look_right (nat_le n MOST_PRIORITY) ∙ sym (ap priority_look e)
priority_top f t (Integer (negsuc n)) e = sym (ap priority_look e)
priority_top f t (Atom a) e = sym (ap priority_look e)
priority_top f (variable v) (Structure s) e = absurd (cc)
priority_top f (integer i) (Structure s) e = absurd (cc)
priority_top f (atom a) (Structure s) e = absurd (cc)
priority_top f (structure g us) (Structure s) e = refl

allowance_top : {N : Type 0} (f : N → List ℕ) (t : Term) (x : Cell N) → HasTop f t x → look_of (allowance_by x) ≡ allowance_look t
allowance_top f t (Variable v) e = sym (ap allowance_look e)
allowance_top f t (Integer (pos n)) e = sym (ap allowance_look e)
allowance_top f t (Integer (negsuc n)) e = sym (ap allowance_look e)
allowance_top f t (Atom a) e = sym (ap allowance_look e)
allowance_top f (variable v) (Structure s) e = absurd (cc)
allowance_top f (integer i) (Structure s) e = absurd (cc)
allowance_top f (atom a) (Structure s) e = absurd (cc)
allowance_top f (structure g us) (Structure s) e = refl

number_top : {N : Type 0} (f : N → List ℕ) (t : Term) (x : Cell N) → HasTop f t x → number_by x ≡ number_of_term t
number_top f t (Variable v) e = sym (ap number_of_term e)
number_top f t (Integer (pos n)) e = sym (ap number_of_term e)
number_top f t (Integer (negsuc n)) e = sym (ap number_of_term e)
number_top f t (Atom a) e = sym (ap number_of_term e)
number_top f (variable v) (Structure s) e = absurd (cc)
number_top f (integer i) (Structure s) e = absurd (cc)
number_top f (atom a) (Structure s) e = absurd (cc)
number_top f (structure g us) (Structure s) e = refl

pub priority_as : {N : Type 0} (f : N → List ℕ) (t : Term) (x : Cell N) (r : Look) → r ≡ priority_by x → HasTop f t x → look_of r ≡ priority_look t
priority_as f t x r e top = ap look_of e ∙ priority_top f t x top

pub allowance_as : {N : Type 0} (f : N → List ℕ) (t : Term) (x : Cell N) (r : Look) → r ≡ allowance_by x → HasTop f t x → look_of r ≡ allowance_look t
allowance_as f t x r e top = ap look_of e ∙ allowance_top f t x top

pub number_as : {N : Type 0} (f : N → List ℕ) (t : Term) (x : Cell N) (n : ℕ) → n ≡ number_by x → HasTop f t x → n ≡ number_of_term t
number_as f t x n e top = e ∙ number_top f t x top

-- ---- what is called

in_atom : {N : Type 0} (f : N → List ℕ) (m : List ℕ) (u : Term) (y : Cell N) → HasTop f u y → look_of (callee_in y) ≡ callee_look (atom m) u
in_atom f m u (Variable v) e = sym (ap (callee_look (atom m)) e)
in_atom f m u (Integer i) e = sym (ap (callee_look (atom m)) e)
in_atom f m u (Atom a) e = sym (ap (callee_look (atom m)) e)
in_atom f m (variable v) (Structure s) e = absurd (cc)
in_atom f m (integer i) (Structure s) e = absurd (cc)
in_atom f m (atom a) (Structure s) e = absurd (cc)
in_atom f m (structure g us) (Structure s) e = refl

beside_integer : {N : Type 0} (f : N → List ℕ) (i : ℤ) (u : Term) (y : Cell N) → HasTop f u y → look_of (callee_outside y) ≡ callee_look (integer i) u
beside_integer f i u (Variable v) e = sym (ap (callee_look (integer i)) e)
beside_integer f i u (Integer j) e = sym (ap (callee_look (integer i)) e)
beside_integer f i u (Atom a) e = sym (ap (callee_look (integer i)) e)
beside_integer f i (variable v) (Structure s) e = absurd (cc)
beside_integer f i (integer j) (Structure s) e = absurd (cc)
beside_integer f i (atom a) (Structure s) e = absurd (cc)
beside_integer f i (structure g us) (Structure s) e = refl

beside_structure : {N : Type 0} (f : N → List ℕ) (p : List ℕ) (ts : Terms) (u : Term) (y : Cell N) → HasTop f u y → look_of (callee_outside y) ≡ callee_look (structure p ts) u
beside_structure f p ts u (Variable v) e = sym (ap (callee_look (structure p ts)) e)
beside_structure f p ts u (Integer j) e = sym (ap (callee_look (structure p ts)) e)
beside_structure f p ts u (Atom a) e = sym (ap (callee_look (structure p ts)) e)
beside_structure f p ts (variable v) (Structure s) e = absurd (cc)
beside_structure f p ts (integer j) (Structure s) e = absurd (cc)
beside_structure f p ts (atom a) (Structure s) e = absurd (cc)
beside_structure f p ts (structure g us) (Structure s) e = refl

callee_top : {N : Type 0} (f : N → List ℕ) (t u : Term) (x y : Cell N) → HasTop f t x → HasTop f u y → look_of (callee_by x y) ≡ callee_look t u
callee_top f t u (Variable v) y e d = sym (ap (λ k. callee_look k u) e)
callee_top f t u (Integer i) y e d = beside_integer f i u y d ∙ sym (ap (λ k. callee_look k u) e)
callee_top f t u (Atom a) y e d = in_atom f (f a) u y d ∙ sym (ap (λ k. callee_look k u) e)
callee_top f (variable v) u (Structure s) y e d = absurd (cc)
callee_top f (integer i) u (Structure s) y e d = absurd (cc)
callee_top f (atom a) u (Structure s) y e d = absurd (cc)
callee_top f (structure g us) u (Structure s) y e d = beside_structure f g us u y d

pub callee_as_look : {N : Type 0} (f : N → List ℕ) (t u : Term) (x y : Cell N) (r : Look) → r ≡ callee_by x y → HasTop f t x → HasTop f u y → look_of r ≡ callee_look t u
callee_as_look f t u x y r e top under = ap look_of e ∙ callee_top f t u x y top under

-- ---- goals

-- the look at two terms under a name that isn't `:`
pub pair_look : (g : List ℕ) (a b : Term) (x y z : Bool) → bytes_eq g (codes ":") ≡ false → bytes_eq g (codes "=") ≡ x → bytes_eq g (codes ":=") ≡ y → bytes_eq g (codes "atom_from") ≡ z → goal_look (structure g (more a (more b none))) ≡ look_of (right_if (x || y || z))
pair_look g a b x y z e p q r =
    cond-false (bytes_eq g (codes ":")) (callee_look a b) (model.right_if (bytes_eq g (codes "=") || bytes_eq g (codes ":=") || bytes_eq g (codes "atom_from"))) e
    ∙ ap (λ k. model.right_if (k || bytes_eq g (codes ":=") || bytes_eq g (codes "atom_from"))) p ∙ ap (λ k. model.right_if (x || k || bytes_eq g (codes "atom_from"))) q ∙ ap (λ k. model.right_if (x || y || k)) r
    ∙ sym (look_right (x || y || z))

-- and under `:`
pub module_look : (g : List ℕ) (a b : Term) → bytes_eq g (codes ":") ≡ true → goal_look (structure g (more a (more b none))) ≡ callee_look a b
module_look g a b e = cond-true (bytes_eq g (codes ":")) (callee_look a b) (model.right_if (bytes_eq g (codes "=") || bytes_eq g (codes ":=") || bytes_eq g (codes "atom_from"))) e

pub atom_look : (t : Term) (a : List ℕ) (b : Bool) (r : Look) → t ≡ atom a → bytes_eq a (codes "true") ≡ b → r ≡ right_if b → look_of r ≡ goal_look t
atom_look t a b r e is k = ap look_of k ∙ look_right b ∙ sym (ap goal_look e ∙ ap model.right_if is)

pub other_look : (t : Term) → is_other t ≡ true → goal_look t ≡ model.wrong
other_look (variable v) e = absurd (cc)
other_look (integer i) e = refl
other_look (atom a) e = absurd (cc)
other_look (structure f none) e = refl
other_look (structure f (more t none)) e = refl
other_look (structure f (more t (more u none))) e = absurd (cc)
other_look (structure f (more t (more u (more v ts)))) e = refl

-- ---- orders

pub order_as_look : {N : Type 0} (f : N → List ℕ) (h : Held N) (o : ExecuteArguments N) (g l u n : Look) (least most : ℕ) → look_of g ≡ goal_look (term_of f h o.goal) → look_of l ≡ priority_look (term_of f h o.low) → look_of u ≡ priority_look (term_of f h o.high) →
    look_of n ≡ allowance_look (term_of f h o.allowance) → least ≡ number_of_term (term_of f h o.low) → most ≡ number_of_term (term_of f h o.high) →
    look_of (then_look g (then_look l (then_look u (then_look n (right_if (nat_le least most)))))) ≡ arguments_look (order_at f h o)
order_as_look f h o g l u n least most eg el eu en least_is most_is =
    let range = model.right_if (nat_le (number_of_term (term_of f h o.low)) (number_of_term (term_of f h o.high))) in
    let last : look_of (right_if (nat_le least most)) ≡ range = look_right (nat_le least most) ∙ ap₂ (λ x y. model.right_if (nat_le x y)) least_is most_is in
    look_then g (then_look l (then_look u (then_look n (right_if (nat_le least most)))))
    ∙ ap₂ (λ (x y : model.Found ⊤). model.then_found x (λ right. y)) eg (look_then l (then_look u (then_look n (right_if (nat_le least most))))
    ∙ ap₂ (λ (x y : model.Found ⊤). model.then_found x (λ right. y)) el (look_then u (then_look n (right_if (nat_le least most)))
    ∙ ap₂ (λ (x y : model.Found ⊤). model.then_found x (λ right. y)) eu (look_then n (right_if (nat_le least most)) ∙ ap₂ (λ (x y : model.Found ⊤). model.then_found x (λ right. y)) en last)))
