-- What looks at arguments come to, and what lists of codes spell, when variables are replaced.
use Rattle.std.proofs.Common.{◌≡◌, ℕ, zero, suc, Bool, true, false, if◌then◌else◌, refl, ap, ap₂, ◌∙◌}
use Rattle.std.specs.Prelude.{codes, bytes_eq, pos, negsuc, nat_le, ◌||◌, ⊤, List, ◌∷◌}
use Rattle.kl1_model.specs.Text.{is_name_byte}
use Rattle.kl1_model.specs.Term.{Term, variable, integer, atom, structure, none, more, substituted}
use Rattle.kl1_model.specs.Look.{spelled_by, spelling, callee_look, goal_look, priority_look, allowance_look, number_of_term, ExecuteArguments, arguments_look}
use Rattle.kl1_model.specs.code.Waits.{LeavesEach}
use Rattle.kl1_model.specs.laws.WaitsLaws.{SubstitutesStay}
use Rattle.kl1_model.specs.Found.{Found, found, awaits, wrong, then_found, found_map, right_if}
use Rattle.kl1_model.specs.code.Waits.{awaited_by_found}

-- ---- lists of codes

before_left : (s : ℕ → Term) (n : ℕ) (x : Found (List ℕ)) → LeavesEach s (awaited_by_found (found_map (λ text. n ∷ text) x)) → LeavesEach s (awaited_by_found x)
before_left s n (found text) l = tt
before_left s n (awaits v) l = l
before_left s n wrong l = tt

code_stays : (s : ℕ → Term) (n : ℕ) (fits : Bool) (x y : Found (List ℕ)) → (LeavesEach s (awaited_by_found x) → y ≡ x) → LeavesEach s (awaited_by_found (if fits then found_map (λ text. n ∷ text) x else wrong)) →
    (if fits then found_map (λ text. n ∷ text) y else wrong) ≡ (if fits then found_map (λ text. n ∷ text) x else wrong)
code_stays s n true x y f l = ap (found_map (λ text. n ∷ text)) (f (before_left s n x l))
code_stays s n false x y f l = refl

element_stays : (s : ℕ → Term) (h : Term) (x y : Found (List ℕ)) → (LeavesEach s (awaited_by_found x) → y ≡ x) → LeavesEach s (awaited_by_found (spelled_by h x)) → spelled_by (substituted s h) y ≡ spelled_by h x
element_stays s (variable v) x y f l = ap (λ t. spelled_by t y) l.0
element_stays s (integer (pos n)) x y f l = code_stays s n (is_name_byte n) x y f l
element_stays s (integer (negsuc n)) x y f l = refl
element_stays s (atom a) x y f l = refl
element_stays s (structure g us) x y f l = refl

cell_stays : (s : ℕ → Term) (is_cell : Bool) (h : Term) (x y : Found (List ℕ)) → (LeavesEach s (awaited_by_found x) → y ≡ x) → LeavesEach s (awaited_by_found (if is_cell then spelled_by h x else wrong)) →
    (if is_cell then spelled_by (substituted s h) y else wrong) ≡ (if is_cell then spelled_by h x else wrong)
cell_stays s true h x y f l = element_stays s h x y f l
cell_stays s false h x y f l = refl

-- what a list of codes comes to stays until the variable that it waits for is replaced
pub spelling_stays : (s : ℕ → Term) (most : ℕ) (t : Term) → LeavesEach s (awaited_by_found (spelling most t)) → spelling most (substituted s t) ≡ spelling most t
spelling_stays s zero (variable v) l = ap (spelling zero) l.0
spelling_stays s zero (integer i) l = refl
spelling_stays s zero (atom a) l = refl
spelling_stays s zero (structure f none) l = refl
spelling_stays s zero (structure f (more h none)) l = refl
spelling_stays s zero (structure f (more h (more t none))) l = refl
spelling_stays s zero (structure f (more h (more t (more u us)))) l = refl
spelling_stays s (suc most) (variable v) l = ap (spelling (suc most)) l.0
spelling_stays s (suc most) (integer i) l = refl
spelling_stays s (suc most) (atom a) l = refl
spelling_stays s (suc most) (structure f none) l = refl
spelling_stays s (suc most) (structure f (more h none)) l = refl
spelling_stays s (suc most) (structure f (more h (more t none))) l = cell_stays s (bytes_eq f (codes ".")) h (spelling most t) (spelling most (substituted s t)) (spelling_stays s most t) l
spelling_stays s (suc most) (structure f (more h (more t (more u us)))) l = refl

-- ---- looks

then_stays : {A B : Type 0} (s : ℕ → Term) (x x' : Found A) (y y' : A → Found B) → (LeavesEach s (awaited_by_found x) → x' ≡ x) → ((a : A) → LeavesEach s (awaited_by_found x) → LeavesEach s (awaited_by_found (y a)) → y' a ≡ y a) →
    LeavesEach s (awaited_by_found (then_found x y)) → then_found x' y' ≡ then_found x y
then_stays s (found a) x' y y' f g l = ap (λ z. then_found z y') (f tt) ∙ g a tt l
then_stays s (awaits v) x' y y' f g l = ap (λ z. then_found z y') (f l)
then_stays s wrong x' y y' f g l = ap (λ z. then_found z y') (f tt)

callee_stays : (s : ℕ → Term) (a b : Term) → LeavesEach s (awaited_by_found (callee_look a b)) → callee_look (substituted s a) (substituted s b) ≡ callee_look a b
callee_stays s (variable m) b l = ap (λ t. callee_look t (substituted s b)) l.0
callee_stays s (integer i) (variable p) l = ap (callee_look (integer i)) l.0
callee_stays s (integer i) (integer j) l = refl
callee_stays s (integer i) (atom p) l = refl
callee_stays s (integer i) (structure g us) l = refl
callee_stays s (atom m) (variable p) l = ap (callee_look (atom m)) l.0
callee_stays s (atom m) (integer j) l = refl
callee_stays s (atom m) (atom p) l = refl
callee_stays s (atom m) (structure g us) l = refl
callee_stays s (structure f ts) (variable p) l = ap (callee_look (substituted s (structure f ts))) l.0
callee_stays s (structure f ts) (integer j) l = refl
callee_stays s (structure f ts) (atom p) l = refl
callee_stays s (structure f ts) (structure g us) l = refl

two_stay : (s : ℕ → Term) (c d : Bool) (a b : Term) → LeavesEach s (awaited_by_found (if c then callee_look a b else right_if d)) →
    (if c then callee_look (substituted s a) (substituted s b) else right_if d) ≡ (if c then callee_look a b else right_if d)
two_stay s true d a b l = callee_stays s a b l
two_stay s false d a b l = refl

pub goal_stays : (s : ℕ → Term) (t : Term) → LeavesEach s (awaited_by_found (goal_look t)) → goal_look (substituted s t) ≡ goal_look t
goal_stays s (variable v) l = ap goal_look l.0
goal_stays s (integer i) l = refl
goal_stays s (atom a) l = refl
goal_stays s (structure f none) l = refl
goal_stays s (structure f (more a none)) l = refl
goal_stays s (structure f (more a (more b none))) l =
    two_stay s (bytes_eq f (codes ":")) (bytes_eq f (codes "=") || bytes_eq f (codes ":=") || bytes_eq f (codes "atom_from")) a b l
goal_stays s (structure f (more a (more b (more c us)))) l = refl

-- what is found of the term that a substitute waits for stays as well
pub substitutes_stay : SubstitutesStay
substitutes_stay s t l = goal_stays s t l

priority_stays : (s : ℕ → Term) (t : Term) → LeavesEach s (awaited_by_found (priority_look t)) → priority_look (substituted s t) ≡ priority_look t
priority_stays s (variable v) l = ap priority_look l.0
priority_stays s (integer (pos n)) l = refl
priority_stays s (integer (negsuc n)) l = refl
priority_stays s (atom a) l = refl
priority_stays s (structure f ts) l = refl

allowance_stays : (s : ℕ → Term) (t : Term) → LeavesEach s (awaited_by_found (allowance_look t)) → allowance_look (substituted s t) ≡ allowance_look t
allowance_stays s (variable v) l = ap allowance_look l.0
allowance_stays s (integer (pos n)) l = refl
allowance_stays s (integer (negsuc n)) l = refl
allowance_stays s (atom a) l = refl
allowance_stays s (structure f ts) l = refl

number_stays : (s : ℕ → Term) (t : Term) → LeavesEach s (awaited_by_found (priority_look t)) → number_of_term (substituted s t) ≡ number_of_term t
number_stays s (variable v) l = ap number_of_term l.0
number_stays s (integer i) l = refl
number_stays s (atom a) l = refl
number_stays s (structure f ts) l = refl

-- an order after a substitution
abbrev pub order_substituted : (ℕ → Term) → ExecuteArguments → ExecuteArguments
order_substituted s o = record {
  goal = substituted s o.goal;
  low = substituted s o.low;
  high = substituted s o.high;
  allowance = substituted s o.allowance;
  control = substituted s o.control;
  reports = substituted s o.reports;
}

-- the look at an order stays until the variable that it waits for is replaced
pub order_stays : (s : ℕ → Term) (o : ExecuteArguments) → LeavesEach s (awaited_by_found (arguments_look o)) → arguments_look (order_substituted s o) ≡ arguments_look o
order_stays s o l =
    let p = order_substituted s o in
    let range : Found ⊤ = right_if (nat_le (number_of_term o.low) (number_of_term o.high)) in
    let range' : Found ⊤ = right_if (nat_le (number_of_term p.low) (number_of_term p.high)) in
    let third : Found ⊤ = then_found (allowance_look o.allowance) (λ n. range) in
    let third' : Found ⊤ = then_found (allowance_look p.allowance) (λ n. range') in
    let second : Found ⊤ = then_found (priority_look o.high) (λ high. third) in
    let second' : Found ⊤ = then_found (priority_look p.high) (λ high. third') in
    let first : Found ⊤ = then_found (priority_look o.low) (λ low. second) in
    let first' : Found ⊤ = then_found (priority_look p.low) (λ low. second') in
    then_stays s (goal_look o.goal) (goal_look p.goal) (λ goal. first) (λ goal. first') (goal_stays s o.goal) (λ goal g.
    then_stays s (priority_look o.low) (priority_look p.low) (λ low. second) (λ low. second') (priority_stays s o.low) (λ a low.
    then_stays s (priority_look o.high) (priority_look p.high) (λ high. third) (λ high. third') (priority_stays s o.high) (λ b high.
    then_stays s (allowance_look o.allowance) (allowance_look p.allowance) (λ n. range) (λ n. range') (allowance_stays s o.allowance) (λ c n r.
    ap₂ (λ x y. right_if (nat_le x y)) (number_stays s o.low low) (number_stays s o.high high))))) l
