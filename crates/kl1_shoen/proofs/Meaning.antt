-- The words of shoens in order of number, as the definitions have them over a state, for each reading of the names.
use Rattle.std.proofs.Common.{◌≡◌, ℕ, ◌+◌, Bool, true, false, ◌==◌, ◌&&◌, ◌||◌, not, if◌then◌else◌, nat_le, List, [], ◌∷◌, map, length, count_by, refl, sym, ap, ap₂, ◌∙◌}
use Rattle.std.specs.Prelude.{Option, Some, None, find, option_map, unwrap_or, cond}
use Rattle.std.specs.List.{list_any}
use Rattle.std.proofs.lemmas.List.Sums.{sum_by-cons}
use Rattle.kl1_model.specs.declared.life.Life.{Life}
use Rattle.kl1_model.specs.declared.life.Life.TheVariants.{Aborted}
use Rattle.kl1_model.specs.declared.rules.Rules.{Rules}
use Rattle.kl1_model.specs.Module.{is_among}
use Rattle.kl1_model.specs.State as model
use Rattle.kl1_model.specs.State.{State, shoen_at, is_living}
use Rattle.kl1_model.specs.Tree.{parents_of, path_within, path, is_on_path, depth_of, charged_of, is_exhausted, is_blocking, is_enabled_in, is_living_child}
use Rattle.kl1_model.specs.Tree as tree
use Rattle.kl1_model.specs.Ending as ending
use Rattle.kl1_model.specs.Ending.{has_living_child, lives, has_reached, ended_as}
use Rattle.kl1_model.specs.Meaning.{nil}
use Rattle.kl1_model.specs.code.Steps.{aborted_below}
use Rattle.kl1_store.specs.declared.cell.Cell.{Cell}
use Rattle.kl1_store.specs.Held.{Held}
use Rattle.kl1_store.specs.Meaning.{term_of}
use Rattle.kl1_shoen_paths.specs.declared.shoen.Origin.{Origin}
use Rattle.kl1_shoen_paths.specs.declared.shoen.Shoen.{Shoen}
use Rattle.kl1_shoen.specs.Shoens.{has_number, shoen_in, parents_in, path_in, is_on_path_in, charged_in, is_exhausted_in, is_blocking_in, is_blocking_at, is_enabled_at, has_reached_in, lives_in, is_living_child_of, changed, control_left, ended_with, aborted_below_in}
use Rattle.kl1_shoen.specs.Meaning.{origin_of, shoen_of, LeavesBy}

-- one reduction more charges just its path one more
pub charge_is : {N : Type 0} (ss : List (Shoen N)) (work : List ℕ) (n a : ℕ) → charged_in ss (n ∷ work) a ≡ (if is_on_path_in ss a n then 1 else 0) + charged_in ss work a
charge_is ss work n a = sum_by-cons (λ w. cond (is_on_path_in ss a w) 1 0) n work

pub parents_are : {N : Type 0} (f : N → List ℕ) (h : Held N) (ss : List (Shoen N)) → parents_of (map (shoen_of f h) ss) ≡ parents_in ss
parents_are f h [] = refl
parents_are f h (s ∷ ss) = ap (λ (ps : List ℕ). s.parent ∷ ps) (parents_are f h ss)

pub path_is : {N : Type 0} (f : N → List ℕ) (h : Held N) (ss : List (Shoen N)) (n : ℕ) → path (map (shoen_of f h) ss) n ≡ path_in ss n
path_is f h ss n = ap (λ ps. path_within n ps n) (parents_are f h ss)

pub on_path_is : {N : Type 0} (f : N → List ℕ) (h : Held N) (ss : List (Shoen N)) (a n : ℕ) → is_on_path (map (shoen_of f h) ss) a n ≡ is_on_path_in ss a n
on_path_is f h ss a n = ap (is_among a) (path_is f h ss n)

pub depth_is : {N : Type 0} (f : N → List ℕ) (h : Held N) (ss : List (Shoen N)) (n : ℕ) → depth_of (map (shoen_of f h) ss) n ≡ length (path_in ss n)
depth_is f h ss n = ap (λ (ns : List ℕ). length ns) (path_is f h ss n)

-- a state has these shoens and this work, names read by f
pub record Has {N : Type 0} (f : N → List ℕ) (h : Held N) (ss : List (Shoen N)) (work : List ℕ) (s : State) : Type 0 where
  pub shoens : s.shoens ≡ map (shoen_of f h) ss
  pub charged : s.work ≡ work

pub charged_is : {N : Type 0} (f : N → List ℕ) (h : Held N) (ss : List (Shoen N)) (work : List ℕ) (s : State) → Has f h ss work s → (a : ℕ) → charged_of s a ≡ charged_in ss work a
charged_is f h ss work s e a =
    ap (λ hs. count_by (λ w. is_among a (path_within w (parents_of hs) w)) s.work) e.shoens
    ∙ ap (count_by (λ w. is_among a (path_within w (parents_of (map (shoen_of f h) ss)) w))) e.charged
    ∙ ap (λ ps. count_by (λ w. is_among a (path_within w ps w)) work) (parents_are f h ss)

pub exhausted_is : {N : Type 0} (f : N → List ℕ) (h : Held N) (ss : List (Shoen N)) (work : List ℕ) (s : State) → Has f h ss work s → (x : Shoen N) → is_exhausted s (shoen_of f h x) ≡ is_exhausted_in ss work x
exhausted_is f h ss work s e x = ap (nat_le x.allowance) (charged_is f h ss work s e x.number)

pub blocking_is : {N : Type 0} (f : N → List ℕ) (h : Held N) (ss : List (Shoen N)) (work : List ℕ) (s : State) → Has f h ss work s → (x : Shoen N) → is_blocking s (shoen_of f h x) ≡ is_blocking_in ss work x
blocking_is f h ss work s e x = ap (λ b. x.is_stopped || not (is_living x.life) || b) (exhausted_is f h ss work s e x)

found_first : {N : Type 0} (f : N → List ℕ) (h : Held N) (n : ℕ) (s : Shoen N) (ss : List (Shoen N)) (b : Bool) → shoen_at n (map (shoen_of f h) ss) ≡ option_map (shoen_of f h) (find (has_number n) ss) →
    (if b then Some (shoen_of f h s) else shoen_at n (map (shoen_of f h) ss)) ≡ option_map (shoen_of f h) (if b then Some s else find (has_number n) ss)
found_first f h n s ss true e = refl
found_first f h n s ss false e = e

-- the definitions' shoen `n` is that which is found
pub shoen_at_is : {N : Type 0} (f : N → List ℕ) (h : Held N) (n : ℕ) (ss : List (Shoen N)) → shoen_at n (map (shoen_of f h) ss) ≡ option_map (shoen_of f h) (find (has_number n) ss)
shoen_at_is f h n [] = refl
shoen_at_is f h n (s ∷ ss) = found_first f h n s ss (s.number == n) (shoen_at_is f h n ss)

-- a test of a shoen by its number, if it comes to the same of each
pub tested_is : {N : Type 0} (f : N → List ℕ) (h : Held N) (ss : List (Shoen N)) (hs : List model.Shoen) (p : model.Shoen → Bool) (q : Shoen N → Bool) (n : ℕ) → hs ≡ map (shoen_of f h) ss → ((x : Shoen N) → p (shoen_of f h x) ≡ q x) →
    unwrap_or (option_map p (shoen_at n hs)) false ≡ unwrap_or (option_map q (shoen_in n ss)) false
tested_is {N = N} f h ss hs p q n e same =
    ap (λ ks. unwrap_or (option_map p (shoen_at n ks)) false) e
    ∙ ap (λ (o : Option model.Shoen). unwrap_or (option_map p o) false) (shoen_at_is f h n ss)
    ∙ by_case (find (has_number n) ss)
  where
    by_case : (o : Option (Shoen N)) → unwrap_or (option_map p (option_map (shoen_of f h) o)) false ≡ unwrap_or (option_map q o) false
    by_case None = refl
    by_case (Some x) = same x

pub blocking_at_is : {N : Type 0} (f : N → List ℕ) (h : Held N) (ss : List (Shoen N)) (work : List ℕ) (s : State) → Has f h ss work s → (n : ℕ) → tree.is_blocking_at s n ≡ is_blocking_at ss work n
blocking_at_is f h ss work s e n = tested_is f h ss s.shoens (is_blocking s) (is_blocking_in ss work) n e.shoens (blocking_is f h ss work s e)

pub any_same : (p q : ℕ → Bool) → ((n : ℕ) → p n ≡ q n) → (ns : List ℕ) → list_any p ns ≡ list_any q ns
any_same p q e [] = refl
any_same p q e (n ∷ ns) = ap₂ (λ b c. b || c) (e n) (any_same p q e ns)

pub enabled_is : {N : Type 0} (f : N → List ℕ) (h : Held N) (ss : List (Shoen N)) (work : List ℕ) (s : State) → Has f h ss work s → (n : ℕ) → is_enabled_in s n ≡ is_enabled_at ss work n
enabled_is f h ss work s e n =
    ap (λ hs. not (list_any (tree.is_blocking_at s) (path hs n))) e.shoens
    ∙ ap (λ ns. not (list_any (tree.is_blocking_at s) ns)) (path_is f h ss n)
    ∙ ap not (any_same (tree.is_blocking_at s) (is_blocking_at ss work) (blocking_at_is f h ss work s e) (path_in ss n))

pub reached_is : {N : Type 0} (f : N → List ℕ) (h : Held N) (ss : List (Shoen N)) (work : List ℕ) (s : State) → Has f h ss work s → (n : ℕ) → has_reached s n ≡ has_reached_in ss work n
reached_is f h ss work s e n =
    tested_is f h ss s.shoens (λ k. k.allowance == charged_of s n) (λ k. k.allowance == charged_in ss work n) n e.shoens (λ x. ap (λ (m : ℕ). x.allowance == m) (charged_is f h ss work s e n))

pub lives_is : {N : Type 0} (f : N → List ℕ) (h : Held N) (ss : List (Shoen N)) (s : State) → s.shoens ≡ map (shoen_of f h) ss → (n : ℕ) → lives n s ≡ lives_in ss n
lives_is f h ss s e n = tested_is f h ss s.shoens (λ k. is_living k.life) (λ k. is_living k.life) n e (λ x. refl)

any_child : {N : Type 0} (f : N → List ℕ) (h : Held N) (ss : List (Shoen N)) (n : ℕ) → list_any (is_living_child n) (map (shoen_of f h) ss) ≡ list_any (is_living_child_of n) ss
any_child f h [] n = refl
any_child f h (s ∷ ss) n = ap (λ b. is_living_child_of n s || b) (any_child f h ss n)

pub living_child_is : {N : Type 0} (f : N → List ℕ) (h : Held N) (ss : List (Shoen N)) (s : State) → s.shoens ≡ map (shoen_of f h) ss → (n : ℕ) → has_living_child n s ≡ list_any (is_living_child_of n) ss
living_child_is f h ss s e n = ap (λ hs. list_any (is_living_child n) hs) e ∙ any_child f h ss n

changed_if : {N : Type 0} (f : N → List ℕ) (h : Held N) (c : Bool) (x : Shoen N) (y : model.Shoen) (z : Shoen N) → y ≡ shoen_of f h z → (if c then y else shoen_of f h x) ≡ shoen_of f h (if c then z else x)
changed_if f h true x y z e = e
changed_if f h false x y z e = refl

-- a change of the definitions' shoen `n`, if it comes to the same of each
pub changed_is : {N : Type 0} (f : N → List ℕ) (h : Held N) (n : ℕ) (change : model.Shoen → model.Shoen) (make : Shoen N → Shoen N) → ((x : Shoen N) → change (shoen_of f h x) ≡ shoen_of f h (make x)) → (ss : List (Shoen N)) →
    map (λ k. if k.number == n then change k else k) (map (shoen_of f h) ss) ≡ map (shoen_of f h) (changed n make ss)
changed_is f h n change make e [] = refl
changed_is f h n change make e (x ∷ ss) = ap₂ (λ (k : model.Shoen) (ks : List model.Shoen). k ∷ ks) (changed_if f h (x.number == n) x (change (shoen_of f h x)) (make x) (e x)) (changed_is f h n change make e ss)

-- what is left of a control stream
left_is : {N : Type 0} (f : N → List ℕ) (h : Held N) (rules : Rules) (left : Option (Cell N)) (o : Option (Origin N)) (c : Cell N) → LeavesBy rules f h left →
    ending.control_left rules (option_map (origin_of f h) o) (term_of f h c) ≡ term_of f h (control_left left o c)
left_is f h rules None None c l = ap (λ b. if b then nil else term_of f h c) l
left_is f h rules None (Some o) c l = refl
left_is f h rules (Some x) None c l = ap (λ b. if b then nil else term_of f h c) l.0 ∙ sym l.1
left_is f h rules (Some x) (Some o) c l = refl

-- the end of a shoen of the definitions
pub ended_is : {N : Type 0} (f : N → List ℕ) (h : Held N) (rules : Rules) (left : Option (Cell N)) (life : Life) (x : Shoen N) → LeavesBy rules f h left → ended_as rules life (shoen_of f h x) ≡ shoen_of f h (ended_with left life x)
ended_is f h rules left life x l = ap (λ t. let z : model.Shoen = record (shoen_of f h x) { life = life; control = t } in z) (left_is f h rules left x.origin x.control l)

aborted_one : {N : Type 0} (f : N → List ℕ) (h : Held N) (rules : Rules) (left : Option (Cell N)) (ss : List (Shoen N)) (n : ℕ) (x : Shoen N) → LeavesBy rules f h left →
    aborted_below rules (map (shoen_of f h) ss) n (shoen_of f h x) ≡ shoen_of f h (aborted_below_in left ss n x)
aborted_one {N = N} f h rules left ss n x l =
    ap (λ b. if is_living x.life && b then ended_as rules Aborted (shoen_of f h x) else shoen_of f h x) (on_path_is f h ss n x.number)
    ∙ changed_if f h (is_living x.life && is_on_path_in ss n x.number) x (ended_as rules Aborted (shoen_of f h x)) (ended_with left Aborted x) (ended_is f h rules left Aborted x l)

aborted_each : {N : Type 0} (f : N → List ℕ) (h : Held N) (rules : Rules) (left : Option (Cell N)) (ss : List (Shoen N)) (n : ℕ) (xs : List (Shoen N)) → LeavesBy rules f h left →
    map (aborted_below rules (map (shoen_of f h) ss) n) (map (shoen_of f h) xs) ≡ map (shoen_of f h) (map (aborted_below_in left ss n) xs)
aborted_each f h rules left ss n [] l = refl
aborted_each f h rules left ss n (x ∷ xs) l = ap₂ (λ (k : model.Shoen) (ks : List model.Shoen). k ∷ ks) (aborted_one f h rules left ss n x l) (aborted_each f h rules left ss n xs l)

-- an abort of the definitions' shoens
pub aborted_is : {N : Type 0} (f : N → List ℕ) (h : Held N) (rules : Rules) (left : Option (Cell N)) (ss : List (Shoen N)) (n : ℕ) → LeavesBy rules f h left →
    map (aborted_below rules (map (shoen_of f h) ss) n) (map (shoen_of f h) ss) ≡ map (shoen_of f h) (map (aborted_below_in left ss n) ss)
aborted_is f h rules left ss n l = aborted_each f h rules left ss n ss l
