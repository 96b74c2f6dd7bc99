-- Paths, charges and ends of shoens as they are kept, and as the definitions have them.
use Rattle.kl1_user_effects.proofs.Words.{◌≡◌, ℕ, ◌-◌, ◌==◌, not, ◌&&◌, false, if◌then◌else◌, List, [], ◌∷◌, map, refl, ap, ap₂, ◌∙◌, inl, inr, option_map, unwrap_or, find, count_by, list_any, Terminated, is_among, State, is_living, parents_of, path_within, path, charged_of, has_living_child, lives, ends_now, ending_of, has_reached, newly_exhausted, CellName, Held, is_goal_of, Shoen, has_number, changed, parents_in, path_in, charged_in, is_living_child_of, lives_in, has_reached_in, Numbered, Reading, Means, meaning, shoen_with, Made, worked, IsMadeIn, Turns, ended_each, life_at, terminated, ends_in, ending_in, ended_in, reached_in, cases_Bool, map-map, Bool, EndsLives, EndsOne, Goal, Tree, append-nil, append_assoc, sym, true, ◌++◌}
use Rattle.kl1_model.specs.State as model
use Rattle.kl1_model.specs.Tree as model_tree
use Rattle.kl1_user_effects.proofs.Lives.{ending_lives, ending_is_lives}
use Rattle.kl1_user_effects.proofs.Works.{with_changed, changes, turns_then, changed_turns, turns_none}
use Rattle.kl1_user_effects.proofs.Goals.{has_goal_read}
use Rattle.kl1_user_effects.proofs.Lists.{maps_as, any_by, found_by}

-- ---- paths and charges

pub parents_read : (t : Means) (ss : List (Shoen CellName)) → parents_of (map (shoen_with t) ss) ≡ parents_in ss
parents_read t ss = map-map (λ (h : model.Shoen). h.parent) (shoen_with t) ss

pub path_read : (t : Means) (ss : List (Shoen CellName)) (n : ℕ) → path (map (shoen_with t) ss) n ≡ path_in ss n
path_read t ss n = ap (λ (ps : List ℕ). path_within n ps n) (parents_read t ss)

pub charged_read : (f : Reading) (s : State) (h : Held CellName) (w : Made) (n : ℕ) → charged_of (worked f s h w) n ≡ charged_in w.shoens w.work n
charged_read f s h w n = ap (λ (ps : List ℕ). count_by (λ k. is_among n (path_within k ps k)) w.work) (parents_read (meaning f h) w.shoens)

-- a shoen, terminated if it has this number
abbrev ended_if : ℕ → Shoen CellName → Shoen CellName
ended_if n h = if has_number n h then terminated h else h

-- what doesn't depend on its life stays
still : {A : Type 0} (p : Shoen CellName → A) → ((h : Shoen CellName) → p (terminated h) ≡ p h) → (n : ℕ) (h : Shoen CellName) → p (ended_if n h) ≡ p h
still p e n h = elim (cases_Bool (has_number n h)) [ inl q ↦ rw q (e h) | inr q ↦ rw q ]

-- parents do when a shoen terminates
parents_ended : (n : ℕ) (ss : List (Shoen CellName)) → parents_in (changed n terminated ss) ≡ parents_in ss
parents_ended n ss =
    map-map (λ (h : Shoen CellName). h.parent) (ended_if n) ss
    ∙ maps_as (λ (h : Shoen CellName). (ended_if n h).parent) (λ h. h.parent) (still (λ h. h.parent) (λ h. refl) n) ss

-- and so do paths
pub path_ended : (n m : ℕ) (ss : List (Shoen CellName)) → path_in (changed n terminated ss) m ≡ path_in ss m
path_ended n m ss = ap (λ (ps : List ℕ). path_within m ps m) (parents_ended n ss)

-- ---- who terminates

pub lives_read : (f : Reading) (s : State) (h : Held CellName) (w : Made) (n : ℕ) → lives n (worked f s h w) ≡ lives_in w.shoens n
lives_read f s h w n = found_by (shoen_with (meaning f h)) (λ x. x.number == n) (λ x. is_living x.life) (has_number n) (λ x. is_living x.life) (λ x. refl) (λ x. refl) w.shoens

pub ends_read : (f : Reading) (s : State) (h : Held CellName) (w : Made) (n : ℕ) → ends_now n (worked f s h w) ≡ ends_in w.goals w.shoens n
ends_read f s h w n =
    ap₂ (λ b c. b && not c && not (has_living_child n (worked f s h w))) (lives_read f s h w n) (has_goal_read (meaning f h) n w.goals)
    ∙ ap (λ b. lives_in w.shoens n && not (list_any (is_goal_of n) w.goals) && not b) (any_by (shoen_with (meaning f h)) (model_tree.is_living_child n) (is_living_child_of n) (λ x. refl) w.shoens)

pub ended_read : (f : Reading) (s : State) (h : Held CellName) (w : Made) (n : ℕ) → life_at n (worked f s h w) ≡ worked f s h (with_changed n terminated w)
ended_read f s h w n = changes s (meaning f h) (h.variables - 1) w n terminated (λ x. record x { life = Terminated }) (λ x. refl)

lives_end : (f : Reading) (s : State) (h : Held CellName) (ns : List ℕ) (w : Made) → ending_lives ns (worked f s h w) ≡ ending_in w.goals ns w.shoens
lives_end f s h [] w = refl
lives_end f s h (n ∷ ns) w =
    ap (λ b. if b then n ∷ ending_lives ns (life_at n (worked f s h w)) else ending_lives ns (worked f s h w)) (ends_read f s h w n)
    ∙ ap₂ (λ (xs ys : List ℕ). if ends_in w.goals w.shoens n then n ∷ xs else ys) (ap (ending_lives ns) (ended_read f s h w n) ∙ lives_end f s h ns (with_changed n terminated w)) (lives_end f s h ns w)

-- those that terminate are those of the definitions
pub ending_read : (f : Reading) (s : State) (h : Held CellName) (ns : List ℕ) (w : Made) → ending_of ns (worked f s h w) ≡ ending_in w.goals ns w.shoens
ending_read f s h ns w = ending_is_lives ns (worked f s h w) ∙ lives_end f s h ns w

-- what is made with these shoens terminated
abbrev pub with_ended : List ℕ → Made → Made
with_ended ns w = record w { shoens = ended_in ns w.shoens }

pub ends_turn : (ms : List Numbered) (h : Held CellName) (ns : List ℕ) (w : Made) → IsMadeIn h w → Turns ms (λ f. ended_each ns) h h w (with_ended ns w)
ends_turn ms h [] w i = turns_none ms (λ f s. s) h w i (λ f knows s. refl)
ends_turn ms h (n ∷ ns) w i =
    let first = changed_turns ms h w n terminated (λ x. record x { life = Terminated }) i (λ s a. record { control = a.control; tail = a.tail; origin = a.origin; low = a.low; high = a.high }) (λ f s. refl) in
    turns_then ms (λ f. life_at n) (λ f. ended_each ns) h h h w (with_changed n terminated w) (with_ended (n ∷ ns) w) first (ends_turn ms h ns (with_changed n terminated w) first.inside)

-- ---- who has reached its allowance

pub reached_one : (f : Reading) (s : State) (h : Held CellName) (w : Made) (n : ℕ) → has_reached (worked f s h w) n ≡ has_reached_in w.shoens w.work n
reached_one f s h w n =
    ap (λ c. unwrap_or (option_map (λ (x : model.Shoen). x.allowance == c) (find (λ (x : model.Shoen). x.number == n) (map (shoen_with (meaning f h)) w.shoens))) false) (charged_read f s h w n)
    ∙ found_by (shoen_with (meaning f h)) (λ x. x.number == n) (λ x. x.allowance == charged_in w.shoens w.work n) (has_number n) (λ x. x.allowance == charged_in w.shoens w.work n) (λ x. refl) (λ x. refl) w.shoens

pub reached_read : (f : Reading) (s : State) (h : Held CellName) (w : Made) (ending ns : List ℕ) → newly_exhausted (worked f s h w) ending ns ≡ reached_in w.shoens w.work ending ns
reached_read f s h w ending [] = refl
reached_read f s h w ending (n ∷ ns) =
    ap₂ (λ b (xs : List ℕ). if b && not (is_among n ending) then n ∷ xs else xs) (reached_one f s h w n) (reached_read f s h w ending ns)

-- that a shoen terminates changes no allowance and no charge
reached_ended : (n m : ℕ) (ss : List (Shoen CellName)) (work : List ℕ) → has_reached_in (changed n terminated ss) work m ≡ has_reached_in ss work m
reached_ended n m ss work =
    let has : ℕ → Shoen CellName → Bool = λ c h. h.allowance == c in
    ap (λ (ps : List ℕ). unwrap_or (option_map (has (count_by (λ k. is_among m (path_within k ps k)) work)) (find (has_number m) (changed n terminated ss))) false) (parents_ended n ss)
    ∙ found_by (ended_if n) (has_number m) (has (charged_in ss work m)) (has_number m) (has (charged_in ss work m)) (still (has_number m) (λ h. refl) n) (still (has (charged_in ss work m)) (λ h. refl) n) ss

pub reached_all : (ns : List ℕ) (m : ℕ) (ss : List (Shoen CellName)) (work : List ℕ) → has_reached_in (ended_in ns ss) work m ≡ has_reached_in ss work m
reached_all [] m ss work = refl
reached_all (n ∷ ns) m ss work = reached_all ns m (changed n terminated ss) work ∙ reached_ended n m ss work

pub paths_all : (ns : List ℕ) (m : ℕ) (ss : List (Shoen CellName)) → path_in (ended_in ns ss) m ≡ path_in ss m
paths_all [] m ss = refl
paths_all (n ∷ ns) m ss = paths_all ns m (changed n terminated ss) ∙ path_ended n m ss

-- so they can be found after others have terminated
pub reached_after : (ns : List ℕ) (ss : List (Shoen CellName)) (work ending ms : List ℕ) → reached_in (ended_in ns ss) work ending ms ≡ reached_in ss work ending ms
reached_after ns ss work ending [] = refl
reached_after ns ss work ending (m ∷ ms) =
    ap₂ (λ b (xs : List ℕ). if b && not (is_among m ending) then m ∷ xs else xs) (reached_all ns m ss work) (reached_after ns ss work ending ms)

-- ---- lives that end along a path

ended_more : (ns : List ℕ) (n : ℕ) (ss : List (Shoen CellName)) → ended_in (ns ++ n ∷ []) ss ≡ changed n terminated (ended_in ns ss)
ended_more [] n ss = refl
ended_more (m ∷ ns) n ss = ended_more ns n (changed m terminated ss)

-- the shoens on a path so far have been looked at: what is left gives the same answer
pub record StillEnds (goals : List (Goal CellName)) (old now : Tree CellName) (n at : ℕ) (ending : List ℕ) : Type 0 where
  pub left : ending ++ ending_in goals (path_in now.shoens at) now.shoens ≡ ending_in goals (path_in old.shoens n) old.shoens
  pub tree : now ≡ record old { shoens = ended_in ending old.shoens }

pub first_end : (goals : List (Goal CellName)) (t : Tree CellName) (n : ℕ) (ending : List ℕ) → ending ≡ [] → StillEnds goals t t n n ending
first_end goals t n ending e = rw e (record { left = refl; tree = refl })

pub next_end : (goals : List (Goal CellName)) (old now new : Tree CellName) (n at up : ℕ) (before after : List ℕ) → path_in now.shoens at ≡ at ∷ path_in now.shoens up → StillEnds goals old now n at before → EndsOne goals now new at before after → StillEnds goals old new n up after
next_end goals old now new n at up before after path i one =
    let gone = changed at terminated now.shoens in
    let rest : Bool → List ℕ = λ c. if c then at ∷ ending_in goals (path_in now.shoens up) gone else ending_in goals (path_in now.shoens up) now.shoens in
    -- what is left of the path, by whether the shoen ends
    let left : (c : Bool) → ends_in goals now.shoens at ≡ c → before ++ rest c ≡ ending_in goals (path_in old.shoens n) old.shoens =
    λ c e. ap (λ b. before ++ rest b) (sym e) ∙ ap (λ (ps : List ℕ). before ++ ending_in goals ps now.shoens) (sym path) ∙ i.left in
    elim (cases_Bool (ends_in goals now.shoens at)) [
      | inl e ↦
          let is : new ≡ record now { shoens = gone } = one.tree_is ∙ rw e in
          let more : after ≡ before ++ at ∷ [] = one.ending_is ∙ rw e in
          rw (is, more) (record {
            left = append_assoc before (at ∷ []) (ending_in goals (path_in gone up) gone) ∙ ap (λ (ps : List ℕ). before ++ at ∷ ending_in goals ps gone) (path_ended at up now.shoens) ∙ left true e;
            tree =
                ap (λ (x : Tree CellName). let z : Tree CellName = record x { shoens = changed at terminated x.shoens } in z) i.tree
                ∙ ap (λ (ss : List (Shoen CellName)). let z : Tree CellName = record old { shoens = ss } in z) (sym (ended_more before at old.shoens));
          })
      | inr e ↦
          let is : new ≡ now = one.tree_is ∙ rw e in
          let same : after ≡ before = one.ending_is ∙ rw e (append-nil before) in
          rw (is, same) (record { left = left false e; tree = i.tree })
    ]

pub last_end : (goals : List (Goal CellName)) (old now : Tree CellName) (n at : ℕ) (ending : List ℕ) → path_in now.shoens at ≡ [] → StillEnds goals old now n at ending → EndsLives goals old now n ending
last_end goals old now n at ending path i = record {
  ending_is = sym (append-nil ending) ∙ ap (λ (ps : List ℕ). ending ++ ending_in goals ps now.shoens) (sym path) ∙ i.left;
  tree_is = i.tree;
}
