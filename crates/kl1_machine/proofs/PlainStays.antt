-- Cells that stand in goals and shoens, when a shoen reports or joins.
use Rattle.kl1_machine.proofs.Words.{◌≡◌, ℕ, suc, true, List, [], ◌∷◌, ◌++◌, map, refl, sym, ap, ap₂, ◌∙◌, map-append, variable, CellName, Cell, Kept, Shoen, Tree, has_number, changed, Reading, goal_with, shoen_with, torn, tailed, Machine, bare, IsPlain, IsPlainShoen, ArePlain, Bool, false, if◌then◌else◌, Some, None, Term, atom, EmptyList, has_forgetting, Reads, built, Atom}
use Rattle.std.proofs.lemmas.Bool.{cases_Bool}
use Rattle.std.proofs.Common.{inl, inr}
use Rattle.std.specs.Prelude.{unwrap_or}
use Rattle.kl1_model.specs.declared.rules.Rules.{Rules}
use Rattle.kl1_model.specs.State as model
use Rattle.kl1_machine.proofs.Opening.{monitor_for, goal_for, Joins, joined_is}

-- ---- a report

-- a change that leaves each shoen's cells plain leaves those of all so
changed_plain : (f g : Reading) (n : ℕ) (F : Shoen CellName → Shoen CellName) → ((h : Shoen CellName) → IsPlainShoen f g h → IsPlainShoen f g (F h)) → (hs : List (Shoen CellName)) → map (shoen_with (bare f)) hs ≡ map (shoen_with (bare g)) hs →
    map (shoen_with (bare f)) (changed n F hs) ≡ map (shoen_with (bare g)) (changed n F hs)
changed_plain f g n F stays [] a = refl
changed_plain f g n F stays (h ∷ hs) a =
    let first : shoen_with (bare f) h ≡ shoen_with (bare g) h = cc in
    let rest : map (shoen_with (bare f)) hs ≡ map (shoen_with (bare g)) hs = cc in
    let others = changed_plain f g n F stays hs rest in
    elim (cases_Bool (has_number n h)) [
      | inl here ↦ simp here (ap₂ (λ (k : model.Shoen) (ks : List model.Shoen). k ∷ ks) (stays h first) others)
      | inr there ↦ simp there (ap₂ (λ (k : model.Shoen) (ks : List model.Shoen). k ∷ ks) first others)
    ]

pub reported_plain : (f g : Reading) (m : Machine) (k : Kept CellName) (t : Tree CellName) (n reports : ℕ) (F : Shoen CellName → Shoen CellName) → t ≡ record m.shoens { shoens = changed n F m.shoens.shoens } → ((h : Shoen CellName) → IsPlainShoen f g h → IsPlainShoen f g (F h)) → ArePlain f g m →
    ArePlain f g (record m { store = k; shoens = t; counts = record m.counts { reports = reports } })
reported_plain f g m k t n reports F is stays p =
    record { goals = p.goals; shoens = rw is (changed_plain f g n F stays m.shoens.shoens p.shoens) }

-- what is left of a stream is read the same by all that read the names of the language
nil_plain : (f g : Reading) → Reads built f → Reads built g → bare f (Atom (built EmptyList)) ≡ bare g (Atom (built EmptyList))
nil_plain f g one two = ap atom (one.texts EmptyList ∙ sym (two.texts EmptyList))

pub torn_plain : (rules : Rules) (f g : Reading) → Reads built f → Reads built g → (h : Shoen CellName) → IsPlainShoen f g h → IsPlainShoen f g (torn rules h)
torn_plain rules f g one two h p =
    ap₂ (λ (k : model.Shoen) (t : Term). let z : model.Shoen = record k { is_broken = true; tail = t } in z) p (by_rules (has_forgetting rules))
  where
    by_rules : (b : Bool) → bare f (unwrap_or (if b then Some (Atom (built EmptyList)) else None) h.tail) ≡ bare g (unwrap_or (if b then Some (Atom (built EmptyList)) else None) h.tail)
    by_rules true = nil_plain f g one two
    by_rules false = ap (λ (k : model.Shoen). k.tail) p

pub tailed_plain : (f g : Reading) (next : ℕ) (h : Shoen CellName) → IsPlainShoen f g h → IsPlainShoen f g (tailed next h)
tailed_plain f g next h p = ap (λ (k : model.Shoen). let z : model.Shoen = record k { tail = variable next } in z) p

-- ---- a shoen that joins

both_read : {A B : Type 0} (F G : A → B) (xs ys : List A) → map F xs ≡ map G xs → map F ys ≡ map G ys → map F (xs ++ ys) ≡ map G (xs ++ ys)
both_read F G xs ys p q = map-append F xs ys ∙ ap₂ (λ as' bs. as' ++ bs) p q ∙ sym (map-append G xs ys)

pub joined_plain : (f g : Reading) (h : Shoen CellName) (x : Cell CellName) (room : ℕ) (m u v w : Machine) → Joins h x room m u v w → IsPlainShoen f g h × IsPlain f g x → ArePlain f g m → ArePlain f g w
joined_plain f g h x room m u v w j own p =
    let F = goal_with (bare f) in
    let G = goal_with (bare g) in
    let first = monitor_for m.counts.last_goal h in
    let second = goal_for (suc m.counts.last_goal) h x in
    let shoen = own.0 in
    let cell = own.1 in
    let goal : map F (second ∷ []) ≡ map G (second ∷ []) = cc in
    let one : map (shoen_with (bare f)) (h ∷ []) ≡ map (shoen_with (bare g)) (h ∷ []) = cc in
    rw (joined_is h x room m u v w j) (record {
      goals = both_read F G (m.goals.goals ++ first ∷ []) (second ∷ []) (both_read F G m.goals.goals (first ∷ []) p.goals refl) goal;
      shoens = both_read (shoen_with (bare f)) (shoen_with (bare g)) m.shoens.shoens (h ∷ []) p.shoens one;
    })
