-- What is found when a goal is looked at.
use Rattle.kl1_ready.proofs.Words.{◌≡◌, ℕ, true, List, refl, ap, subst, ◌∙◌, Option, None, option_map, Rules, Module, Term, path_within, awaited_by_term, awaited_by_substitute, Reads, CellName, Cell, Qualified, Hook, Held, qualified_term, Predicate, Kind, IsKind, HasPredicate, StandsAs, SubstituteStands, hangs_on_same, Monitor, Reduces, Substitutes, Shoen, shoen_in, is_enabled_at, Program, contents, HangsOnEach, Reading, built, meaning, aim, Knows, control_at, front_with, monitor_clause, awaited_by_monitor, kind_at, IsReadyBy, IsReadyAt, AreCompiled, Call, Calls, Clause, Finds, FoundAs, Numbered, call_at, clauses_of, map, sym, IsCall, Asks, Standing, clause_in}

-- a goal whose number hangs on what it waits for, and that stands so
pub ready_by : (rules : Rules) (h : Held CellName) (hooks : List Hook) (kind : Kind CellName) (p : Predicate CellName) (n : ℕ) (vs ws : List ℕ) (standing : Standing) →
    ((f : Reading) → Reads built f → (modules : List Module) (t : Term) → IsKind f h t kind → HasPredicate f h modules kind p → StandsAs rules modules t vs standing) →
    ws ≡ vs → HangsOnEach hooks n ws → IsReadyBy rules h hooks kind p n standing
ready_by rules h hooks kind p n vs ws standing stands same hangs =
    record {
      settled = λ f ms shoens shoen x reads k has.
          let s = stands f reads (contents ms) (aim f h x) k has in
          record { standing = s.clause_is; does = s.does; hung = hangs_on_same hooks n vs (awaited_by_term rules (contents ms) (aim f h x)) s.awaits (subst (HangsOnEach hooks n) same hangs) };
    }

-- a cell is a goal of this kind, and these are the clauses of the predicate that goals of the kind call
pub record IsOfKind (program : Program) (h : Held CellName) (x : Qualified CellName) (kind : Kind CellName) (p : Predicate CellName) : Type 0 where
  pub is : (f : Reading) → Reads built f → IsKind f h (qualified_term f h x) kind
  pub has : (f : Reading) → Knows program.loaded f → (k : Held CellName) (t : Term) → IsKind f k t kind → HasPredicate f k (contents program.loaded) kind p

-- the goal for a cell, if its kind and its predicate are found
pub ready_goal : (program : Program) (shoens : List (Shoen CellName)) (h : Held CellName) (hooks : List Hook) (n shoen : ℕ) (x : Qualified CellName) (kind : Kind CellName) (p : Predicate CellName) (standing : Standing) → IsOfKind program h x kind p → IsReadyBy program.rules h hooks kind p n standing →
    IsReadyAt program shoens h hooks n shoen (Reduces x) standing
ready_goal program shoens h hooks n shoen x kind p standing i s = record { settled = λ f knows. let k = kind_at f h x kind (i.is f knows.reads) in s.settled f program.loaded shoens shoen x knows.reads k (i.has f knows h (aim f h x) k) }

-- a substitute whose number hangs on what it waits for, and that stands so
pub ready_substitute : (h : Held CellName) (hooks : List Hook) (x : Cell CellName) (n : ℕ) (vs : List ℕ) (standing : Standing) → ((f : Reading) → Reads built f → SubstituteStands (meaning f h x) vs standing) → HangsOnEach hooks n vs → (program : Program) (shoens : List (Shoen CellName)) (shoen : ℕ) →
    IsReadyAt program shoens h hooks n shoen (Substitutes x) standing
ready_substitute h hooks x n vs standing stands hangs program shoens shoen =
    record {
      settled = λ f knows.
          let s = stands f knows.reads in
          record { standing = s.clause_is; does = s.does; hung = hangs_on_same hooks n vs (awaited_by_substitute (meaning f h x)) s.awaits hangs };
    }

pub no_control : (shoens : List (Shoen CellName)) (n : ℕ) → None ≡ shoen_in n shoens → None ≡ control_at shoens n
no_control shoens n e = ap (λ o. option_map (λ (k : Shoen CellName). k.control) o) e

-- a monitor, by what is left of its shoen's control stream, if that shoen is there
pub ready_monitor : (program : Program) (shoens : List (Shoen CellName)) (h : Held CellName) (hooks : List Hook) (n shoen : ℕ) (x : Option (Cell CellName)) (standing : Standing) → x ≡ control_at shoens shoen →
    ((f : Reading) → Reads built f → clause_in standing ≡ monitor_clause (front_with (meaning f h) x)) → ((f : Reading) → Reads built f → HangsOnEach hooks n (awaited_by_monitor (front_with (meaning f h) x))) → IsReadyAt program shoens h hooks n shoen Monitor standing
ready_monitor program shoens h hooks n shoen x standing is stands hangs = record {
  settled = λ f knows. record {
    standing = stands f knows.reads ∙ ap (λ y. monitor_clause (front_with (meaning f h) y)) is;
    does = tt;
    hung = subst (λ y. HangsOnEach hooks n (awaited_by_monitor (front_with (meaning f h) y))) is (hangs f knows.reads);
  };
}

-- the shoen of number 0, which isn't there, holds no goal back
pub nobody_lets : (shoens : List (Shoen CellName)) (work : List ℕ) → is_enabled_at shoens work 0 ≡ true
unfolding path_within
nobody_lets shoens work = refl

-- ---- predicates that goals call

-- what was found of a predicate is that of each goal which calls it
pub call_has : (ms : List Numbered) (kind : Kind CellName) (c : Call CellName) (found : Option (Predicate CellName)) (p : Predicate CellName) → kind ≡ Calls c → Finds ms c.module_name c.name c.count found →
    ((f : CellName → List ℕ) (cs : List Clause) → FoundAs f cs found → AreCompiled (map f p.names.now) p.clauses.now cs) → (f : Reading) → Knows ms f → (h : Held CellName) (t : Term) → IsKind f h t kind → HasPredicate f h (contents ms) kind p
call_has ms kind c found p e finds compiled f knows h t is =
    let called : IsCall f h t c = subst (IsKind f h t) e is in
    let asks : Asks f c.module_name c.name c.count (call_at f h c) = record { module_is = refl; name_is = refl; counted = called.counted } in
    subst (λ k. HasPredicate f h (contents ms) k p) (sym e) (compiled f (clauses_of (contents ms) (call_at f h c)) (finds f knows.reads knows.rows (call_at f h c) asks))
