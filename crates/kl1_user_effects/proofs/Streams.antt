-- Reports, the end of a stream, exceptions and unifications.
use Rattle.kl1_user_effects.proofs.Words.{◌≡◌, ℕ, ◌-◌, List, sym, ap, ◌∙◌, subst, inl, inr, find, Some, BuiltIn, text_of, Term, variable, replace, replaced, nil, mgu, State, report, close, closed_at, exception, failure, close_of, raised, unified, equation, CellName, Qualified, Cell, Bound, Clash, Held, IsIn, Grown, UnifiesAs, EndsAt, ClosedAs, IsException, Goal, Shoen, has_number, Numbered, Reading, built, meaning, goal_with, aim, Made, worked, IsMadeIn, Turns, cases_Bool}
use Rattle.kl1_user_effects.proofs.States.{replaced_state, all_replaced}
use Rattle.kl1_user_effects.proofs.Works.{base, read_as, finds, rereads, turns_then, turns_as, grown_made}

-- ---- the end of a stream

ends_at : (f : Reading) (h k : Held CellName) (s : State) (w : Made) (t : Term) → IsMadeIn h w → k.variables ≡ h.variables → EndsAt f h k t → closed_at t (worked f s h w) ≡ worked f s k w
ends_at f h k s w (variable v) i same e =
    replaced_state (base s w) v nil (meaning f h) (h.variables - 1) w.goals w.shoens
    ∙ rereads s (λ x. replace v nil (meaning f h x)) (meaning f k) (h.variables - 1) h w (λ x j. sym (e x)) i
    ∙ ap (λ n. read_as s (meaning f k) (n - 1) w) (sym same)
ends_at f h k s w _ i same e = ap (λ (x : Held CellName). worked f s x w) (sym e)

pub closed_turns : (ms : List Numbered) (h k : Held CellName) (w : Made) (n : ℕ) (sh : Shoen CellName) → Grown h k → IsMadeIn h w → find (has_number n) w.shoens ≡ Some sh → ClosedAs built h k sh.tail sh.is_broken → Turns ms (λ f. close n) h k w w
closed_turns ms h k w n sh g i e c = record {
  inside = grown_made h k w g i;
  states = λ f knows s.
      ap (λ o. close_of o (worked f s h w)) (finds s (meaning f h) (h.variables - 1) w n (Some sh) e)
      ∙ elim (cases_Bool sh.is_broken) [
        | inl b ↦ rw b (ap (λ (x : Held CellName). worked f s x w) (sym (c.broken b)))
        | inr b ↦ rw b (ends_at f h k s w (meaning f h sh.tail) i c.variables (c.whole b f knows.reads))
      ];
}

-- ---- exceptions

-- a store that has grown by cells that nothing stands for
pub grown_turns : (ms : List Numbered) (h k : Held CellName) (w : Made) → Grown h k → k.variables ≡ h.variables → ((f : Reading) (x : Cell CellName) → IsIn h x → meaning f k x ≡ meaning f h x) → IsMadeIn h w → Turns ms (λ f s. s) h k w w
grown_turns ms h k w g same others i = record {
  inside = grown_made h k w g i;
  states = λ f knows s.
      rereads s (meaning f h) (meaning f k) (h.variables - 1) h w (λ x j. sym (others f x j)) i
      ∙ ap (λ n. read_as s (meaning f k) (n - 1) w) (sym same);
}

-- a store has grown by an exception, and has what is made
pub record HasException (h full : Held CellName) (w : Made) (kind : BuiltIn) (goal message : Cell CellName) : Type 0 where
  pub grown : Grown h full
  pub excepts : IsException built h full kind goal message
  pub inside : IsMadeIn h w

pub raised_turns : (ms : List Numbered) (h full k : Held CellName) (w v : Made) (n : ℕ) (kind : BuiltIn) (goal message : Cell CellName) → HasException h full w kind goal message →
    (IsMadeIn full w → Turns ms (λ f. report n (meaning f full message)) full k w v) → Turns ms (λ f. report n (exception (text_of kind) (meaning f h goal))) h k w v
raised_turns ms h full k w v n kind goal message r next =
    let e = r.excepts in
    let first = grown_turns ms h full w r.grown e.variables e.others r.inside in
    turns_as ms (λ f. report n (meaning f full message)) (λ f. report n (exception (text_of kind) (meaning f h goal))) h k w v
    (λ f knows s. ap (λ t. report n t (worked f s h w)) (sym (e.means f knows.reads)))
    (turns_then ms (λ f s. s) (λ f. report n (meaning f full message)) h full k w w v first (next first.inside))

-- ---- unifications

pub solved_turns : (ms : List Numbered) (h k : Held CellName) (w : Made) (goal : Goal CellName) (cell : Qualified CellName) (left right : Cell CellName) → IsMadeIn h w → UnifiesAs built h k left right Bound →
    Turns ms (λ f s. unified (goal_with (meaning f h) goal) (aim f h cell) (mgu (equation (meaning f h left) (meaning f h right))) s) h k w w
solved_turns ms h k w goal cell left right i u = record {
  inside = grown_made h k w u.1 i;
  states = λ f knows s.
      let solved = u.0 f knows.reads in
      ap (λ o. unified (goal_with (meaning f h) goal) (aim f h cell) o (worked f s h w)) solved.solves
      ∙ all_replaced solved.replacements (base s w) (meaning f h) (h.variables - 1) w.goals w.shoens
      ∙ rereads s (λ x. replaced solved.replacements (meaning f h x)) (meaning f k) (h.variables - 1) h w (λ x j. sym (solved.everywhere x)) i
      ∙ ap (λ m. read_as s (meaning f k) (m - 1) w) (sym u.2);
}

pub clash_turns : (ms : List Numbered) (h mid k : Held CellName) (w v : Made) (goal : Goal CellName) (cell : Qualified CellName) (left right : Cell CellName) → UnifiesAs built h mid left right Clash →
    Turns ms (λ f. raised (goal_with (meaning f mid) goal) failure (aim f mid cell)) mid k w v → Turns ms (λ f s. unified (goal_with (meaning f h) goal) (aim f h cell) (mgu (equation (meaning f h left) (meaning f h right))) s) h k w v
clash_turns ms h mid k w v goal cell left right u t =
    turns_as ms (λ f. raised (goal_with (meaning f h) goal) failure (aim f h cell)) (λ f s. unified (goal_with (meaning f h) goal) (aim f h cell) (mgu (equation (meaning f h left) (meaning f h right))) s) h k w v
    (λ f knows s. ap (λ o. unified (goal_with (meaning f h) goal) (aim f h cell) o (worked f s h w)) (u.0 f knows.reads)) (subst (λ x. Turns ms (λ f. raised (goal_with (meaning f x) goal) failure (aim f x cell)) x k w v) u.1 t)
