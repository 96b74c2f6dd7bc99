-- Messages that are put on control streams, and what becomes of a machine.
use Rattle.kl1_machine.proofs.Words.{rules, ◌≡◌, ℕ, suc, ◌+◌, ◌-◌, List, [], length, refl, sym, ap, ◌∙◌, arith, Option, Some, None, option_map, Message, variable, replace, cell, message_term, message_nodes, State, change_shoen, replace_in_state, control, sent, refuse, with_entry, Transition, with_control_tail, sent_on, step, Reads, CellName, Cell, Variable, Held, Kept, HasPut, PutAs, Origin, Shoen, changed, with_control, Refusal, refusal_of, Reading, built, Means, meaning, origin_with, shoen_with, state_with, worked, RefusesMessage, AllowsMessage, same_state, replaced_state, changed_in, changed_count, base, Machine, made, IsMachine, Becomes, Turns, TurnsAs, having_shoens, usage_of, no_end}
use Rattle.kl1_model.specs.State as model
use Rattle.kl1_model.specs.code.Steps as model_sending
use Rattle.kl1_user_effects.specs.Messages.{Counts}
use Rattle.kl1_machine.proofs.Keeping.{Grows, grown_machine}

-- a shoen whose control stream goes on at the console with this variable
abbrev pub going_on : ℕ → Shoen CellName → Shoen CellName
going_on next h = record h { origin = option_map (with_control (Variable next)) h.origin }

going_read : (t : Means) (next : ℕ) → t (Variable next) ≡ variable next → (h : Shoen CellName) → with_control_tail (variable next) (shoen_with t h) ≡ shoen_with t (going_on next h)
going_read t next e h = ap (λ o. let z : model.Shoen = record (shoen_with t h) { origin = o } in z) (by_case h.origin)
  where
    by_case : (o : Option (Origin CellName)) → option_map (model_sending.origin_with (variable next)) (option_map (origin_with t) o) ≡ option_map (origin_with t) (option_map (with_control (Variable next)) o)
    by_case None = refl
    by_case (Some o) = ap (λ x. let z : Option model.Origin = Some (record { goal = t o.goal; forgotten = o.forgotten; reports = t o.reports; control = x }) in z) (sym e)

-- if the tail is no variable
pub nothing_sent : (n : ℕ) (message : Message) (x : Cell CellName) (m : Machine) (k : Kept CellName) → IsMachine m → Grows m k → PutAs built m.store.held k.held x message None → TurnsAs (λ f. sent_on n message (meaning f m.store.held x)) m (record m { store = k })
nothing_sent n message x m k i g put =
    let h = m.store.held in
    let j = grown_machine m k g i in
    record {
      turns = λ ms. record {
        inside = j.inside;
        states = λ f knows s. no_end n message (meaning f h x) (worked f s h (made m)) (put f knows.reads).1 ∙ ap (λ (z : Held CellName). worked f s z (made m)) (sym (put f knows.reads).0);
      };
      machine = j;
      named = record { name = refl; spelled = refl };
    }

-- a machine of which the control stream of shoen `n` goes on at the console with this variable, and a message is counted
abbrev pub with_sent : ℕ → Message → ℕ → Kept CellName → Machine → Machine
with_sent n message next k m = record (having_shoens (changed n (going_on next) m.shoens.shoens) m) { store = k; counts = record m.counts { variables = suc m.counts.variables; nodes = m.counts.nodes + message_nodes message } }

-- if it is one
pub puts_on : (n : ℕ) (message : Message) (x : Cell CellName) (next : ℕ) (m : Machine) (k : Kept CellName) → IsMachine m → HasPut built m.store.held k.held x message next → IsMachine (with_sent n message next k m) →
    TurnsAs (λ f. sent_on n message (meaning f m.store.held x)) m (with_sent n message next k m)
puts_on n message x next m k i put j =
    let h = m.store.held in
    let some = i.inside.some in
    let last = h.variables - 1 in
    let ss = m.shoens.shoens in
    let gs = m.goals.goals in
    let v = m.counts.variables in
    let w = m.counts.nodes in
    let M = message_term message in
    let N : suc last ≡ next = let a = put.next_is in omega (arith, a, some) in
    let us = changed n (going_on next) ss in
    record {
      turns = λ ms. record {
        inside = j.inside;
        states = λ f knows s.
            let T = meaning f h in
            let K = meaning f k.held in
            let z = base s (made m) in
            let S = state_with z T last gs ss in
            let is = put.each f knows.reads in
            let moved : ℕ → State = λ q. change_shoen n (with_control_tail (variable q)) (record (replace_in_state put.number (cell M (variable q)) S) { last_variable = q; variables = suc v; nodes = w + message_nodes message }) in
            let told : State → State = λ q. change_shoen n (with_control_tail (variable next)) (record q { last_variable = next; variables = suc v; nodes = w + message_nodes message }) in
            let more : State = record z { variables = suc v; nodes = w + message_nodes message } in
            ap (λ q. sent_on n message q S) (put.tail_is f)
            ∙ ap moved N
            ∙ ap told (replaced_state z put.number (cell M (variable next)) T last gs ss)
            ∙ ap told (same_state z h (λ y. replace put.number (cell M (variable next)) (T y)) K last gs ss (λ y q. sym (is.means y q)) i.inside.goals i.inside.shoens)
            ∙ ap (λ (xs : List model.Shoen). let q : State = record (state_with more K next gs ss) { shoens = xs } in q) (changed_in K n (going_on next) (with_control_tail (variable next)) (going_read K next is.tail) ss)
            ∙ ap (λ c. state_with (record more { last_shoen = c }) K next gs us) (sym (changed_count n (going_on next) ss))
            ∙ ap (λ q. state_with (record more { last_shoen = length us }) K q gs us) (let a = put.next_is in let b = put.variables in omega (arith, a, b, some));
      };
      machine = j;
      named = record { name = refl; spelled = refl };
    }

-- a machine with other counts
abbrev pub counting : ℕ → ℕ → Machine → Machine
counting variables nodes m = record m { counts = record m.counts { variables = variables; nodes = nodes } }

counted_machine : (variables nodes : ℕ) (m : Machine) → IsMachine m → IsMachine (counting variables nodes m)
counted_machine variables nodes m i = search rules

-- with the shoens and the counts that the code has
pub sent_as : (n : ℕ) (message : Message) (x : Cell CellName) (next nodes : ℕ) (m : Machine) (k : Kept CellName) (u : Machine) → IsMachine m → HasPut built m.store.held k.held x message next →
    Becomes (having_shoens (changed n (going_on next) m.shoens.shoens) (record m { store = k })) u → nodes ≡ message_nodes message → TurnsAs (λ f. sent_on n message (meaning f m.store.held x)) m (counting (u.counts.variables + 1) (u.counts.nodes + nodes) u)
sent_as n message x next nodes m k u i put b same =
    let y : Machine = having_shoens (changed n (going_on next) m.shoens.shoens) (record m { store = k }) in
    let more : suc m.counts.variables ≡ m.counts.variables + 1 = omega arith in
    rw (b.is, ← more, same)
    (puts_on n message x next m k i put (counted_machine (suc m.counts.variables) (m.counts.nodes + message_nodes message) y (rw b.is at b.machine)))

-- ---- a message that was sent

-- what is counted of a state that is worked on
counted : (m : Machine) (entries : ℕ) (f : Reading) (s : State) → s.entries ≡ entries → Counts (usage_of m entries) (base s (made m))
counted m entries f s e = record { most_are = refl; variables_are = refl; nodes_are = refl; entries_are = e }

-- a machine whose message is refused, for each reading
pub refused_as : (m : Machine) (entries n : ℕ) (message : Message) (r : Refusal) → RefusesMessage m.shoens.shoens (usage_of m entries) n message r → (f : Reading) → (s : State) → s.entries ≡ entries →
    step (worked f s m.store.held (made m)) (control n message) ≡ refuse (worked f s m.store.held (made m)) (refusal_of r)
refused_as m entries n message r e f s is = let h = m.store.held in e (meaning f h) (base s (made m)) (h.variables - 1) m.goals.goals (counted m entries f s is)

pub sends_as : (m u : Machine) (entries n : ℕ) (message : Message) (o : Origin CellName) → AllowsMessage m.shoens.shoens (usage_of m entries) n message o → Turns (λ f. sent_on n message (meaning f m.store.held o.control)) m u → (f : Reading) → Reads built f → (s : State) → s.entries ≡ entries →
    step (worked f s m.store.held (made m)) (control n message) ≡ record { state = with_entry (worked f s u.store.held (made u)); reply = sent }
sends_as m u entries n message o a p f reads s e =
    let h = m.store.held in
    a.steps (meaning f h) (base s (made m)) (h.variables - 1) m.goals.goals (counted m entries f s e)
    ∙ ap (λ (z : State). let t : Transition = record { state = with_entry z; reply = sent } in t) ((p []).states f (record { reads = reads; rows = tt }) s)
