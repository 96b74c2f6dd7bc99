-- Messages from the console: when they are refused.
use Rattle.kl1_user_effects.proofs.Words.{◌≡◌, ℕ, suc, ◌+◌, ◌<◌, ◌≤◌, ◌&&◌, not, Bool, true, false, if◌then◌else◌, List, refl, ap, ap₂, ◌∙◌, arith, subst, nat_lt, nat_le, find, Option, Some, None, option_map, option_and_then, le-leb, lt-leb, lt-ltb, le-ltb, Message, Limits, message_nodes, State, shoen_at, control, sent, syntax, no_shoen, shoen_ended, limit_passed, journal_full, refuse, with_entry, Transition, is_number, is_message, sent_on, send_living, send_to, step, CellName, Held, Goal, Origin, Shoen, shoen_in, has_number, lives_in, NoShoen, Ended, Limit, Journal, Means, origin_with, shoen_with, state_with, IsKeptIn, IsOriginIn, AreShoensIn, Usage, Counts, RefusesMessage, AllowsMessage}
use Rattle.kl1_user_effects.proofs.States.{found_in, found_shoen_in}

-- what the console keeps of shoen `n`
abbrev pub kept_at : ℕ → List (Shoen CellName) → Option (Origin CellName)
kept_at n ss = option_and_then (λ shoen. shoen.origin) (find (has_number n) ss)

-- what is kept is what a shoen that is found has
kept_by : (p : Option (Shoen CellName)) (o : Origin CellName) → option_and_then (λ shoen. shoen.origin) p ≡ Some o → (h : Shoen CellName) × ((p ≡ Some h) × (h.origin ≡ Some o))
kept_by None o e = absurd (cc)
kept_by (Some h) o e = (h, (refl, e))

-- it has the cells of the store
pub origin_in : (h : Held CellName) (n : ℕ) (ss : List (Shoen CellName)) (o : Origin CellName) → AreShoensIn h ss → kept_at n ss ≡ Some o → IsKeptIn h o
origin_in h n ss o i e =
    let k = kept_by (find (has_number n) ss) o e in
    subst (λ (z : Option (Origin CellName)). IsOriginIn h z) k.1.1 (found_shoen_in h n ss k.0 i k.1.0).origin

-- ---- when a message is refused

-- a message whose numbers are in range
sends : (ss : List (Shoen CellName)) (n : ℕ) (m : Message) (t : Means) (s : State) (last : ℕ) (goals : List (Goal CellName)) → is_number n ≡ true → is_message m ≡ true →
    step (state_with s t last goals ss) (control n m) ≡ send_to (state_with s t last goals ss) n m (option_map (shoen_with t) (shoen_in n ss))
sends ss n m t s last goals a b =
    let S = state_with s t last goals ss in
    ap₂ (λ x y. if x && y then send_to S n m (shoen_at n S.shoens) else refuse S syntax) a b
    ∙ ap (send_to S n m) (found_in t n ss)

-- if the console keeps nothing of the shoen
pub sends_none : (ss : List (Shoen CellName)) (u : Usage) (n : ℕ) (m : Message) → is_number n ≡ true → is_message m ≡ true → kept_at n ss ≡ None → RefusesMessage ss u n m NoShoen
sends_none ss u n m a b none t s last goals counts = sends ss n m t s last goals a b ∙ by_case (shoen_in n ss) none
  where
    by_case : (o : Option (Shoen CellName)) → option_and_then (λ h. h.origin) o ≡ None → send_to (state_with s t last goals ss) n m (option_map (shoen_with t) o) ≡ refuse (state_with s t last goals ss) no_shoen
    by_case None q = refl
    by_case (Some h) q = rw q

-- what is counted
abbrev pub used : Limits → ℕ → ℕ → ℕ → Usage
used most variables nodes entries = record { most = most; variables = variables; nodes = nodes; entries = entries }

-- a message whose numbers are in range, to a shoen of which the console keeps this, if this is counted
pub record IsAimed (ss : List (Shoen CellName)) (u : Usage) (n : ℕ) (m : Message) (o : Origin CellName) : Type 0 where
  pub number : is_number n ≡ true
  pub message : is_message m ≡ true
  pub kept : kept_at n ss ≡ Some o

-- what comes of it, by whether the shoen lives
by_life : (ss : List (Shoen CellName)) (u : Usage) (n : ℕ) (m : Message) (o : Origin CellName) (t : Means) (s : State) (last : ℕ) (goals : List (Goal CellName)) → IsAimed ss u n m o →
    step (state_with s t last goals ss) (control n m) ≡ (if lives_in ss n then send_living (state_with s t last goals ss) n m (origin_with t o) else refuse (state_with s t last goals ss) shoen_ended)
by_life ss u n m o t s last goals a =
    let h = kept_by (shoen_in n ss) o a.kept in
    let found = h.1.0 in
    let origin = h.1.1 in
    sends ss n m t s last goals a.number a.message ∙ rw (found, origin)

-- if the shoen has ended
pub sends_ended : {ss : List (Shoen CellName)} {u : Usage} {n : ℕ} {m : Message} {o : Origin CellName} → IsAimed ss u n m o → lives_in ss n ≡ false → RefusesMessage ss u n m Ended
sends_ended {ss} {u} {n} {m} {o} a dead t s last goals counts = by_life ss u n m o t s last goals a ∙ rw dead

-- what comes of a message to a shoen that lives, by whether there is room, and by whether the journal is full
abbrev by_room : State → Bool → Bool → Transition → Transition
by_room s c d x = if not c then refuse s limit_passed else (if not d then refuse s journal_full else x)

-- whether there is room
abbrev room_for : Limits → ℕ → ℕ → Message → Bool
room_for most v k m = nat_le (suc v) most.variables && nat_le (k + message_nodes m) most.nodes

with_room : (ss : List (Shoen CellName)) (u : Usage) (n : ℕ) (m : Message) (o : Origin CellName) (t : Means) (s : State) (last : ℕ) (goals : List (Goal CellName)) → IsAimed ss u n m o → lives_in ss n ≡ true → Counts u s →
    step (state_with s t last goals ss) (control n m) ≡
    by_room (state_with s t last goals ss) (room_for u.most u.variables u.nodes m) (nat_lt u.entries u.most.entries) (record { state = with_entry (sent_on n m (t o.control) (state_with s t last goals ss)); reply = sent })
with_room ss u n m o t s last goals a lives counts =
    let S = state_with s t last goals ss in
    let R : Transition = record { state = with_entry (sent_on n m (t o.control) S); reply = sent } in
    by_life ss u n m o t s last goals a
    ∙ ap (λ b. if b then send_living S n m (origin_with t o) else refuse S shoen_ended) lives
    ∙ ap (λ (l : Limits). by_room S (room_for l s.variables s.nodes m) (nat_lt s.entries l.entries) R) counts.most_are
    ∙ ap₂ (λ p q. by_room S (room_for u.most p q m) (nat_lt s.entries u.most.entries) R) counts.variables_are counts.nodes_are
    ∙ ap (λ e. by_room S (room_for u.most u.variables u.nodes m) (nat_lt e u.most.entries) R) counts.entries_are

-- if there is no room for a variable more
pub sends_crowded : {ss : List (Shoen CellName)} {u : Usage} {n : ℕ} {m : Message} {o : Origin CellName} → IsAimed ss u n m o → lives_in ss n ≡ true → u.most.variables ≤ u.variables → RefusesMessage ss u n m Limit
sends_crowded {ss} {u} {n} {m} {o} a lives many = λ t s last goals counts. with_room ss u n m o t s last goals a lives counts ∙ rw (lt-leb (suc u.variables) u.most.variables (omega (arith, many)))

-- if there is no room for its structures
pub sends_limited : {ss : List (Shoen CellName)} {u : Usage} {n : ℕ} {m : Message} {o : Origin CellName} → IsAimed ss u n m o → lives_in ss n ≡ true → u.variables < u.most.variables → u.most.nodes < u.nodes + message_nodes m → RefusesMessage ss u n m Limit
sends_limited {ss} {u} {n} {m} {o} a lives few many = λ t s last goals counts.
    with_room ss u n m o t s last goals a lives counts ∙ rw (le-leb (suc u.variables) u.most.variables few, lt-leb (u.nodes + message_nodes m) u.most.nodes many)

-- if the journal is full
pub sends_full : {ss : List (Shoen CellName)} {u : Usage} {n : ℕ} {m : Message} {o : Origin CellName} → IsAimed ss u n m o → lives_in ss n ≡ true → u.variables < u.most.variables → u.nodes + message_nodes m ≤ u.most.nodes → u.most.entries ≤ u.entries → RefusesMessage ss u n m Journal
sends_full {ss} {u} {n} {m} {o} a lives few fits full = λ t s last goals counts.
    with_room ss u n m o t s last goals a lives counts ∙ rw (le-leb (suc u.variables) u.most.variables few, le-leb (u.nodes + message_nodes m) u.most.nodes fits, le-ltb u.entries u.most.entries full)

-- if it may be sent
pub sends_allowed : {ss : List (Shoen CellName)} {u : Usage} {n : ℕ} {m : Message} {o : Origin CellName} → IsAimed ss u n m o → lives_in ss n ≡ true → u.variables < u.most.variables → u.nodes + message_nodes m ≤ u.most.nodes → u.entries < u.most.entries → AllowsMessage ss u n m o
sends_allowed {ss} {u} {n} {m} {o} a lives few fits journal = record {
  found = a.kept;
  message = a.message;
  has_variables = few;
  has_nodes = fits;
  journal = journal;
  steps = λ t s last goals counts.
      with_room ss u n m o t s last goals a lives counts ∙ rw (le-leb (suc u.variables) u.most.variables few, le-leb (u.nodes + message_nodes m) u.most.nodes fits, lt-ltb u.entries u.most.entries journal);
}
