-- A table that can be put back.
use Rattle.std.proofs.Common.{◌≡◌, ℕ, suc, ◌+◌, ◌-◌, ◌^◌, ◌<◌, ◌≤◌, cond, List, [], ◌∷◌, ◌++◌, length, take, map, refl, sym, ap, ◌∙◌, subst, arith}
use Rattle.std.proofs.lemmas.List.{length-set, length_push, length-take-le}
use Rattle.kl1_shoen_paths.specs.declared.tracked.Was.{Was}
use Rattle.kl1_shoen_paths.specs.Tracked.{put_back}
use Rattle.kl1_shoen_paths.proofs.Putting.{put_whole, take_push}
use Rattle.kl1_goals.specs.declared.goal.Goal.{Goal}
use Rattle.kl1_goals.specs.declared.slot.Slot.{Slot}
use Rattle.kl1_goals.specs.declared.tally.Tally.{Tally}
use Rattle.kl1_goals.specs.declared.begun.Begun.{Begun}
use Rattle.kl1_goals.specs.Lists.{is_monitor}
use Rattle.kl1_goals.specs.Slots.{rank_in, goals_in, numbers_of, emptied, changed_at, AreBelow, AreSlots, IsWithout}
use Rattle.kl1_goals.specs.Tallies.{tally_at, lowered, raised, HasChanged}
use Rattle.kl1_goals.specs.Chains.{last_at, AreChained, HaveSameCounts}
use Rattle.kl1_goals.specs.Tables.{Tabled, IsNext}
use Rattle.kl1_goals.specs.Keeping.{Parts, IsTable, AreTables, parts, parts_then, places_then, kept_then}
use Rattle.kl1_goals.proofs.Linking.{linked, tally_counts, counts_exchanged, chained_push, chained_counted, raised_last, lowered_last}
use Rattle.kl1_goals.proofs.Changing.{linked_to, goals_push, below_added}
use Rattle.kl1_goals.proofs.Chaining.{chained_emptied}
use Rattle.kl1_goals.proofs.Shaping.{below_changed}
use Rattle.kl1_goals.proofs.Shoens.{lowered_tally, raised_tally}
use Rattle.kl1_goals.proofs.Flagging.{alive_lowered, alive_raised}
use Rattle.kl1_goals.proofs.Tabling.{empty_table}

-- a beginning of a table as it is
pub record Begins {N : Type 0} (p : Parts N) (b : Begun N) : Type 0 where
  pub slots : b.slots.items ≡ []
  pub places : b.places ≡ length p.slots
  pub empty : b.empty ≡ p.empty
  pub tallies : b.tallies.items ≡ []
  pub shoens : b.shoens ≡ length p.tallies
  pub alive : b.alive ≡ p.alive
  pub last : b.last ≡ p.last

pub begun_places : {N : Type 0} (p : Parts N) (b : Begun N) → Begins p b → places_then b p.slots ≡ p.slots
begun_places p b i = put_whole b.slots.items p.slots b.places i.slots (let e = i.places in omega (arith, e))

pub begun_kept : {N : Type 0} (p : Parts N) (b : Begun N) → Begins p b → kept_then b p.tallies ≡ p.tallies
begun_kept p b i = put_whole b.tallies.items p.tallies b.shoens i.tallies (let e = i.shoens in omega (arith, e))

-- a table whose event begins
pub begun_tables : {N : Type 0} (p : Parts N) (b : Begun N) → IsTable p → Begins p b → AreTables p b
begun_tables p b h i =
    let T : List ℕ → Type 0 = λ rs. IsTable (record p { ranks = rs }) in
    record {
      now = h;
      was = rw (begun_places p b i, begun_kept p b i, i.empty, i.alive, i.last) (subst T h.slots.ranked h);
      places = let e = i.places in omega (arith, e);
      shoens = let e = i.shoens in omega (arith, e);
    }

pub no_tables : {N : Type 0} (b : Begun N) → Begins {N = N} (parts [] 0 [] [] 0 0) b → AreTables {N = N} (parts [] 0 [] [] 0 0) b
no_tables {N = N} b i = begun_tables (parts [] 0 [] [] 0 0) b (empty_table {N = N}) i

-- a table of which empty places were dropped
pub tidied_table : {N : Type 0} (p : Parts N) (ss : List (Slot N)) (empty : ℕ) (ranks : List ℕ) (ts : List Tally) → IsTable p → AreSlots ss empty ranks → AreChained ss ts → HaveSameCounts p.tallies ts → goals_in ss ≡ goals_in p.slots → AreBelow (suc p.last) (numbers_of ss) →
    IsTable (parts ss empty ranks ts p.alive p.last)
tidied_table p ss empty ranks ts h slots chained counts goals below = record {
  slots = slots;
  tallied = λ n. rw goals (tally_counts n (goals_in p.slots) (tally_at p.tallies n) (tally_at ts n) (h.tallied n) (counts.counts n));
  chained = chained;
  alive = rw goals h.alive;
  below = below;
}

-- ---- a table that changes

-- what is seen of a table
abbrev pub seen_as : {N : Type 0} → Parts N → Begun N → Tabled N
seen_as p b = record { goals = goals_in p.slots; shoens = length p.tallies; last = p.last; begun = goals_in (places_then b p.slots); begun_shoens = b.shoens; begun_last = b.last }

-- what was noted still says what a table was when the event began
pub record HasNoted {N : Type 0} (ss us : List (Slot N)) (ts vs : List Tally) (b c : Begun N) : Type 0 where
  pub slots : places_then c us ≡ places_then b ss
  pub tallies : kept_then c vs ≡ kept_then b ts
  pub rest : c ≡ record b { slots = c.slots; tallies = c.tallies }
  pub longer : length ss ≤ length us
  pub more : length ts ≤ length vs

pub moved_tables : {N : Type 0} (p q : Parts N) (b c : Begun N) → AreTables p b → IsTable q → HasNoted p.slots q.slots p.tallies q.tallies b c → AreTables q c
moved_tables {N = N} p q b c r h n = record {
  now = h;
  was = rw (n.slots, n.tallies, ap (λ (x : Begun N). x.empty) n.rest, ap (λ (x : Begun N). x.alive) n.rest, ap (λ (x : Begun N). x.last) n.rest) r.was;
  places = let w = r.places in let l = n.longer in omega (arith, w, l, ap (λ (x : Begun N). x.places) n.rest);
  shoens = let w = r.shoens in let l = n.more in omega (arith, w, l, ap (λ (x : Begun N). x.shoens) n.rest);
}

-- what is seen of a table of which no other shoens are known
pub noted_view : {N : Type 0} (p q : Parts N) (b c : Begun N) → HasNoted p.slots q.slots p.tallies q.tallies b c → length q.tallies ≡ length p.tallies → seen_as q c ≡ record (seen_as p b) { goals = goals_in q.slots; last = q.last }
noted_view {N = N} p q b c n e = rw (n.slots, e, ap (λ (x : Begun N). x.shoens) n.rest, ap (λ (x : Begun N). x.last) n.rest) refl

-- ---- what is noted

pub noted_then : {N : Type 0} (ss us xs : List (Slot N)) (ts vs ys : List Tally) (b c d : Begun N) → HasNoted ss us ts vs b c → HasNoted us xs vs ys c d → HasNoted ss xs ts ys b d
noted_then {N = N} ss us xs ts vs ys b c d n m = record {
  slots = m.slots ∙ n.slots;
  tallies = m.tallies ∙ n.tallies;
  rest = m.rest ∙ ap (λ (x : Begun N). let z : Begun N = record x { slots = d.slots; tallies = d.tallies } in z) n.rest;
  longer = let k = n.longer in let l = m.longer in omega (arith, k, l);
  more = let k = n.more in let l = m.more in omega (arith, k, l);
}

pub noted_slots : {N : Type 0} (ss us : List (Slot N)) (ts : List Tally) (b c : Begun N) → c ≡ record b { slots = c.slots } → places_then c us ≡ places_then b ss → length ss ≤ length us → HasNoted ss us ts ts b c
noted_slots {N = N} ss us ts b c rest slots longer = record {
  slots = slots;
  tallies = ap (λ (x : Begun N). kept_then x ts) rest;
  rest = rest ∙ ap (λ l. let z : Begun N = record b { slots = c.slots; tallies = l } in z) (sym (ap (λ (x : Begun N). x.tallies) rest));
  longer = longer;
  more = omega arith;
}

pub noted_tallies : {N : Type 0} (ss : List (Slot N)) (ts vs : List Tally) (b c : Begun N) → c ≡ record b { tallies = c.tallies } → kept_then c vs ≡ kept_then b ts → length ts ≤ length vs → HasNoted ss ss ts vs b c
noted_tallies {N = N} ss ts vs b c rest tallies more = record {
  slots = ap (λ (x : Begun N). places_then x ss) rest;
  tallies = tallies;
  rest = rest ∙ ap (λ l. let z : Begun N = record b { slots = l; tallies = c.tallies } in z) (sym (ap (λ (x : Begun N). x.slots) rest));
  longer = omega arith;
  more = more;
}

-- a place that stands after all that were there
pub noted_push : {N : Type 0} (ss us : List (Slot N)) (t : Slot N) (ts : List Tally) (b : Begun N) → b.places ≤ length ss → us ≡ ss ++ t ∷ [] → HasNoted ss us ts ts b b
noted_push ss us t ts b le is = noted_slots ss us ts b b refl (ap (places_then b) is ∙ ap (put_back b.slots.items) (take_push ss t b.places le)) (omega (arith, ap length is, length_push ss t))

-- a shoen that is known after all that were there
pub noted_open : {N : Type 0} (ss : List (Slot N)) (t : Tally) (ts : List Tally) (b : Begun N) → b.shoens ≤ length ts → HasNoted ss ss ts (ts ++ t ∷ []) b b
noted_open ss t ts b le = noted_tallies ss ts (ts ++ t ∷ []) b b refl (ap (put_back b.tallies.items) (take_push ts t b.shoens le)) (omega (arith, length_push ts t))

-- ---- a goal less, and a goal more

-- a table without the goal of a place
pub record Removes {N : Type 0} (p q : Parts N) (k : ℕ) (x : Slot N) : Type 0 where
  pub slots : AreSlots q.slots q.empty q.ranks
  pub place : q.slots ≡ changed_at emptied k p.slots
  pub goals : IsWithout x.goal (goals_in p.slots) (goals_in q.slots)
  pub tallies : HasChanged x.goal.shoen (lowered x.goal) p.tallies q.tallies
  pub alive : q.alive ≡ cond (is_monitor x.goal) p.alive (p.alive - 1)
  pub last : q.last ≡ p.last

pub removed_table : {N : Type 0} (p q : Parts N) (k : ℕ) (x : Slot N) → IsTable p → Removes p q k x → IsTable q
removed_table p q k x h is = record {
  slots = is.slots;
  tallied = λ n. rw (is.tallies.at n) (lowered_tally n x.goal (goals_in p.slots) (goals_in q.slots) (tally_at p.tallies n) is.goals (h.tallied n));
  chained = chained_counted q.slots x.goal.shoen (lowered x.goal) p.tallies q.tallies (chained_emptied p.slots q.slots k p.tallies h.chained is.place) is.tallies (lowered_last (is_monitor x.goal));
  alive = is.alive ∙ alive_lowered x.goal (goals_in p.slots) (goals_in q.slots) p.alive is.goals h.alive;
  below = rw is.last (below_changed (suc p.last) k emptied p.slots q.slots is.place (λ t. refl) h.below);
}

-- a table with a goal more, after the others, which is linked to the last place of its shoen, and the shoen to it by `link`; then it is counted
pub record Adds {N : Type 0} (p q : Parts N) (g : Goal N) (before link : ℕ) (ts : List Tally) : Type 0 where
  pub next : IsNext g (goals_in p.slots) (length p.tallies)
  pub later : p.last < g.number
  pub slots : AreSlots q.slots q.empty q.ranks
  pub place : q.slots ≡ p.slots ++ linked_to before g ∷ []
  pub before_is : before ≡ last_at p.tallies g.shoen
  pub link_is : link ≡ length p.slots + 1
  pub room : link < 2 ^ 32
  pub exchanged : HasChanged g.shoen (linked link) p.tallies ts
  pub counted : HasChanged g.shoen (raised g) ts q.tallies
  pub alive : q.alive ≡ cond (is_monitor g) p.alive (p.alive + 1)
  pub last : q.last ≡ g.number

pub added_table : {N : Type 0} (p q : Parts N) (g : Goal N) (before link : ℕ) (ts : List Tally) → IsTable p → Adds p q g before link ts → IsTable q
added_table p q g before link ts h is =
    let gs = goals_in p.slots in
    let place = linked_to before g in
    let same = (counts_exchanged p.tallies ts g.shoen link is.exchanged).counts in
    let goals : goals_in q.slots ≡ gs ++ g ∷ [] = ap goals_in is.place ∙ goals_push p.slots g before in
    let chained = chained_push p.slots place p.tallies ts link h.chained is.link_is is.room is.next.low is.next.high is.before_is is.exchanged in
    record {
      slots = is.slots;
      tallied = λ n. rw (goals, is.counted.at n) (raised_tally n g gs (tally_at ts n) (tally_counts n gs (tally_at p.tallies n) (tally_at ts n) (h.tallied n) (same n)) is.next.monitor);
      chained = rw is.place (chained_counted (p.slots ++ place ∷ []) g.shoen (raised g) ts q.tallies chained is.counted (raised_last (is_monitor g) g));
      alive = is.alive ∙ rw goals (alive_raised g gs p.alive h.alive);
      below = rw (is.last, is.place) (below_added p.last p.slots g before h.below is.later);
    }

-- ---- a table that was put back

pub put_back_length : {A : Type 0} (ws : List (Was A)) (xs : List A) → length (put_back ws xs) ≡ length xs
put_back_length [] xs = refl
put_back_length (w ∷ ws) xs = length-set (put_back ws xs) w.place w.value ∙ put_back_length ws xs

-- what a beginning is after all that was noted is put back
pub record IsSpent {N : Type 0} (b c : Begun N) : Type 0 where
  pub slots : c.slots.items ≡ []
  pub tallies : c.tallies.items ≡ []
  pub rest : c ≡ record b { slots = c.slots; tallies = c.tallies }

kept_length : {N : Type 0} (p : Parts N) (b : Begun N) → AreTables p b → length (kept_then b p.tallies) ≡ b.shoens
kept_length p b r = put_back_length b.tallies.items (take b.shoens p.tallies) ∙ length-take-le b.shoens p.tallies r.shoens

spent_begins : {N : Type 0} (p : Parts N) (b c : Begun N) → AreTables p b → IsSpent b c → Begins (parts_then p b) c
spent_begins {N = N} p b c r i = record {
  slots = i.slots;
  places = ap (λ (x : Begun N). x.places) i.rest ∙ sym (put_back_length b.slots.items (take b.places p.slots) ∙ length-take-le b.places p.slots r.places);
  empty = ap (λ (x : Begun N). x.empty) i.rest;
  tallies = i.tallies;
  shoens = ap (λ (x : Begun N). x.shoens) i.rest ∙ sym (kept_length p b r);
  alive = ap (λ (x : Begun N). x.alive) i.rest;
  last = ap (λ (x : Begun N). x.last) i.rest;
}

pub back_tables : {N : Type 0} (p : Parts N) (us : List (Slot N)) (more : List ℕ) (vs : List Tally) (b c : Begun N) → AreTables p b → us ≡ places_then b p.slots → vs ≡ kept_then b p.tallies → more ≡ map rank_in us → IsSpent b c →
    AreTables (parts us b.empty more vs b.alive b.last) c
back_tables p us more vs b c r places kept ranked i =
    let P : List ℕ → Type 0 = λ rs. AreTables (parts (places_then b p.slots) b.empty rs (kept_then b p.tallies) b.alive b.last) c in
    rw (places, kept) (subst P (sym (ranked ∙ ap (map rank_in) places)) (begun_tables (parts_then p b) c r.was (spent_begins p b c r i)))

-- what is seen of a table that was put back
pub back_view : {N : Type 0} (p : Parts N) (us : List (Slot N)) (more : List ℕ) (vs : List Tally) (b c : Begun N) → AreTables p b → us ≡ places_then b p.slots → vs ≡ kept_then b p.tallies → IsSpent b c →
    let was = goals_in (places_then b p.slots) in
    seen_as (parts us b.empty more vs b.alive b.last) c ≡ record { goals = was; shoens = b.shoens; last = b.last; begun = was; begun_shoens = b.shoens; begun_last = b.last }
back_view {N = N} p us more vs b c r places kept i =
    let same = begun_places (parts_then p b) c (spent_begins p b c r i) in
    rw (places, kept, same, kept_length p b r, ap (λ (x : Begun N). x.shoens) i.rest, ap (λ (x : Begun N). x.last) i.rest) refl
