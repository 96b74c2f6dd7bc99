-- Runs of many accounts' events, one event more.
use Rattle.std.proofs.Common.{◌≡◌, ℕ, ◌<◌, ◌+◌, ◌==◌, Bool, true, false, if◌then◌else◌, List, [], ◌∷◌, ◌++◌, refl, sym, ap, ◌∙◌, subst, length, get_or, inl, inr, arith, map, take}
use Rattle.std.proofs.lemmas.List.{length-map, map-append, length-append, length-set, get_or-set_other, take_more, length-take}
use Rattle.std.proofs.lemmas.Bool.{cases_eq, eq-eqb, ne_eqb}
use Rattle.kl1_model_server.specs.Journal.{Kept, Done, done}
use Rattle.kl1_model.specs.Event as model
use Rattle.kl1_user_events.specs.declared.event.Event.{Event}
use Rattle.kl1_user_events.specs.declared.reply.Reply.{Reply}
use Rattle.kl1_user_events.specs.Views.{event_of, reply_of}
use Rattle.kl1_journal.specs.Keeping.{Fits}
use Rattle.kl1_model_server.specs.Alone.{Deed, Told, only, replies_at, alone}
use Rattle.kl1_journal.specs.Keeping.{Held, nobody, kept_of}
use Rattle.kl1_world.specs.Worlds.{account_in, deed_of, events_of, IsRun, Answers}

-- one event more, of the account or of another
only_here : (u : ℕ) (ds : List Deed) (d : Deed) → (d.account == u) ≡ true → only u (ds ++ d ∷ []) ≡ only u ds ++ d.event ∷ []
only_here u [] d e = rw e refl
only_here u (c ∷ ds) d e = by (c.account == u) (only_here u ds d e)
  where
    by : (b : Bool) → only u (ds ++ d ∷ []) ≡ only u ds ++ d.event ∷ [] → (if b then c.event ∷ only u (ds ++ d ∷ []) else only u (ds ++ d ∷ [])) ≡ (if b then c.event ∷ only u ds else only u ds) ++ d.event ∷ []
    by true h = ap (λ es. c.event ∷ es) h
    by false h = h

only_else : (u : ℕ) (ds : List Deed) (d : Deed) → (d.account == u) ≡ false → only u (ds ++ d ∷ []) ≡ only u ds
only_else u [] d e = rw e refl
only_else u (c ∷ ds) d e = ap (λ es. if c.account == u then c.event ∷ es else es) (only_else u ds d e)

replies_here : (u : ℕ) (ds : List Deed) (rs : List model.Reply) (d : Deed) (r : model.Reply) → length rs ≡ length ds → (d.account == u) ≡ true → replies_at u (ds ++ d ∷ []) (rs ++ r ∷ []) ≡ replies_at u ds rs ++ r ∷ []
replies_here u [] [] d r n e = rw e refl
replies_here u [] (x ∷ rs) d r n e = absurd (omega (arith, n))
replies_here u (c ∷ ds) [] d r n e = absurd (omega (arith, n))
replies_here u (c ∷ ds) (x ∷ rs) d r n e = by (c.account == u) (replies_here u ds rs d r (omega (arith, n)) e)
  where
    by : (b : Bool) → replies_at u (ds ++ d ∷ []) (rs ++ r ∷ []) ≡ replies_at u ds rs ++ r ∷ [] → (if b then x ∷ replies_at u (ds ++ d ∷ []) (rs ++ r ∷ []) else replies_at u (ds ++ d ∷ []) (rs ++ r ∷ [])) ≡ (if b then x ∷ replies_at u ds rs else replies_at u ds rs) ++ r ∷ []
    by true h = ap (λ es. x ∷ es) h
    by false h = h

replies_else : (u : ℕ) (ds : List Deed) (rs : List model.Reply) (d : Deed) (r : model.Reply) → length rs ≡ length ds → (d.account == u) ≡ false → replies_at u (ds ++ d ∷ []) (rs ++ r ∷ []) ≡ replies_at u ds rs
replies_else u [] [] d r n e = rw e refl
replies_else u [] (x ∷ rs) d r n e = absurd (omega (arith, n))
replies_else u (c ∷ ds) [] d r n e = absurd (omega (arith, n))
replies_else u (c ∷ ds) (x ∷ rs) d r n e = ap (λ es. if c.account == u then x ∷ es else es) (replies_else u ds rs d r (omega (arith, n)) e)

-- what came of one event more
abbrev with_last : Told → model.Event → Told
with_last x e = record { kept = (done x.kept e).kept; replies = x.replies ++ (done x.kept e).reply ∷ [] }

-- one reply more in front
abbrev with_reply : model.Reply → Told → Told
with_reply r x = record { kept = x.kept; replies = r ∷ x.replies }

alone_more : (s : Kept) (es : List model.Event) (e : model.Event) → alone s (es ++ e ∷ []) ≡ with_last (alone s es) e
alone_more s [] e = refl
alone_more s (d ∷ es) e = ap (with_reply (done s d).reply) (alone_more (done s d).kept es e)

-- one event more
pub run_more : (start now new : List Held) (ds : List Deed) (rs : List Reply) (n : ℕ) (e : model.Event) (after : List Reply) → IsRun start now ds rs → length now ≡ length start → length rs ≡ length ds → Answers now new n e rs after →
    IsRun start new (ds ++ record { account = n; event = e } ∷ []) after
run_more start now new ds rs n e after run many count a u f less fits =
    let d : Deed = record { account = n; event = e } in
    let put : map reply_of after ≡ map reply_of rs ++ reply_of a.reply ∷ [] = ap (map reply_of) a.put ∙ map-append reply_of rs (a.reply ∷ []) in
    let length_is : length (map reply_of rs) ≡ length ds = length-map rs reply_of ∙ count in
    let told = replies_at u ds (map reply_of rs) in
    elim (cases_eq n u) [
      | inl here ↦
          let old : Kept = kept_of f (account_in start u) in
          let is : (n == u) ≡ true = eq-eqb n u here in
          let fit : Fits (account_in new n).0.names f = subst (λ k. Fits (account_in new k).0.names f) (sym here) fits in
          let before = run u f less (subst (λ k. Fits (account_in now k).0.names f) here (a.fits f fit)) in
          let one = subst (λ k. done (kept_of f (account_in now k)) e ≡ record { kept = kept_of f (account_in new k); reply = reply_of a.reply }) here (a.step_is f fit) in
          ap (alone old) (only_here u ds d is) ∙ alone_more old (only u ds) e ∙ ap (λ x. with_last x e) before
          ∙ ap (λ (x : Done). let z : Told = record { kept = x.kept; replies = told ++ x.reply ∷ [] } in z) one
          ∙ ap (λ (ts : List model.Reply). let z : Told = record { kept = kept_of f (account_in new u); replies = ts } in z) (sym (ap (replies_at u (ds ++ d ∷ [])) put ∙ replies_here u ds (map reply_of rs) d (reply_of a.reply) length_is is))
      | inr apart ↦
          let isnt : (n == u) ≡ false = ne_eqb n u apart in
          let same : account_in new u ≡ account_in now u = ap (λ xs. account_in xs u) a.others ∙ get_or-set_other now n u (account_in new n) nobody (λ p. apart (sym p)) in
          let P : Held → Type 0 = λ x. Fits x.0.names f in
          ap (alone (kept_of f (account_in start u))) (only_else u ds d isnt) ∙ run u f less (subst P same fits)
          ∙ ap (λ (x : Held). let z : Told = record { kept = kept_of f x; replies = told } in z) (sym same)
          ∙ ap (λ (ts : List model.Reply). let z : Told = record { kept = kept_of f (account_in new u); replies = ts } in z) (sym (ap (replies_at u (ds ++ d ∷ [])) put ∙ replies_else u ds (map reply_of rs) d (reply_of a.reply) length_is isnt))
    ]

length_of_take : {X : Type 0} (n : ℕ) (xs : List X) → n < length xs → length (take n xs) ≡ n
length_of_take n xs less = omega (arith, length-take n xs, less)

-- one event of a list more
pub run_next : (start now new : List Held) (events : List (ℕ × Event)) (done : ℕ) (x : ℕ × Event) (rs after : List Reply) → done < length events → x ≡ get_or events done x → IsRun start now (events_of (take done events)) rs → length now ≡ length start → length rs ≡ done → Answers now new x.0 (event_of x.1) rs after →
    IsRun start new (events_of (take (done + 1) events)) after
run_next start now new events done x rs after less at run many count a =
    let seam : events_of (take (done + 1) events) ≡ events_of (take done events) ++ deed_of x ∷ [] =
    ap events_of (take_more events done x less) ∙ map-append deed_of (take done events) (get_or events done x ∷ []) ∙ ap (λ y. events_of (take done events) ++ deed_of y ∷ []) (sym at) in
    let long : length rs ≡ length (events_of (take done events)) = count ∙ sym (length-map (take done events) deed_of ∙ length_of_take done events less) in
    subst (λ ds. IsRun start new ds after) (sym seam) (run_more start now new (events_of (take done events)) rs x.0 (event_of x.1) after run many long a)

-- as many accounts and one reply more
pub as_many_after : (now new : List Held) (n : ℕ) (e : model.Event) (rs after : List Reply) → Answers now new n e rs after → length new ≡ length now
as_many_after now new n e rs after a = ap length a.others ∙ length-set now n (account_in new n)

pub one_reply_more : (now new : List Held) (n : ℕ) (e : model.Event) (rs after : List Reply) → Answers now new n e rs after → length after ≡ length rs + 1
one_reply_more now new n e rs after a = ap length a.put ∙ length-append rs (a.reply ∷ [])
