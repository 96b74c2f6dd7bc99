-- Which shoens terminate doesn't depend on what is left of their control streams.
use Rattle.kl1_user_effects.proofs.Words.{◌≡◌, ℕ, ◌==◌, not, ◌&&◌, Bool, true, false, if◌then◌else◌, List, [], ◌∷◌, refl, sym, ap, ap₂, ◌∙◌, Rules, Terminated, nil, State, is_living, is_living_child, has_goal, ends_now, ended_at, ending_of, life_at}
use Rattle.std.specs.Prelude.{map}
use Rattle.kl1_model.specs.State.{Shoen}
use Rattle.kl1_model.specs.Ending.{ended_as}
use Rattle.kl1_user_effects.proofs.Lists.{maps_both, any_by, found_by}

-- a shoen without its control stream
abbrev bare : Shoen → Shoen
bare h = record h { control = nil }

-- a state without control streams
abbrev bared : State → State
bared s = record s { shoens = map bare s.shoens }

ends_bared : (n : ℕ) (s : State) → ends_now n (bared s) ≡ ends_now n s
ends_bared n s =
    ap₂ (λ b c. b && not (has_goal n s) && not c) (found_by bare (λ h. h.number == n) (λ h. is_living h.life) (λ h. h.number == n) (λ h. is_living h.life) (λ h. refl) (λ h. refl) s.shoens) (any_by bare (is_living_child n) (is_living_child n) (λ h. refl) s.shoens)

-- of a shoen that ends nothing is left that one whose life ends alone doesn't have
over_bared : (rules : Rules) (b : Bool) (h : Shoen) → bare (if b then ended_as rules Terminated h else h) ≡ (if b then record (bare h) { life = Terminated } else bare h)
over_bared rules true h = refl
over_bared rules false h = refl

life_bared : (b : Bool) (h : Shoen) → bare (if b then record h { life = Terminated } else h) ≡ (if b then record (bare h) { life = Terminated } else bare h)
life_bared true h = refl
life_bared false h = refl

ended_bared : (n : ℕ) (s : State) → bared (ended_at n s) ≡ life_at n (bared s)
ended_bared n s =
    ap (λ (hs : List Shoen). let z : State = record s { shoens = hs } in z)
    (maps_both bare (λ h. if h.number == n then ended_as s.rules Terminated h else h) (λ h. if h.number == n then record h { life = Terminated } else h) bare (λ h. over_bared s.rules (h.number == n) h) s.shoens)

lives_bared : (n : ℕ) (s : State) → bared (life_at n s) ≡ life_at n (bared s)
lives_bared n s =
    ap (λ (hs : List Shoen). let z : State = record s { shoens = hs } in z)
    (maps_both bare (λ h. if h.number == n then record h { life = Terminated } else h) (λ h. if h.number == n then record h { life = Terminated } else h) bare (λ h. life_bared (h.number == n) h) s.shoens)

-- those of these shoens that terminate, in order, each if the lives of those before it have ended
abbrev pub ending_lives : List ℕ → State → List ℕ
ending_lives [] s = []
ending_lives (n ∷ ns) s = if ends_now n s then n ∷ ending_lives ns (life_at n s) else ending_lives ns s

-- one more, by whether it ends
one_more : (n : ℕ) (a b : Bool) (xs ys us vs : List ℕ) → a ≡ b → xs ≡ us → ys ≡ vs → (if a then n ∷ xs else ys) ≡ (if b then n ∷ us else vs)
one_more n a b xs ys us vs p q r = rw (p, q, r)

ending_bared : (ns : List ℕ) (s : State) → ending_of ns s ≡ ending_lives ns (bared s)
ending_bared [] s = refl
ending_bared (n ∷ ns) s =
    one_more n (ends_now n s) (ends_now n (bared s)) (ending_of ns (ended_at n s)) (ending_of ns s) (ending_lives ns (life_at n (bared s))) (ending_lives ns (bared s)) (sym (ends_bared n s))
    (ending_bared ns (ended_at n s) ∙ ap (ending_lives ns) (ended_bared n s)) (ending_bared ns s)

ending_bare : (ns : List ℕ) (s : State) → ending_lives ns (bared s) ≡ ending_lives ns s
ending_bare [] s = refl
ending_bare (n ∷ ns) s =
    one_more n (ends_now n (bared s)) (ends_now n s) (ending_lives ns (life_at n (bared s))) (ending_lives ns (bared s)) (ending_lives ns (life_at n s)) (ending_lives ns s) (ends_bared n s)
    (ap (ending_lives ns) (sym (lives_bared n s)) ∙ ending_bare ns (life_at n s)) (ending_bare ns s)

-- they are those that terminate
pub ending_is_lives : (ns : List ℕ) (s : State) → ending_of ns s ≡ ending_lives ns s
ending_is_lives ns s = ending_bared ns s ∙ ending_bare ns s
