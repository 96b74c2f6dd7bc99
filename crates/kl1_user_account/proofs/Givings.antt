-- The goal of an answer: what stands for its variables, numbered from 1 by first occurrence, is what stands for them by the definitions.
use Rattle.std.proofs.Common.{◌≡◌, ℕ, zero, suc, ◌+◌, ◌-◌, ◌≤◌, ◌==◌, ◌||◌, not, ◌&&◌, Bool, true, false, List, [], ◌∷◌, ◌++◌, map, length, Option, Some, None, if◌then◌else◌, refl, sym, ap, ap₂, ◌∙◌, ◌⊎◌, inl, inr, arith}
use Rattle.std.specs.List.{list_any}
use Rattle.std.proofs.lemmas.Bool.{cases_eq, ne_eqb, true≢false, false≢true}
use Rattle.kl1_model.specs.Term.{Term, variable, integer, atom, structure, Terms, none, more, substituted, each_substituted}
use Rattle.kl1_model.specs.Module.{is_among}
use Rattle.kl1_model.specs.Meaning.{variables_of, variables_in}
use Rattle.kl1_model.specs.Telling.{Asked, stands_at, new_among, place_among, given_variable, is_gone, given_told, Given}
use Rattle.kl1_match.specs.GoalCells.{new_in, told_at}
use Rattle.kl1_term.specs.Telling.{anew}
use Rattle.kl1_term.proofs.Renumbering.{place_same, place_other, among_same, among_other, among_kept, among_new, goes_on}
use Rattle.kl1_term.proofs.Anew.{place_from}
use Rattle.kl1_user_account.specs.Giving.{tell}

-- those of numbers that aren't told
abbrev pub untold : Option Asked → List ℕ → List ℕ
untold a [] = []
untold a (m ∷ ms) = if stands_at a m then untold a ms else m ∷ untold a ms

-- as many are new as aren't told
pub count_new : (a : Option Asked) (ms : List ℕ) → new_in (map (tell a) ms) ≡ length (untold a ms)
count_new a [] = refl
count_new a (m ∷ ms) = by (stands_at a m) (count_new a ms)
  where
    by : (b : Bool) → new_in (map (tell a) ms) ≡ length (untold a ms) → new_in ((if b then Some m else None) ∷ map (tell a) ms) ≡ length (if b then untold a ms else m ∷ untold a ms)
    by true rest = rest
    by false rest = ap suc rest

untold_more : (a : Option Asked) (ms : List ℕ) (n : ℕ) (b : Bool) → stands_at a n ≡ b → untold a (ms ++ n ∷ []) ≡ (if b then untold a ms else untold a ms ++ n ∷ [])
untold_more a [] n true e = ap (λ b. if◌then◌else◌ {A = List ℕ} b [] (n ∷ [])) e
untold_more a [] n false e = ap (λ b. if◌then◌else◌ {A = List ℕ} b [] (n ∷ [])) e
untold_more a (m ∷ ms) n true e = ap (λ xs. if stands_at a m then xs else m ∷ xs) (untold_more a ms n true e)
untold_more a (m ∷ ms) n false e = ap (λ xs. if stands_at a m then xs else m ∷ xs) (untold_more a ms n false e) ∙ by (stands_at a m)
  where
    by : (b : Bool) → (if b then untold a ms ++ n ∷ [] else m ∷ untold a ms ++ n ∷ []) ≡ (if b then untold a ms else m ∷ untold a ms) ++ n ∷ []
    by true = refl
    by false = refl

-- one that isn't told is among those that aren't just if it is among all
untold_among : (a : Option Asked) (ms : List ℕ) (n : ℕ) → stands_at a n ≡ false → is_among n (untold a ms) ≡ is_among n ms
untold_among a [] n e = refl
untold_among a (m ∷ ms) n e = by (stands_at a m) refl (untold_among a ms n e)
  where
    by : (b : Bool) → stands_at a m ≡ b → is_among n (untold a ms) ≡ is_among n ms → is_among n (if b then untold a ms else m ∷ untold a ms) ≡ is_among n (m ∷ ms)
    by true s rest = rest ∙ sym (among_other m n ms (λ is. false≢true (sym e ∙ (ap (stands_at a) (sym is) ∙ s))))
    by false s rest = ap (λ b. (n == m) || b) rest

-- those that are new by the definitions are those of all that aren't told
pub new_are : (a : Option Asked) (seen ns : List ℕ) → new_among a (untold a seen) ns ≡ untold a (new_among None seen ns)
new_are a seen [] = refl
new_are a seen (n ∷ ns) = by (stands_at a n) (is_among n seen) refl refl (λ k. new_are a k ns)
  where
    Goal : Bool → Bool → Type 0
    Goal s w = (if s || is_among n (untold a seen) then new_among a (untold a seen) ns else new_among a (untold a seen ++ n ∷ []) ns)
        ≡ untold a (if w then new_among None seen ns else new_among None (seen ++ n ∷ []) ns)

    by : (s w : Bool) → stands_at a n ≡ s → is_among n seen ≡ w → ((k : List ℕ) → new_among a (untold a k) ns ≡ untold a (new_among None k ns)) → Goal s w
    by true true st am rest = rest seen
    by true false st am rest = ap (λ xs. new_among a xs ns) (sym (untold_more a seen n true st)) ∙ rest (seen ++ n ∷ [])
    by false true st am rest = ap (λ b. if◌then◌else◌ {A = List ℕ} b (new_among a (untold a seen) ns) (new_among a (untold a seen ++ n ∷ []) ns)) (untold_among a seen n st ∙ am) ∙ rest seen
    by false false st am rest =
        ap (λ b. if◌then◌else◌ {A = List ℕ} b (new_among a (untold a seen) ns) (new_among a (untold a seen ++ n ∷ []) ns)) (untold_among a seen n st ∙ am)
        ∙ (ap (λ xs. new_among a xs ns) (sym (untold_more a seen n false st)) ∙ rest (seen ++ n ∷ []))

-- what stands for a number at its place among all
stands_for : (a : Option Asked) (next : ℕ) (ms : List ℕ) (n : ℕ) → is_among n ms ≡ true →
    told_at next (map (tell a) ms) (place_among ms n - 1) ≡ (if stands_at a n then n else next + place_among (untold a ms) n - 1)
stands_for a next [] n e = absurd (true≢false (sym e))
stands_for a next (m ∷ ms) n e = by (cases_eq m n) (λ k f. stands_for a k ms n f)
  where
    Rest : Type 0
    Rest = (k : ℕ) → is_among n ms ≡ true → told_at k (map (tell a) ms) (place_among ms n - 1) ≡ (if stands_at a n then n else k + place_among (untold a ms) n - 1)

    first : (s : Bool) → stands_at a m ≡ s → m ≡ n → told_at next ((if s then Some m else None) ∷ map (tell a) ms) 0 ≡ (if s then n else next + place_among (if s then untold a ms else m ∷ untold a ms) n - 1)
    first true s is = is
    first false s is = let p = place_same m n (untold a ms) is in omega (arith, p)

    later : (s : Bool) → Rest → (m ≡ n → ⊥) → told_at next ((if s then Some m else None) ∷ map (tell a) ms) (suc (place_among ms n - 1)) ≡ (if stands_at a n then n else next + place_among (if s then untold a ms else m ∷ untold a ms) n - 1)
    later true rest d = rest next (sym (among_other m n ms d) ∙ e)
    later false rest d =
        let p = place_other m n (untold a ms) d in
        let q : suc next + place_among (untold a ms) n - 1 ≡ next + place_among (m ∷ untold a ms) n - 1 = omega (arith, p, place_from (untold a ms) n) in
        rest (suc next) (sym (among_other m n ms d) ∙ e) ∙ ap (λ k. if stands_at a n then n else k) q

    by : (m ≡ n) ⊎ (m ≡ n → ⊥) → Rest → told_at next (map (tell a) (m ∷ ms)) (place_among (m ∷ ms) n - 1) ≡ (if stands_at a n then n else next + place_among (untold a (m ∷ ms)) n - 1)
    by (inl is) rest =
        let p = place_same m n ms is in
        let zero_is : place_among (m ∷ ms) n - 1 ≡ 0 = omega (arith, p) in
        ap (told_at next (map (tell a) (m ∷ ms))) zero_is ∙ (first (stands_at a m) refl is ∙ ap (λ s. if s then n else next + place_among (untold a (m ∷ ms)) n - 1) (ap (stands_at a) is))
    by (inr d) rest =
        let p = place_other m n ms d in
        let at : place_among (m ∷ ms) n - 1 ≡ suc (place_among ms n - 1) = omega (arith, p, place_from ms n) in
        ap (told_at next (map (tell a) (m ∷ ms))) at ∙ later (stands_at a m) rest d

-- each of numbers is among those seen at the end
abbrev pub Each : (ℕ → Type 0) → List ℕ → Type 0
Each P [] = Unit {0}
Each P (n ∷ ns) = P n × Each P ns

seen_each : (seen ns : List ℕ) → Each (λ n. is_among n (new_among None seen ns) ≡ true) ns
seen_each seen [] = tt
seen_each seen (n ∷ ns) = by (is_among n seen) refl (λ k. seen_each k ns)
  where
    by : (b : Bool) → is_among n seen ≡ b → ((k : List ℕ) → Each (λ i. is_among i (new_among None k ns) ≡ true) ns) → Each (λ k. is_among k (if b then new_among None seen ns else new_among None (seen ++ n ∷ []) ns) ≡ true) (n ∷ ns)
    by true e rest = let on = goes_on seen ns in (ap (is_among n) on.all_are ∙ among_kept seen on.rest n e, rest seen)
    by false e rest = let on = goes_on (seen ++ n ∷ []) ns in (ap (is_among n) on.all_are ∙ among_kept (seen ++ n ∷ []) on.rest n (among_new seen n), rest (seen ++ n ∷ []))

pub each_front : (P : ℕ → Type 0) (xs ys : List ℕ) → Each P (xs ++ ys) → Each P xs
each_front P [] ys h = tt
each_front P (x ∷ xs) ys h = (h.0, each_front P xs ys h.1)

pub each_back : (P : ℕ → Type 0) (xs ys : List ℕ) → Each P (xs ++ ys) → Each P ys
each_back P [] ys h = h
each_back P (x ∷ xs) ys h = each_back P xs ys h.1

-- a term that is numbered anew, with what stands for its variables
mutual
  through : (seen : List ℕ) (f g : ℕ → Term) (t : Term) → Each (λ n. is_among n seen ≡ true) (variables_of t) → ((n : ℕ) → is_among n seen ≡ true → f (place_among seen n) ≡ g n) →
      substituted f (anew seen t) ≡ substituted g t
  through seen f g (variable n) h same = same n h.0
  through seen f g (integer i) h same = refl
  through seen f g (atom a) h same = refl
  through seen f g (structure s ts) h same = ap (structure s) (through_each seen f g ts h same)

  through_each : (seen : List ℕ) (f g : ℕ → Term) (ts : Terms) → Each (λ n. is_among n seen ≡ true) (variables_in ts) → ((n : ℕ) → is_among n seen ≡ true → f (place_among seen n) ≡ g n) →
      each_substituted f (each_substituted (λ n. variable (place_among seen n)) ts) ≡ each_substituted g ts
  through_each seen f g none h same = refl
  through_each seen f g (more t ts) h same =
      ap₂ more (through seen f g t (each_front (λ n. is_among n seen ≡ true) (variables_of t) (variables_in ts) h) same)
      (through_each seen f g ts (each_back (λ n. is_among n seen ≡ true) (variables_of t) (variables_in ts) h) same)

-- whether one is gone is asked of each number once
any_among : (p : ℕ → Bool) (seen : List ℕ) (n : ℕ) → is_among n seen ≡ true → p n ≡ true → list_any p seen ≡ true
any_among p [] n e q = absurd (true≢false (sym e))
any_among p (m ∷ ms) n e q = by (cases_eq m n) (any_among p ms n)
  where
    or_right : (b : Bool) → (b || true) ≡ true
    or_right true = refl
    or_right false = refl

    by : (m ≡ n) ⊎ (m ≡ n → ⊥) → (is_among n ms ≡ true → p n ≡ true → list_any p ms ≡ true) → (p m || list_any p ms) ≡ true
    by (inl is) rest = ap (λ b. b || list_any p ms) (ap p is ∙ q)
    by (inr d) rest = ap (λ b. p m || b) (rest (sym (among_other m n ms d) ∙ e) q) ∙ or_right (p m)

any_more : (p : ℕ → Bool) (seen : List ℕ) (n : ℕ) (rest : Bool) → (list_any p (seen ++ n ∷ []) || rest) ≡ (list_any p seen || (p n || rest))
any_more p [] n rest = ap (λ b. b || rest) (or_false (p n))
  where
    or_false : (b : Bool) → (b || false) ≡ b
    or_false true = refl
    or_false false = refl
any_more p (m ∷ ms) n rest = by (p m) (any_more p ms n rest)
  where
    by : (b : Bool) → (list_any p (ms ++ n ∷ []) || rest) ≡ (list_any p ms || (p n || rest)) → ((b || list_any p (ms ++ n ∷ [])) || rest) ≡ ((b || list_any p ms) || (p n || rest))
    by true others = refl
    by false others = others

pub any_once : (p : ℕ → Bool) (seen ns : List ℕ) → list_any p (new_among None seen ns) ≡ (list_any p seen || list_any p ns)
any_once p seen [] = sym (or_false (list_any p seen))
  where
    or_false : (b : Bool) → (b || false) ≡ b
    or_false true = refl
    or_false false = refl
any_once p seen (n ∷ ns) = by (is_among n seen) refl (λ k. any_once p k ns)
  where
    known : (l w r : Bool) → (w ≡ true → l ≡ true) → (l || r) ≡ (l || (w || r))
    known true w r h = refl
    known false true r h = absurd (false≢true (h refl))
    known false false r h = refl

    by : (b : Bool) → is_among n seen ≡ b → ((k : List ℕ) → list_any p (new_among None k ns) ≡ (list_any p k || list_any p ns)) → list_any p (if b then new_among None seen ns else new_among None (seen ++ n ∷ []) ns) ≡ (list_any p seen || (p n || list_any p ns))
    by true e rest = rest seen ∙ known (list_any p seen) (p n) (list_any p ns) (λ q. any_among p seen n e q)
    by false e rest = rest (seen ++ n ∷ []) ∙ any_more p seen n (list_any p ns)

-- the goal that the definitions give, by the numbers of the goal's variables, once each by first occurrence
pub given_is : (a : Option Asked) (last : ℕ) (t : Term) (seen : List ℕ) (told : List (Option ℕ)) (new : ℕ) (gone : Bool) → seen ≡ new_among None [] (variables_of t) → told ≡ map (tell a) seen → new ≡ new_in told → gone ≡ list_any (is_gone a last) seen →
    given_told a last t ≡ record { goal = substituted (λ v. variable (told_at (suc last) told (v - 1))) (anew seen t); new = new; tells_gone = gone }
given_is a last t seen told new gone seen_is told_is new_is gone_is =
    let vs = variables_of t in
    let all = new_among None [] vs in
    let news : new_among a [] vs ≡ untold a all = new_are a [] vs in
    let one : (n : ℕ) → is_among n all ≡ true → variable (told_at (suc last) (map (tell a) all) (place_among all n - 1)) ≡ given_variable a (untold a all) last n =
    λ n e. ap variable (stands_for a (suc last) all n e) ∙ as_given a last (untold a all) n in
    let goal : substituted (λ v. variable (told_at (suc last) (map (tell a) all) (v - 1))) (anew all t) ≡ substituted (given_variable a (untold a all) last) t =
    through all (λ v. variable (told_at (suc last) (map (tell a) all) (v - 1))) (given_variable a (untold a all) last) t (seen_each [] vs) one in
    let told_all : told ≡ map (tell a) all = told_is ∙ ap (map (tell a)) seen_is in
    let G : Term → ℕ → Bool → Given = λ g k b. record { goal = g; new = k; tells_gone = b } in
    ap (λ (xs : List ℕ). G (substituted (given_variable a xs last) t) (length xs) (list_any (is_gone a last) vs)) news
    ∙ (ap (λ g. G g (length (untold a all)) (list_any (is_gone a last) vs)) (sym goal)
    ∙ (ap (λ (xs : List ℕ). G (substituted (λ v. variable (told_at (suc last) (map (tell a) all) (v - 1))) (anew xs t)) (length (untold a all)) (list_any (is_gone a last) vs)) (sym seen_is)
    ∙ (ap (λ (ts : List (Option ℕ)). G (substituted (λ v. variable (told_at (suc last) ts (v - 1))) (anew seen t)) (length (untold a all)) (list_any (is_gone a last) vs)) (sym told_all)
    ∙ (ap (λ k. G (substituted (λ v. variable (told_at (suc last) told (v - 1))) (anew seen t)) k (list_any (is_gone a last) vs)) (sym (new_is ∙ (ap new_in told_all ∙ count_new a all)))
    ∙ ap (λ b. G (substituted (λ v. variable (told_at (suc last) told (v - 1))) (anew seen t)) new b) (sym (gone_is ∙ (ap (list_any (is_gone a last)) seen_is ∙ any_once (is_gone a last) [] vs)))))))
  where
    as_given : (a : Option Asked) (last : ℕ) (new : List ℕ) (n : ℕ) → variable (if stands_at a n then n else suc last + place_among new n - 1) ≡ given_variable a new last n
    as_given a last new n = by (stands_at a n)
      where
        by : (b : Bool) → variable (if b then n else suc last + place_among new n - 1) ≡ (if b then variable n else variable (last + place_among new n))
        by true = refl
        by false = ap variable (let k : suc last + place_among new n - 1 ≡ last + place_among new n = omega arith in k)
