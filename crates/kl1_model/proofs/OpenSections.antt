-- Candidates are the clauses that accept in a section that is open.
use Rattle.std.proofs.Common.{◌≡◌, ℕ, suc, ◌≤◌, ◌==◌, ◌&&◌, ◌||◌, Bool, true, false, if◌then◌else◌, List, [], ◌∷◌, ◌++◌, refl, sym, ap, ap₂, ◌∙◌, subst, arith, inl, inr}
use Rattle.std.specs.Prelude.{nat_le, filter}
use Rattle.std.proofs.lemmas.Bool.{and_parts, and_from, or_left, leb-true, le-leb, eqb-true, eq-eqb, cond-true, cond-false, false_from_ne_true, false≢true}
use Rattle.std.proofs.lemmas.Bool.Decides.{leb_tells}
use Rattle.kl1_model.specs.Term.{Terms, Replacement}
use Rattle.kl1_model.specs.Module.{Clause}
use Rattle.kl1_model.specs.Match.{Answer, yes, no, wait, Candidate, candidate_by, is_no, places_of, verdict}
use Rattle.kl1_model.specs.code.Sections.{candidates_within, candidates_from}
use Rattle.kl1_model.specs.laws.WaitsLaws.{are_in_order, accepting_from, is_open, CandidatesAreOpen}

-- each clause stands in this section or a later one
abbrev AreBehind : ℕ → List Clause → Type 0
AreBehind n [] = Unit {0}
AreBehind n (c ∷ cs) = (n ≤ c.section) × AreBehind n cs

behind_lower : (m n : ℕ) (cs : List Clause) → m ≤ n → AreBehind n cs → AreBehind m cs
behind_lower m n [] le a = tt
behind_lower m n (c ∷ cs) le a = (let p = a.0 in omega (arith, le, p), behind_lower m n cs le a.1)

order_tail : (c : Clause) (cs : List Clause) → are_in_order (c ∷ cs) ≡ true → are_in_order cs ≡ true
order_tail c [] h = refl
order_tail c (d ∷ cs) h = (and_parts (nat_le c.section d.section) (are_in_order (d ∷ cs)) h).1

order_behind : (c : Clause) (cs : List Clause) → are_in_order (c ∷ cs) ≡ true → AreBehind c.section cs
order_behind c [] h = tt
order_behind c (d ∷ cs) h =
    let b = and_parts (nat_le c.section d.section) (are_in_order (d ∷ cs)) h in
    let le = leb-true c.section d.section b.0 in
    (le, behind_lower c.section d.section cs le (order_behind d cs b.1))

-- a clause of a section is open if all others stand in it or later
open_here : (ts : Terms) (c : Clause) (n : ℕ) (cs : List Clause) → c.section ≤ n → AreBehind n cs → is_open cs ts c ≡ true
open_here ts c n [] le a = refl
open_here ts c n (d ∷ cs) le a =
    let p = a.0 in
    and_from (nat_le c.section d.section || is_no (verdict d ts)) (is_open cs ts c)
    (or_left (nat_le c.section d.section) (is_no (verdict d ts)) (le-leb c.section d.section (omega (arith, le, p))))
    (open_here ts c n cs le a.1)

-- a clause after one whose verdict isn't no is closed, if it stands in a later section
closed_by : (a b x : Bool) → a ≡ false → b ≡ false → ((a || b) && x) ≡ false
closed_by true b x e f = absurd (false≢true (sym e))
closed_by false true x e f = absurd (false≢true (sym f))
closed_by false false x e f = refl

closed_here : (ts : Terms) (c d : Clause) (cs : List Clause) → suc d.section ≤ c.section → is_no (verdict d ts) ≡ false → is_open (d ∷ cs) ts c ≡ false
closed_here ts c d cs le kept =
    closed_by (nat_le c.section d.section) (is_no (verdict d ts)) (is_open cs ts c)
    (false_from_ne_true (nat_le c.section d.section) (λ e. let less = leb-true c.section d.section e in omega (arith, le, less)))
    kept

-- a filter by what is known of one clause's candidates
filter_one : (p : Candidate → Bool) (n : ℕ) (c : Clause) (ps : List Replacement) (v : Answer) (b : Bool) → ((k : Candidate) → k.clause ≡ c → p k ≡ b) → filter p (candidate_by n c ps v) ≡ (if b then candidate_by n c ps v else [])
filter_one p n c ps yes true f = cond-true (p (record { number = n; clause = c; places = ps })) (record { number = n; clause = c; places = ps } ∷ []) [] (f (record { number = n; clause = c; places = ps }) refl)
filter_one p n c ps yes false f = cond-false (p (record { number = n; clause = c; places = ps })) (record { number = n; clause = c; places = ps } ∷ []) [] (f (record { number = n; clause = c; places = ps }) refl)
filter_one p n c ps no true f = refl
filter_one p n c ps no false f = refl
filter_one p n c ps (wait vs) true f = refl
filter_one p n c ps (wait vs) false f = refl

filter_two_by : (x : Bool) (p : Candidate → Bool) (k : Candidate) (ks js : List Candidate) → p k ≡ x → filter p (ks ++ js) ≡ filter p ks ++ filter p js → (if x then k ∷ filter p (ks ++ js) else filter p (ks ++ js)) ≡ (if x then k ∷ filter p ks else filter p ks) ++ filter p js
filter_two_by true p k ks js e f = ap (λ l. k ∷ l) f
filter_two_by false p k ks js e f = f

filter_two : (p : Candidate → Bool) (ks js : List Candidate) → filter p (ks ++ js) ≡ filter p ks ++ filter p js
filter_two p [] js = refl
filter_two p (k ∷ ks) js = filter_two_by (p k) p k ks js refl (filter_two p ks js)

above : (m n : ℕ) → m ≤ n → (n ≡ m → ⊥) → suc m ≤ n
above m n le other =
    elim (leb_tells (suc m) n) [
      | inl a ↦ a.1
      | inr b ↦ absurd (other (let less = b.1 in omega (arith, less, le)))
    ]

-- what later sections hold is filtered away
none_left : (p : Candidate → Bool) (section n : ℕ) (cs : List Clause) (ts : Terms) → ((k : Candidate) → suc section ≤ k.clause.section → p k ≡ false) → AreBehind (suc section) cs → filter p (accepting_from n cs ts) ≡ []
none_left p section n [] ts f a = refl
none_left p section n (c ∷ cs) ts f a =
    filter_two p (candidate_by n c (places_of c ts) (verdict c ts)) (accepting_from (suc n) cs ts)
    ∙ ap₂ (λ (x y : List Candidate). x ++ y)
    (filter_one p n c (places_of c ts) (verdict c ts) false (λ k is. f k (subst (λ (d : Clause). suc section ≤ d.section) (sym is) a.0)))
    (none_left p section (suc n) cs ts f a.1)

within_left : (p : Candidate → Bool) (section n : ℕ) (cs : List Clause) (ts : Terms) → ((k : Candidate) → k.clause.section ≡ section → p k ≡ true) → ((k : Candidate) → suc section ≤ k.clause.section → p k ≡ false) → are_in_order cs ≡ true → AreBehind section cs → candidates_within section n cs ts ≡ filter p (accepting_from n cs ts)
within_left p section n [] ts f g o a = refl
within_left p section n (c ∷ cs) ts f g o a =
    by_section (c.section == section) refl (within_left p section (suc n) cs ts f g (order_tail c cs o) a.1)
  where
    by_section : (b : Bool) → c.section == section ≡ b → candidates_within section (suc n) cs ts ≡ filter p (accepting_from (suc n) cs ts) → (if b then candidate_by n c (places_of c ts) (verdict c ts) ++ candidates_within section (suc n) cs ts else []) ≡ filter p (accepting_from n (c ∷ cs) ts)
    by_section true e rest =
        let here : c.section ≡ section = eqb-true c.section section e in
        sym
        (filter_two p (candidate_by n c (places_of c ts) (verdict c ts)) (accepting_from (suc n) cs ts)
        ∙ ap₂ (λ (x y : List Candidate). x ++ y)
        (filter_one p n c (places_of c ts) (verdict c ts) true (λ k is. f k (ap (λ (d : Clause). d.section) is ∙ here)))
        (sym rest))
    by_section false e rest =
        let le = a.0 in
        let other : c.section ≡ section → ⊥ = λ is. false≢true (sym e ∙ eq-eqb c.section section is) in
        let more : suc section ≤ c.section = above section c.section le other in
        sym (none_left p section n (c ∷ cs) ts g (more, behind_lower (suc section) c.section cs more (order_behind c cs o)))

filter_same : (p q : Candidate → Bool) → ((k : Candidate) → p k ≡ q k) → (ks : List Candidate) → filter p ks ≡ filter q ks
filter_same p q f [] = refl
filter_same p q f (k ∷ ks) = ap₂ (λ (b : Bool) (l : List Candidate). if b then k ∷ l else l) (f k) (filter_same p q f ks)

or_true : (a x : Bool) → ((a || true) && x) ≡ x
or_true true x = refl
or_true false x = refl

-- the candidates are the clauses that accept and above whose nearest `otherwise` each clause rejects
pub candidates_are_open : CandidatesAreOpen
candidates_are_open n [] ts o = refl
candidates_are_open n (c ∷ cs) ts o = by_verdict (verdict c ts) refl (candidates_are_open (suc n) cs ts (order_tail c cs o))
  where
    passed : is_no (verdict c ts) ≡ true → (k : Candidate) → is_open (c ∷ cs) ts k.clause ≡ is_open cs ts k.clause
    passed e k = ap (λ b. (nat_le k.clause.section c.section || b) && is_open cs ts k.clause) e ∙ or_true (nat_le k.clause.section c.section) (is_open cs ts k.clause)

    stopped : is_no (verdict c ts) ≡ false → candidates_within c.section n (c ∷ cs) ts ≡ filter (λ k. is_open (c ∷ cs) ts k.clause) (accepting_from n (c ∷ cs) ts)
    stopped kept =
        within_left (λ k. is_open (c ∷ cs) ts k.clause) c.section n (c ∷ cs) ts
        (λ k is. open_here ts k.clause c.section (c ∷ cs) (omega (arith, is)) (omega arith, order_behind c cs o))
        (λ k le. closed_here ts k.clause c cs le kept)
        o
        (omega arith, order_behind c cs o)

    by_verdict : (v : Answer) → verdict c ts ≡ v → candidates_from (suc n) cs ts ≡ filter (λ k. is_open cs ts k.clause) (accepting_from (suc n) cs ts) →
        (if is_no (verdict c ts) then candidates_from (suc n) cs ts else candidates_within c.section n (c ∷ cs) ts) ≡ filter (λ k. is_open (c ∷ cs) ts k.clause) (candidate_by n c (places_of c ts) (verdict c ts) ++ accepting_from (suc n) cs ts)
    by_verdict no e rest =
        let kept : is_no (verdict c ts) ≡ true = ap is_no e in
        cond-true (is_no (verdict c ts)) (candidates_from (suc n) cs ts) (candidates_within c.section n (c ∷ cs) ts) kept
        ∙ rest
        ∙ sym (filter_same (λ k. is_open (c ∷ cs) ts k.clause) (λ k. is_open cs ts k.clause) (passed kept) (accepting_from (suc n) cs ts))
        ∙ ap (λ v. filter (λ k. is_open (c ∷ cs) ts k.clause) (candidate_by n c (places_of c ts) v ++ accepting_from (suc n) cs ts)) (sym e)
    by_verdict yes e rest =
        cond-false (is_no (verdict c ts)) (candidates_from (suc n) cs ts) (candidates_within c.section n (c ∷ cs) ts) (ap is_no e) ∙ stopped (ap is_no e)
    by_verdict (wait vs) e rest =
        cond-false (is_no (verdict c ts)) (candidates_from (suc n) cs ts) (candidates_within c.section n (c ∷ cs) ts) (ap is_no e) ∙ stopped (ap is_no e)
