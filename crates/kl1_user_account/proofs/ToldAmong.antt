-- What the variables of an answer tell, number by number.
use Rattle.std.proofs.Common.{◌≡◌, ℕ, zero, suc, ◌+◌, ◌-◌, ◌<◌, ◌≤◌, max, ◌==◌, ◌||◌, not, ◌&&◌, Bool, true, false, List, [], ◌∷◌, ◌++◌, map, take, length, replicate, get_or, Option, Some, None, if◌then◌else◌, IfSome, refl, sym, ap, ap₂, subst, ◌∙◌, ◌⊎◌, inl, inr, arith}
use Rattle.std.specs.Prelude.{nat_le, nat_lt, option_map}
use Rattle.std.specs.List.{list_any}
use Rattle.std.proofs.lemmas.Bool.{and_parts, cases_lt, eq-eqb, false≢true, le-leb, le-ltb, leb-true, lt-leb, lt-ltb}
use Rattle.std.proofs.lemmas.List.{get_or-map, map_more, take_more}
use Rattle.kl1_model.specs.declared.limits.TheConstants.{FIRST_UNTOLD}
use Rattle.kl1_model.specs.Term.{occurs}
use Rattle.kl1_model.specs.Module.{is_among}
use Rattle.kl1_model.specs.Event.{is_number}
use Rattle.kl1_model.specs.Telling.{Asked, stands_at, is_gone, new_among, told_after}
use Rattle.kl1_text.specs.declared.cell_name.CellName.{CellName}
use Rattle.kl1_store.specs.declared.cell.Cell.{Cell}
use Rattle.kl1_store.specs.Held.{Held, is_bound, IsIn}
use Rattle.kl1_store.specs.Meaning.{term_of}
use Rattle.kl1_store.specs.Sound.{IsFormed}
use Rattle.kl1_store.specs.Unbound.{IsUnbound}
use Rattle.kl1_store.proofs.Occurrences.{other_free, beyond, bound}
use Rattle.kl1_match.specs.GoalCells.{new_in, AreTold}
use Rattle.kl1_stream.specs.declared.answers.Asking.{Asking}
use Rattle.kl1_stream.specs.Askings.{asked_of, IsAskingIn}
use Rattle.kl1_machine.specs.Bringing.{AreOthers}
use Rattle.kl1_user_effects.specs.Fitting.{Reading}
use Rattle.kl1_user_account.specs.Giving.{AreFound, AreFromOne, AreToldAmong, IsTell, IsToldBy, is_other, is_variable_of, occurs_at, tell, tells, new_with, gone_with}

-- ---- numbers from 1

pub first_and_last : (a b c : Bool) → (a && b && c) ≡ true → (a ≡ true) × (c ≡ true)
first_and_last true true true e = (refl, refl)
first_and_last true true false e = absurd (false≢true e)
first_and_last true false c e = absurd (false≢true e)
first_and_last false b c e = absurd (false≢true e)

-- variables as a text tells them are numbered from 1
pub told_from_one : (seen : ℕ) (vs : List ℕ) → told_after seen vs ≡ true → AreFromOne vs
told_from_one seen [] e = tt
told_from_one seen (v ∷ vs) e = by (cases_lt v FIRST_UNTOLD) (λ k. told_from_one k vs)
  where
    Rest : Bool → Type 0
    Rest b = (if b then nat_le 1 v && told_after seen vs else nat_le v (FIRST_UNTOLD + seen) && is_number v && told_after (max seen (suc v - FIRST_UNTOLD)) vs) ≡ true

    by : (v < FIRST_UNTOLD) ⊎ (FIRST_UNTOLD ≤ v) → ((k : ℕ) → told_after k vs ≡ true → AreFromOne vs) → AreFromOne (v ∷ vs)
    by (inl lt) rest =
        let h : Rest true = subst Rest (lt-ltb v FIRST_UNTOLD lt) e in
        let p = and_parts (nat_le 1 v) (told_after seen vs) h in
        (leb-true 1 v p.0, rest seen p.1)
    by (inr le) rest =
        let h : Rest false = subst Rest (le-ltb v FIRST_UNTOLD le) e in
        let p = first_and_last (nat_le v (FIRST_UNTOLD + seen)) (is_number v) (told_after (max seen (suc v - FIRST_UNTOLD)) vs) h in
        (omega (arith, le), rest (max seen (suc v - FIRST_UNTOLD)) p.1)

from_one_more : (xs : List ℕ) (n : ℕ) → AreFromOne xs → 1 ≤ n → AreFromOne (xs ++ n ∷ [])
from_one_more [] n h low = (low, tt)
from_one_more (x ∷ xs) n h low = (h.0, from_one_more xs n h.1 low)

-- so are they, once each
pub among_from_one : (seen ns : List ℕ) → AreFromOne seen → AreFromOne ns → AreFromOne (new_among None seen ns)
among_from_one seen [] h low = h
among_from_one seen (n ∷ ns) h low = by (is_among n seen) (λ k p. among_from_one k ns p low.1)
  where
    by : (b : Bool) → ((k : List ℕ) → AreFromOne k → AreFromOne (new_among None k ns)) → AreFromOne (if b then new_among None seen ns else new_among None (seen ++ n ∷ []) ns)
    by true rest = rest seen h
    by false rest = rest (seen ++ n ∷ []) (from_one_more seen n h low.0)

from_one_at : (ns : List ℕ) (i : ℕ) → i < length ns → AreFromOne ns → 1 ≤ get_or ns i 0
from_one_at [] i lt low = absurd (omega (arith, lt))
from_one_at (n ∷ ns) zero lt low = low.0
from_one_at (n ∷ ns) (suc i) lt low = from_one_at ns i (omega (arith, lt)) low.1

-- ---- one number

and-false : (b : Bool) → (b && false) ≡ false
and-false true = refl
and-false false = refl

and-true : (b : Bool) → (b && true) ≡ b
and-true true = refl
and-true false = refl

or-false : (b : Bool) → (b || false) ≡ b
or-false true = refl
or-false false = refl

-- a variable in a cell's term stands for itself
occurs_free : (f : Reading) (h : Held CellName) (n : ℕ) (x : Cell CellName) → IsFormed h → IsIn h x → occurs n (term_of f h x) ≡ true → IsUnbound h n
occurs_free f h n x formed inside e = by (cases_lt n h.variables) (is_bound n h.bindings) refl
  where
    by : (n < h.variables) ⊎ (h.variables ≤ n) → (b : Bool) → is_bound n h.bindings ≡ b → IsUnbound h n
    by (inl lt) false is = record { within = lt; unbound = is }
    by (inl lt) true is = absurd (false≢true (other_free f h n x formed (bound h n is) inside ∙ e))
    by (inr le) b is = absurd (false≢true (other_free f h n x formed (beyond h n le) inside ∙ e))

-- a number tells just if it stands in the exception's goal, and isn't what the substitute waits for
stands_is : (f : Reading) (h : Held CellName) (a : Option (Asking CellName)) (n : ℕ) (stands made : Bool) → IsFormed h → IfSome a (IsAskingIn h) →
    stands ≡ occurs_at (option_map (asked_of f h) a) n → made ≡ is_variable_of h n → tells a n stands made ≡ stands_at (option_map (asked_of f h) a) n
stands_is f h None n stands made formed inside at is = ap (λ b. made && (b && true)) at ∙ and-false made
stands_is f h (Some x) n stands made formed inside at is = by stands refl ∙ ap (λ b. b && other) at
  where
    other : Bool
    other = not (n == x.new)

    by : (b : Bool) → stands ≡ b → (made && (stands && other)) ≡ (stands && other)
    by true e =
        let there : IsUnbound h n = occurs_free f h n x.goal formed inside.goal (sym at ∙ e) in
        ap (λ b. b && (stands && other)) (is ∙ lt-ltb n h.variables there.within)
    by false e = ap (λ b. made && (b && other)) e ∙ (and-false made ∙ sym (ap (λ b. b && other) e))

tell_is : (a : Option Asked) (n : ℕ) (t : Bool) (r : Option ℕ) → IsTell n t r → t ≡ stands_at a n → r ≡ tell a n
tell_is a n t None is same = ap (λ b. if◌then◌else◌ {A = Option ℕ} b (Some n) None) (sym is ∙ same)
tell_is a n t (Some v) is same = ap (λ (w : ℕ). Some w) is.1 ∙ ap (λ b. if◌then◌else◌ {A = Option ℕ} b (Some n) None) (sym is.0 ∙ same)

-- a number from 1 is that of the last variable or one before just if it is that of one
up_to_last : (n k : ℕ) → 1 ≤ n → nat_le n (k - 1) ≡ nat_lt n k
up_to_last n k low = by (cases_lt n k)
  where
    by : (n < k) ⊎ (k ≤ n) → nat_le n (k - 1) ≡ nat_lt n k
    by (inl lt) = le-leb n (k - 1) (omega (arith, lt)) ∙ sym (lt-ltb n k lt)
    by (inr le) = lt-leb n (k - 1) (omega (arith, le, low)) ∙ sym (le-ltb n k le)

new_push : (told : List (Option ℕ)) (r : Option ℕ) → new_in (told ++ r ∷ []) ≡ new_with (new_in told) r
new_push [] None = refl
new_push [] (Some v) = refl
new_push (Some w ∷ told) r = new_push told r
new_push (None ∷ told) None = let e = new_push told None in omega (arith, e)
new_push (None ∷ told) (Some v) = ap suc (new_push told (Some v))

any_push : (p : ℕ → Bool) (xs : List ℕ) (n : ℕ) → list_any p (xs ++ n ∷ []) ≡ (list_any p xs || p n)
any_push p [] n = or-false (p n)
any_push p (x ∷ xs) n = by (p x) (any_push p xs n)
  where
    by : (b : Bool) → list_any p (xs ++ n ∷ []) ≡ (list_any p xs || p n) → (b || list_any p (xs ++ n ∷ [])) ≡ ((b || list_any p xs) || p n)
    by true others = refl
    by false others = others

gone_step : (a : Option Asked) (h : Held CellName) (n : ℕ) (t gone made : Bool) (r : Option ℕ) → 1 ≤ n → IsTell n t r → t ≡ stands_at a n → made ≡ is_variable_of h n →
    gone_with gone made r ≡ (gone || is_gone a (h.variables - 1) n)
gone_step a h n t gone made None low is same made_is =
    let absent : false ≡ stands_at a n = sym is ∙ same in
    let last : nat_le n (h.variables - 1) ≡ made = up_to_last n h.variables low ∙ sym made_is in
    ap (λ b. gone || b) (sym last ∙ (sym (and-true (nat_le n (h.variables - 1))) ∙ ap (λ b. nat_le n (h.variables - 1) && not b) absent))
gone_step a h n t gone made (Some v) low is same made_is =
    let there : true ≡ stands_at a n = sym is.0 ∙ same in
    sym (or-false gone) ∙ ap (λ b. gone || b) (sym (and-false (nat_le n (h.variables - 1))) ∙ ap (λ b. nat_le n (h.variables - 1) && not b) there)

-- ---- one more of numbers

module _ (h : Held CellName) (a : Option (Asking CellName)) (ns : List ℕ) (found : List Bool) (i : ℕ) where
  abbrev at : ℕ
  at = get_or ns i 0

  abbrev flag : Bool
  flag = get_or found i false

  abbrev asked : Reading → Option Asked
  asked f = option_map (asked_of f h) a

  pub told_on : (told : List (Option ℕ)) (new : ℕ) (gone made : Bool) (r : Option ℕ) → IsFormed h → IfSome a (IsAskingIn h) → AreFound h a ns found → AreFromOne ns →
      i < length ns → made ≡ is_variable_of h at → IsToldBy a at flag made r → AreToldAmong h a (take i ns) told new gone →
      AreToldAmong h a (take (i + 1) ns) (told ++ r ∷ []) (new_with new r) (gone_with gone made r)
  told_on told new gone made r formed inside are least lt made_is by so =
      let low : 1 ≤ at = from_one_at ns i lt least in
      let flag_is : (f : Reading) → flag ≡ occurs_at (asked f) at = λ f. ap (λ (xs : List Bool). get_or xs i false) (are f) ∙ get_or-map (occurs_at (asked f)) ns i 0 false lt in
      let stands : (f : Reading) → tells a at flag made ≡ stands_at (asked f) at = λ f. stands_is f h a at flag made formed inside (flag_is f) made_is in
      record {
        told_is = λ f.
            ap₂ (λ (xs : List (Option ℕ)) (x : Option ℕ). xs ++ x ∷ []) (so.told_is f) (tell_is (asked f) at (tells a at flag made) r by (stands f))
            ∙ sym (map_more (tell (asked f)) ns i 0 lt);
        new_is = ap (λ k. new_with k r) so.new_is ∙ sym (new_push told r);
        gone_is = λ f.
            let p : ℕ → Bool = is_gone (asked f) (h.variables - 1) in
            gone_step (asked f) h at (tells a at flag made) gone made r low by (stands f) made_is
            ∙ (ap (λ b. b || p at) (so.gone_is f) ∙ (sym (any_push p (take i ns) at) ∙ ap (list_any p) (sym (take_more ns i 0 lt))));
      }

-- nothing is told by no numbers
pub told_none : (h : Held CellName) (a : Option (Asking CellName)) (told : List (Option ℕ)) → told ≡ [] → AreToldAmong h a [] told 0 false
told_none h a told e = record { told_is = λ f. e; new_is = sym (ap new_in e); gone_is = λ f. refl }

pub new_few : (new : ℕ) (r : Option ℕ) → new_with new r ≤ new + 1
new_few new None = omega arith
new_few new (Some v) = omega arith

-- the same by other names
pub told_moved : (h : Held CellName) (a : Option (Asking CellName)) (ns : List ℕ) (told all : List (Option ℕ)) (new sum : ℕ) (gone any : Bool) → told ≡ all → new ≡ sum → gone ≡ any → AreToldAmong h a ns all sum any → AreToldAmong h a ns told new gone
told_moved h a ns told all new sum gone any told_is new_is gone_is so = record {
  told_is = λ f. told_is ∙ so.told_is f;
  new_is = new_is ∙ (so.new_is ∙ ap new_in (sym told_is));
  gone_is = λ f. gone_is ∙ so.gone_is f;
}

-- ---- all of them

-- each that is told stands for itself
pub all_free : (f : Reading) (h : Held CellName) (a : Option (Asking CellName)) (ns : List ℕ) → IsFormed h → IfSome a (IsAskingIn h) → AreTold h (map (tell (option_map (asked_of f h) a)) ns)
all_free f h None [] formed inside = tt
all_free f h None (n ∷ ns) formed inside = all_free f h None ns formed inside
all_free f h (Some x) [] formed inside = tt
all_free f h (Some x) (n ∷ ns) formed inside = by (stands_at (Some (asked_of f h x)) n) refl (all_free f h (Some x) ns formed inside)
  where
    rest : List (Option ℕ)
    rest = map (tell (Some (asked_of f h x))) ns

    by : (b : Bool) → stands_at (Some (asked_of f h x)) n ≡ b → AreTold h rest → AreTold h ((if b then Some n else None) ∷ rest)
    by true s free = (occurs_free f h n x.goal formed inside.goal (and_parts (occurs n (term_of f h x.goal)) (not (n == x.new)) s).0, free)
    by false s free = free

-- none is what the substitute waits for
others_in : (f : Reading) (h : Held CellName) (x : Asking CellName) (ns : List ℕ) → AreOthers x.new (map (tell (Some (asked_of f h x))) ns)
others_in f h x [] = tt
others_in f h x (n ∷ ns) = by (stands_at (Some (asked_of f h x)) n) refl (others_in f h x ns)
  where
    rest : List (Option ℕ)
    rest = map (tell (Some (asked_of f h x))) ns

    by : (b : Bool) → stands_at (Some (asked_of f h x)) n ≡ b → AreOthers x.new rest → AreOthers x.new ((if b then Some n else None) ∷ rest)
    by true s others =
        let other : not (n == x.new) ≡ true = (and_parts (occurs n (term_of f h x.goal)) (not (n == x.new)) s).1 in
        (λ e. false≢true (sym (ap not (eq-eqb n x.new e)) ∙ other), others)
    by false s others = others

pub all_others : (f : Reading) (h : Held CellName) (a : Option (Asking CellName)) (ns : List ℕ) → IfSome a (λ x. AreOthers x.new (map (tell (option_map (asked_of f h) a)) ns))
all_others f h None ns = tt
all_others f h (Some x) ns = others_in f h x ns

-- nothing occurs where there is no exception
pub none_occur : (ns : List ℕ) → map (occurs_at None) ns ≡ replicate (length ns) false
none_occur [] = refl
none_occur (n ∷ ns) = ap (λ (bs : List Bool). false ∷ bs) (none_occur ns)

pub tells_none : (b : Bool) → (b && false) ≡ false
tells_none b = and-false b

pub tells_all : (a b c : Bool) → a ≡ true → b ≡ true → c ≡ true → (a && (b && c)) ≡ true
tells_all a b c x y z = ap (λ w. w && (b && c)) x ∙ (ap (λ w. w && c) y ∙ z)
