-- Comparisons: what they answer when variables are replaced, their parts, and that they are passive equality.
use Rattle.std.proofs.Common.{◌≡◌, ℕ, suc, ◌==◌, ◌&&◌, ◌||◌, not, Bool, true, false, if◌then◌else◌, List, [], ◌∷◌, ◌++◌, refl, sym, ap, ap₂, ◌∙◌, arith}
use Rattle.std.specs.Prelude.{bytes_eq}
use Rattle.std.specs.Ordering.{int_eq}
use Rattle.std.proofs.lemmas.Bool.{and_from, and_parts, or_from, eqb-true, eq-eqb, cond-true, false≢true, false_from_ne_true}
use Rattle.std.proofs.lemmas.Bool.Decides.{Decides-int_eq}
use Rattle.std.proofs.lemmas.Slice.Eq.{bytes_eq-Decides}
use Rattle.kl1_model.specs.Term.{Term, variable, integer, atom, structure, Terms, none, more, count_of, same_term, same_terms, substituted, each_substituted}
use Rattle.kl1_model.specs.Answer.{Answer, yes, no, wait, together, known, awaited_in}
use Rattle.kl1_model.specs.Same.{compare, compare_each}
use Rattle.kl1_model.specs.code.Comparing.{Passive, same, differs, unknown, passive, clash, any_clash, awaited, all_awaited, answer_of_parts}
use Rattle.kl1_model.specs.code.Waits.{LeavesEach}
use Rattle.kl1_model.specs.laws.Clashes.{CompareIsEqual, CompareIsOnPath}
use Rattle.kl1_model.specs.laws.CompareLaws.{Stays, CompareStays, CompareWaits, CompareIsParts}
use Rattle.kl1_model.specs.laws.PlainAnswers.{surely, never, plain, plain_same}
use Rattle.kl1_model.specs.laws.PlainLaws.{ComparisonsStand}
use Rattle.kl1_model.proofs.TermFacts.{same_term_decides}
use Rattle.kl1_model.proofs.Clashes.{no_clash, same_is_equal, differs_on_path}
use Rattle.kl1_model.proofs.SameStays.{left_front, left_back}
use Rattle.kl1_model.proofs.Substitutions.{count-each_substituted}

-- ---- what stays

no_right : (a b : Answer) → b ≡ no → together a b ≡ no
no_right yes b e = e
no_right no b e = refl
no_right (wait vs) b e = ap (together (wait vs)) e

pub both_stay : (s : ℕ → Term) (a b p q : Answer) → Stays s a p → Stays s b q → Stays s (together a b) (together p q)
both_stay s yes b p q f g l = ap (λ o. together o q) (f tt) ∙ g l
both_stay s no b p q f g l = ap (λ o. together o q) (f tt)
both_stay s (wait vs) yes p q f g l = ap₂ together (f l) (g tt)
both_stay s (wait vs) no p q f g l = no_right p q (g tt)
both_stay s (wait vs) (wait ws) p q f g l = ap₂ together (f (left_front s vs ws l)) (g (left_back s vs ws l))

cond_stays : (s : ℕ → Term) (c d : Bool) (a b : Answer) → d ≡ c → Stays s a b → Stays s (if c then a else no) (if d then b else no)
cond_stays s true true a b e f l = f l
cond_stays s true false a b e f l = absurd (false≢true e)
cond_stays s false true a b e f l = absurd (false≢true (sym e))
cond_stays s false false a b e f l = refl

mutual
  pub compare_self : (t : Term) → compare t t ≡ yes
  compare_self (variable v) = cond-true (v == v) yes (wait (v ∷ v ∷ [])) (eq-eqb v v refl)
  compare_self (integer i) = ap known ((Decides-int_eq i i).1 refl)
  compare_self (atom a) = ap known ((bytes_eq-Decides a a).1 refl)
  compare_self (structure f ts) =
      cond-true (bytes_eq f f && count_of ts == count_of ts) (compare_each ts ts) no
      (and_from (bytes_eq f f) (count_of ts == count_of ts) ((bytes_eq-Decides f f).1 refl) (eq-eqb (count_of ts) (count_of ts) refl))
      ∙ each_self ts

  each_self : (ts : Terms) → compare_each ts ts ≡ yes
  each_self none = refl
  each_self (more t ts) = ap₂ together (compare_self t) (each_self ts)

two_stay : (s : ℕ → Term) (v w : ℕ) (c : Bool) → v == w ≡ c → LeavesEach s (awaited_in (if c then yes else wait (v ∷ w ∷ []))) → compare (s v) (s w) ≡ (if v == w then yes else wait (v ∷ w ∷ []))
two_stay s v w true e l = ap (λ x. compare (s v) (s x)) (sym (eqb-true v w e)) ∙ compare_self (s v) ∙ sym (cond-true (v == w) yes (wait (v ∷ w ∷ [])) e)
two_stay s v w false e l = ap₂ compare l.0 l.1.0

mutual
  pub compare_stays : CompareStays
  compare_stays s (variable v) (variable w) l = two_stay s v w (v == w) refl l
  compare_stays s (variable v) (integer j) l = ap (λ x. compare x (integer j)) l.0
  compare_stays s (variable v) (atom b) l = ap (λ x. compare x (atom b)) l.0
  compare_stays s (variable v) (structure g us) l = ap (λ x. compare x (structure g (each_substituted s us))) l.0
  compare_stays s (integer i) (variable w) l = ap (compare (integer i)) l.0
  compare_stays s (integer i) (integer j) l = refl
  compare_stays s (integer i) (atom b) l = refl
  compare_stays s (integer i) (structure g us) l = refl
  compare_stays s (atom a) (variable w) l = ap (compare (atom a)) l.0
  compare_stays s (atom a) (integer j) l = refl
  compare_stays s (atom a) (atom b) l = refl
  compare_stays s (atom a) (structure g us) l = refl
  compare_stays s (structure f ts) (variable w) l = ap (compare (structure f (each_substituted s ts))) l.0
  compare_stays s (structure f ts) (integer j) l = refl
  compare_stays s (structure f ts) (atom b) l = refl
  compare_stays s (structure f ts) (structure g us) l =
      cond_stays s (bytes_eq f g && count_of ts == count_of us) (bytes_eq f g && count_of (each_substituted s ts) == count_of (each_substituted s us))
      (compare_each ts us) (compare_each (each_substituted s ts) (each_substituted s us))
      (ap₂ (λ m n. bytes_eq f g && m == n) (count-each_substituted s ts) (count-each_substituted s us))
      (each_stay s ts us) l

  each_stay : (s : ℕ → Term) (ts us : Terms) → Stays s (compare_each ts us) (compare_each (each_substituted s ts) (each_substituted s us))
  each_stay s none us l = refl
  each_stay s (more t ts) none l = refl
  each_stay s (more t ts) (more u us) l =
      both_stay s (compare t u) (compare_each ts us) (compare (substituted s t) (substituted s u)) (compare_each (each_substituted s ts) (each_substituted s us)) (compare_stays s t u) (each_stay s ts us) l

-- ---- who waits names a variable

-- an answer that waits does so for some variable
abbrev pub Names : Answer → Type 0
Names yes = Unit {0}
Names no = Unit {0}
Names (wait []) = ⊥
Names (wait (v ∷ vs)) = Unit {0}

pub names_both : (a b : Answer) → Names a → Names b → Names (together a b)
names_both yes b n k = k
names_both no b n k = tt
names_both (wait vs) yes n k = n
names_both (wait vs) no n k = tt
names_both (wait []) (wait ws) n k = absurd n
names_both (wait (v ∷ vs)) (wait ws) n k = tt

pub names_known : (b : Bool) → Names (known b)
names_known true = tt
names_known false = tt

names_two : (v w : ℕ) (c : Bool) → Names (if c then yes else wait (v ∷ w ∷ []))
names_two v w true = tt
names_two v w false = tt

names_if : (c : Bool) (a : Answer) → Names a → Names (if c then a else no)
names_if true a n = n
names_if false a n = tt

mutual
  pub compare_names : (t u : Term) → Names (compare t u)
  compare_names (variable v) (variable w) = names_two v w (v == w)
  compare_names (variable v) (integer j) = tt
  compare_names (variable v) (atom b) = tt
  compare_names (variable v) (structure g us) = tt
  compare_names (integer i) (variable w) = tt
  compare_names (integer i) (integer j) = names_known (int_eq i j)
  compare_names (integer i) (atom b) = tt
  compare_names (integer i) (structure g us) = tt
  compare_names (atom a) (variable w) = tt
  compare_names (atom a) (integer j) = tt
  compare_names (atom a) (atom b) = names_known (bytes_eq a b)
  compare_names (atom a) (structure g us) = tt
  compare_names (structure f ts) (variable w) = tt
  compare_names (structure f ts) (integer j) = tt
  compare_names (structure f ts) (atom b) = tt
  compare_names (structure f ts) (structure g us) = names_if (bytes_eq f g && count_of ts == count_of us) (compare_each ts us) (each_names ts us)

  each_names : (ts us : Terms) → Names (compare_each ts us)
  each_names none us = tt
  each_names (more t ts) none = tt
  each_names (more t ts) (more u us) = names_both (compare t u) (compare_each ts us) (compare_names t u) (each_names ts us)

none_named : (a : Answer) → Names a → a ≡ wait [] → ⊥
none_named yes n e = absurd (cc)
none_named no n e = absurd (cc)
none_named (wait []) n e = n
none_named (wait (v ∷ vs)) n e = absurd (cc)

pub compare_waits : CompareWaits
compare_waits t u = none_named (compare t u) (compare_names t u)

-- ---- parts

two_parts : (p q : Bool) (vs ws : List ℕ) → together (answer_of_parts p vs) (answer_of_parts q ws) ≡ answer_of_parts (p || q) (vs ++ ws)
two_parts true q vs ws = refl
two_parts false true [] ws = refl
two_parts false true (v ∷ vs) ws = refl
two_parts false false [] ws = refl
two_parts false false (v ∷ vs) [] = ap (λ (l : List ℕ). wait (v ∷ l)) (sym (back vs))
  where
    back : (vs : List ℕ) → vs ++ [] ≡ vs
    back [] = refl
    back (v ∷ vs) = ap (λ (l : List ℕ). v ∷ l) (back vs)
two_parts false false (v ∷ vs) (w ∷ ws) = refl

known_parts : (b : Bool) → known b ≡ answer_of_parts (not b) []
known_parts true = refl
known_parts false = refl

variables_parts : (v w : ℕ) (c : Bool) → (if c then yes else wait (v ∷ w ∷ [])) ≡ answer_of_parts false (if c then [] else v ∷ w ∷ [])
variables_parts v w true = refl
variables_parts v w false = refl

heads_parts : (c q : Bool) (a : Answer) (vs : List ℕ) → a ≡ answer_of_parts q vs → (if c then a else no) ≡ answer_of_parts (if c then q else true) vs
heads_parts true q a vs e = e
heads_parts false q a vs e = refl

mutual
  pub compare_is_parts : CompareIsParts
  compare_is_parts (variable v) (variable w) = variables_parts v w (v == w)
  compare_is_parts (variable v) (integer j) = refl
  compare_is_parts (variable v) (atom b) = refl
  compare_is_parts (variable v) (structure g us) = refl
  compare_is_parts (integer i) (variable w) = refl
  compare_is_parts (integer i) (integer j) = known_parts (int_eq i j)
  compare_is_parts (integer i) (atom b) = refl
  compare_is_parts (integer i) (structure g us) = refl
  compare_is_parts (atom a) (variable w) = refl
  compare_is_parts (atom a) (integer j) = refl
  compare_is_parts (atom a) (atom b) = known_parts (bytes_eq a b)
  compare_is_parts (atom a) (structure g us) = refl
  compare_is_parts (structure f ts) (variable w) = refl
  compare_is_parts (structure f ts) (integer j) = refl
  compare_is_parts (structure f ts) (atom b) = refl
  compare_is_parts (structure f ts) (structure g us) =
      heads_parts (bytes_eq f g && count_of ts == count_of us) (any_clash ts us) (compare_each ts us) (all_awaited ts us) (each_is_parts ts us)

  each_is_parts : (ts us : Terms) → compare_each ts us ≡ answer_of_parts (any_clash ts us) (all_awaited ts us)
  each_is_parts none us = refl
  each_is_parts (more t ts) none = refl
  each_is_parts (more t ts) (more u us) =
      ap₂ together (compare_is_parts t u) (each_is_parts ts us) ∙ two_parts (clash t u) (any_clash ts us) (awaited t u) (all_awaited ts us)

-- ---- passive equality

abbrev passive_of : Bool → Bool → Passive
passive_of p q = if p then same else if q then differs else unknown

known_plain : (b : Bool) → plain (known b) ≡ plain_same (passive_of b (not b))
known_plain true = refl
known_plain false = refl

variables_plain : (v w : ℕ) (c : Bool) → plain (if c then yes else wait (v ∷ w ∷ [])) ≡ plain_same (passive_of c false)
variables_plain v w true = refl
variables_plain v w false = refl

-- two parts together
both_plain : (a b : Answer) (p q x y : Bool) → plain a ≡ plain_same (passive_of p q) → plain b ≡ plain_same (passive_of x y) → (p ≡ true → q ≡ false) → (x ≡ true → y ≡ false) → plain (together a b) ≡ plain_same (passive_of (p && x) (q || y))
both_plain yes b true true x y e f g h = absurd (false≢true (sym (g refl)))
both_plain yes b true false x y e f g h = f
both_plain yes b false true x y e f g h = absurd (cc)
both_plain yes b false false x y e f g h = absurd (cc)
both_plain no b true q x y e f g h = absurd (cc)
both_plain no b false true x y e f g h = refl
both_plain no b false false x y e f g h = absurd (cc)
both_plain (wait vs) b true q x y e f g h = absurd (cc)
both_plain (wait vs) b false true x y e f g h = absurd (cc)
both_plain (wait vs) yes false false true true e f g h = absurd (false≢true (sym (h refl)))
both_plain (wait vs) yes false false true false e f g h = refl
both_plain (wait vs) yes false false false true e f g h = absurd (cc)
both_plain (wait vs) yes false false false false e f g h = absurd (cc)
both_plain (wait vs) no false false true y e f g h = absurd (cc)
both_plain (wait vs) no false false false true e f g h = refl
both_plain (wait vs) no false false false false e f g h = absurd (cc)
both_plain (wait vs) (wait ws) false false true y e f g h = absurd (cc)
both_plain (wait vs) (wait ws) false false false true e f g h = absurd (cc)
both_plain (wait vs) (wait ws) false false false false e f g h = refl

-- two structures
heads_plain : (n c : Bool) (a : Answer) (p q : Bool) → (c ≡ true → plain a ≡ plain_same (passive_of p q)) → (c ≡ false → p ≡ false) → plain (if n && c then a else no) ≡ plain_same (passive_of (n && p) (if n && c then q else true))
heads_plain true true a p q h k = h refl
heads_plain true false a p q h k = ap (λ z. plain_same (passive_of z true)) (sym (k refl))
heads_plain false c a p q h k = refl

and_none : (p q : Bool) → q ≡ false → p && q ≡ false
and_none true q e = e
and_none false q e = refl

before_true : (m n : ℕ) → suc m == suc n ≡ true → m == n ≡ true
before_true m n e =
    let h : suc m ≡ suc n = eqb-true (suc m) (suc n) e in
    let q : m ≡ n = omega arith in
    eq-eqb m n q

before_false : (m n : ℕ) → suc m == suc n ≡ false → m == n ≡ false
before_false m n e = false_from_ne_true (m == n) (λ s. false≢true (sym e ∙ eq-eqb (suc m) (suc n) (ap suc (eqb-true m n s))))

counts_tell : (ts us : Terms) → count_of ts == count_of us ≡ false → same_terms ts us ≡ false
counts_tell none none e = absurd (false≢true (sym e))
counts_tell none (more u us) e = refl
counts_tell (more t ts) none e = refl
counts_tell (more t ts) (more u us) e = and_none (same_term t u) (same_terms ts us) (counts_tell ts us (before_false (count_of ts) (count_of us) e))

-- terms that are the same don't clash
quiet : (t u : Term) → same_term t u ≡ true → clash t u ≡ false
quiet t u e = ap (clash t) (sym ((same_term_decides t u).0 e)) ∙ no_clash t

quiet_each : (ts us : Terms) → same_terms ts us ≡ true → any_clash ts us ≡ false
quiet_each none us e = refl
quiet_each (more t ts) none e = refl
quiet_each (more t ts) (more u us) e =
    let p = and_parts (same_term t u) (same_terms ts us) e in
    or_from (clash t u) (any_clash ts us) (quiet t u p.0) (quiet_each ts us p.1)

mutual
  pub compare_plain : ComparisonsStand
  compare_plain (variable v) (variable w) = variables_plain v w (v == w)
  compare_plain (variable v) (integer j) = refl
  compare_plain (variable v) (atom b) = refl
  compare_plain (variable v) (structure g us) = refl
  compare_plain (integer i) (variable w) = refl
  compare_plain (integer i) (integer j) = known_plain (int_eq i j)
  compare_plain (integer i) (atom b) = refl
  compare_plain (integer i) (structure g us) = refl
  compare_plain (atom a) (variable w) = refl
  compare_plain (atom a) (integer j) = refl
  compare_plain (atom a) (atom b) = known_plain (bytes_eq a b)
  compare_plain (atom a) (structure g us) = refl
  compare_plain (structure f ts) (variable w) = refl
  compare_plain (structure f ts) (integer j) = refl
  compare_plain (structure f ts) (atom b) = refl
  compare_plain (structure f ts) (structure g us) =
      heads_plain (bytes_eq f g) (count_of ts == count_of us) (compare_each ts us) (same_terms ts us) (any_clash ts us) (each_plain ts us) (counts_tell ts us)

  each_plain : (ts us : Terms) → count_of ts == count_of us ≡ true → plain (compare_each ts us) ≡ plain_same (passive_of (same_terms ts us) (any_clash ts us))
  each_plain none none e = refl
  each_plain none (more u us) e = let h : 0 ≡ suc (count_of us) = eqb-true 0 (suc (count_of us)) e in absurd (omega arith)
  each_plain (more t ts) none e = let h : suc (count_of ts) ≡ 0 = eqb-true (suc (count_of ts)) 0 e in absurd (omega arith)
  each_plain (more t ts) (more u us) e =
      both_plain (compare t u) (compare_each ts us) (same_term t u) (clash t u) (same_terms ts us) (any_clash ts us) (compare_plain t u) (each_plain ts us (before_true (count_of ts) (count_of us) e)) (quiet t u) (quiet_each ts us)

-- ---- yes and no

was_same : (p : Passive) → plain_same p ≡ surely → p ≡ same
was_same same e = refl
was_same differs e = absurd (cc)
was_same unknown e = absurd (cc)

was_other : (p : Passive) → plain_same p ≡ never → p ≡ differs
was_other same e = absurd (cc)
was_other differs e = refl
was_other unknown e = absurd (cc)

was_never : (a : Answer) → plain a ≡ never → a ≡ no
was_never yes e = absurd (cc)
was_never no e = refl
was_never (wait vs) e = absurd (cc)

pub compare_is_equal : CompareIsEqual
compare_is_equal t u = (
  λ e. (same_is_equal t u).0 (was_same (passive t u) (sym (compare_plain t u) ∙ ap plain e)),
  λ e. ap (compare t) (sym e) ∙ compare_self t,
)

pub compare_is_on_path : CompareIsOnPath
compare_is_on_path t u = (
  λ e. (differs_on_path t u).0 (was_other (passive t u) (sym (compare_plain t u) ∙ ap plain e)),
  λ d. was_never (compare t u) (compare_plain t u ∙ ap plain_same ((differs_on_path t u).1 d)),
)
