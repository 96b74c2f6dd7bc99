-- Waiting equations, one binding after another.
use Rattle.std.proofs.Common.{◌≡◌, ℕ, zero, suc, ◌+◌, ◌<◌, ◌≤◌, ◌==◌, Bool, true, false, ◌||◌, List, [], ◌∷◌, ◌++◌, drop, refl, sym, ap, ◌∙◌, ◌⊎◌, inl, inr, arith, subst, append_assoc}
use Rattle.std.specs.Prelude.{Option, Some, None, option_map, Result, Ok, Err, IfOk, OnErr}
use Rattle.std.proofs.lemmas.List.{append-nil}
use Rattle.std.proofs.lemmas.Bool.{cases_eq, eq-eqb, cond-true, cond-false}
use Rattle.kl1_model.specs.declared.built_in.BuiltIn.{BuiltIn}
use Rattle.kl1_model.specs.Term.{Term, Terms, none, more, occurs, replace, replace_each, Replacement}
use Rattle.kl1_model.specs.Unify.{Equation, conflicts, eliminates, transformed, mgu, argument_equations, replace_in_all}
use Rattle.kl1_model.specs.code.Unifying.{after, bound_to}
use Rattle.kl1_model.proofs.UnifyRule.{front_decides, nothing_solved}
use Rattle.kl1_model.proofs.EqualSides.{equal_sides_dropped}
use Rattle.kl1_model.proofs.TermFacts.{same_term_decides}
use Rattle.kl1_text.specs.Reading.{Reads}
use Rattle.kl1_store.specs.declared.cell.Cell.{Cell}
use Rattle.kl1_store.specs.declared.binding.Binding.{Binding}
use Rattle.kl1_store.specs.declared.frame.Frame.{Frame}
use Rattle.kl1_store.specs.declared.meeting.Meeting.TheVariants.{Clash}
use Rattle.kl1_store.specs.Held.{Held, with_binding, is_bound, IsIn, arguments_of}
use Rattle.kl1_store.specs.Meaning.{replacements, term_of, terms_of}
use Rattle.kl1_store.specs.Sound.{IsFormed}
use Rattle.kl1_store.specs.Waiting.{rest_of, waiting, ArePairs}
use Rattle.kl1_store.specs.Meets.{MeetsAs, CanTake, Takes, Opens}
use Rattle.kl1_store.specs.Unifies.{ForEachReading, OnlyBound, Made, SettlesAs, BindsAs, equation_of}
use Rattle.kl1_store.proofs.Terms.{replacements-binding, terms_of-binding}

-- ---- how many variables are unbound

abbrev pub one_unless : Bool → ℕ
one_unless true = 0
one_unless false = 1

abbrev pub unbound_below : {N : Type 0} → ℕ → List (Binding N) → ℕ
unbound_below zero bs = 0
unbound_below (suc n) bs = one_unless (is_bound n bs) + unbound_below n bs

bound_too : {N : Type 0} (n : ℕ) (bs : List (Binding N)) (b : Binding N) → is_bound n bs ≡ true → is_bound n (bs ++ b ∷ []) ≡ true
bound_too n [] b h = absurd (cc)
bound_too n (x ∷ bs) b h = first (x.variable == n) (is_bound n bs) (is_bound n (bs ++ b ∷ [])) h (bound_too n bs b)
  where
    first : (p q r : Bool) → (p || q) ≡ true → (q ≡ true → r ≡ true) → (p || r) ≡ true
    first true q r e f = refl
    first false q r e f = f e

-- a test that stays if it holds
one_less : (p q : Bool) → (p ≡ true → q ≡ true) → one_unless q ≤ one_unless p
one_less true q f = let P : Bool → Type 0 = λ c. one_unless c ≤ 0 in subst P (sym (f refl)) (omega arith)
one_less false true f = omega arith
one_less false false f = omega arith

no_more : {N : Type 0} (n : ℕ) (bs : List (Binding N)) (b : Binding N) → unbound_below n (bs ++ b ∷ []) ≤ unbound_below n bs
no_more zero bs b = omega arith
no_more (suc n) bs b =
    let here = one_less (is_bound n bs) (is_bound n (bs ++ b ∷ [])) (bound_too n bs b) in
    let rest = no_more n bs b in
    omega arith

is_bound-push_same : {N : Type 0} (v : ℕ) (bs : List (Binding N)) (b : Binding N) → b.variable ≡ v → is_bound v (bs ++ b ∷ []) ≡ true
is_bound-push_same v [] b e = ap (λ c. c || false) (eq-eqb b.variable v e)
is_bound-push_same v (x ∷ bs) b e = or_later (x.variable == v) (is_bound v (bs ++ b ∷ [])) (is_bound-push_same v bs b e)
  where
    or_later : (p q : Bool) → q ≡ true → (p || q) ≡ true
    or_later true q h = refl
    or_later false q h = h

pub fewer_unbound : {N : Type 0} (n : ℕ) (bs : List (Binding N)) (b : Binding N) → b.variable < n → is_bound b.variable bs ≡ false → unbound_below n (bs ++ b ∷ []) < unbound_below n bs
fewer_unbound zero bs b lt u = absurd (omega arith)
fewer_unbound (suc n) bs b lt u = by_case (cases_eq b.variable n) (fewer_unbound n bs b)
  where
    by_case : (b.variable ≡ n) ⊎ (b.variable ≡ n → ⊥) → (b.variable < n → is_bound b.variable bs ≡ false → unbound_below n (bs ++ b ∷ []) < unbound_below n bs) → unbound_below (suc n) (bs ++ b ∷ []) < unbound_below (suc n) bs
    by_case (inl e) f =
        let P : ℕ → Type 0 = λ m. is_bound m bs ≡ false in
        let now : one_unless (is_bound n (bs ++ b ∷ [])) ≡ 0 = ap one_unless (is_bound-push_same n bs b e) in
        let was : one_unless (is_bound n bs) ≡ 1 = ap one_unless (subst P e u) in
        let rest = no_more n bs b in
        omega arith
    by_case (inr ne) f =
        let here = one_less (is_bound n bs) (is_bound n (bs ++ b ∷ [])) (bound_too n bs b) in
        let rest = f (omega arith) u in
        omega arith

-- ---- what waits, after a binding

replaced_arguments : (v : ℕ) (u : Term) (ts us : Terms) (es : List Equation) → argument_equations (replace_each v u ts) (replace_each v u us) (replace_in_all v u es) ≡ replace_in_all v u (argument_equations ts us es)
replaced_arguments v u none us es = refl
replaced_arguments v u (more t ts) none es = refl
replaced_arguments v u (more t ts) (more w us) es = ap (λ l. record { left = replace v u t; right = replace v u w } ∷ l) (replaced_arguments v u ts us es)

rest_of-binding : {N : Type 0} (f : N → List ℕ) (h : Held N) (v : ℕ) (x : Cell N) (p : Frame) (es : List Equation) →
    rest_of f (with_binding h v x) p (replace_in_all v (term_of f h x) es) ≡ replace_in_all v (term_of f h x) (rest_of f h p es)
rest_of-binding f h v x p es =
    let t = term_of f h x in
    let ls = drop p.next (arguments_of h p.left) in
    let rs = drop p.next (arguments_of h p.right) in
    ap (λ ts. argument_equations ts (terms_of f (with_binding h v x) rs) (replace_in_all v t es)) (terms_of-binding f h v x ls)
    ∙ ap (λ us. argument_equations (replace_each v t (terms_of f h ls)) us (replace_in_all v t es)) (terms_of-binding f h v x rs)
    ∙ replaced_arguments v t (terms_of f h ls) (terms_of f h rs) es

pub waiting-binding : {N : Type 0} (f : N → List ℕ) (h : Held N) (v : ℕ) (x : Cell N) (es : List Equation) (ps : List Frame) →
    waiting f (with_binding h v x) (replace_in_all v (term_of f h x) es) ps ≡ replace_in_all v (term_of f h x) (waiting f h es ps)
unfolding waiting
waiting-binding f h v x es [] = refl
waiting-binding f h v x es (p ∷ ps) =
    ap (λ l. waiting f (with_binding h v x) l ps) (rest_of-binding f h v x p es) ∙ waiting-binding f h v x (rest_of f h p es) ps

pub ArePairs-binding : {N : Type 0} (h : Held N) (v : ℕ) (x : Cell N) (ps : List Frame) → ArePairs h ps → ArePairs (with_binding h v x) ps
ArePairs-binding h v x [] p = tt
ArePairs-binding h v x (q ∷ ps) p =
    (record { left = p.0.left; right = p.0.right; left_count = p.0.left_count; right_count = p.0.right_count; next = p.0.next; name = p.0.name; left_shape = p.0.left_shape; right_shape = p.0.right_shape }, ArePairs-binding h v x ps p.1)

-- ---- the replacements so far, and what is still to be solved

pub record Leads {N : Type 0} (f : N → List ℕ) (old now : Held N) (start current : Option (List Replacement)) : Type 0 where
  pub made : List Replacement
  pub replacements : replacements f now ≡ replacements f old ++ made
  pub leads : start ≡ option_map (λ rest. made ++ rest) current

pub leads_start : {N : Type 0} (f : N → List ℕ) (h : Held N) (o : Option (List Replacement)) → Leads f h h o o
leads_start f h o = record { made = []; replacements = sym (append-nil (replacements f h)); leads = itself o }
  where
    itself : (p : Option (List Replacement)) → p ≡ option_map (λ rest. [] ++ rest) p
    itself None = refl
    itself (Some rs) = refl

mapped_twice : (rs : List Replacement) (r : Replacement) (o : Option (List Replacement)) → option_map (λ rest. rs ++ rest) (option_map (λ rest. r ∷ rest) o) ≡ option_map (λ rest. (rs ++ r ∷ []) ++ rest) o
mapped_twice rs r None = refl
mapped_twice rs r (Some qs) = ap Some (sym (append_assoc rs (r ∷ []) qs))

bound_fails : (v : ℕ) (t : Term) (es : List Equation) → occurs v t ≡ true → bound_to v t es ≡ conflicts
bound_fails v t es e = cond-true (occurs v t) conflicts (eliminates v t es) e

bound_binds : (v : ℕ) (t : Term) (es : List Equation) → occurs v t ≡ false → bound_to v t es ≡ eliminates v t es
bound_binds v t es e = cond-false (occurs v t) conflicts (eliminates v t es) e

-- one binding more
pub leads_on : {N : Type 0} (f : N → List ℕ) (old now : Held N) (start : Option (List Replacement)) (v : ℕ) (x : Cell N) (before ps : List Frame) →
    Leads f old now start (mgu (waiting f now [] before)) →
    mgu (waiting f now [] before) ≡ after mgu mgu (bound_to v (term_of f now x) (waiting f now [] ps)) →
    occurs v (term_of f now x) ≡ false →
    Leads f old (with_binding now v x) start (mgu (waiting f (with_binding now v x) [] ps))
leads_on f old now start v x before ps l next free =
    let r : Replacement = record { number = v; by = term_of f now x } in
    record {
      made = l.made ++ r ∷ [];
      replacements = replacements-binding f now v x ∙ ap (λ rs. rs ++ r ∷ []) l.replacements ∙ append_assoc (replacements f old) l.made (r ∷ []);
      leads =
          l.leads
          ∙ ap (λ o. option_map (λ rest. l.made ++ rest) o) (next ∙ ap (after mgu mgu) (bound_binds v (term_of f now x) (waiting f now [] ps) free))
          ∙ mapped_twice l.made r (mgu (replace_in_all v (term_of f now x) (waiting f now [] ps)))
          ∙ ap (λ es. option_map (λ rest. (l.made ++ r ∷ []) ++ rest) (mgu es)) (sym (waiting-binding f now v x [] ps));
    }

pub leads_nowhere : {N : Type 0} (f : N → List ℕ) (old now : Held N) (start : Option (List Replacement)) (v : ℕ) (x : Cell N) (before ps : List Frame) →
    Leads f old now start (mgu (waiting f now [] before)) →
    mgu (waiting f now [] before) ≡ after mgu mgu (bound_to v (term_of f now x) (waiting f now [] ps)) →
    occurs v (term_of f now x) ≡ true → start ≡ None
leads_nowhere f old now start v x before ps l next there =
    l.leads ∙ ap (λ o. option_map (λ rest. l.made ++ rest) o) (next ∙ ap (after mgu mgu) (bound_fails v (term_of f now x) (waiting f now [] ps) there))

pub leads_end : {N : Type 0} (f : N → List ℕ) (old now : Held N) (start current : Option (List Replacement)) → Leads f old now start current → current ≡ Some [] → Made f old now start
leads_end f old now start current l e = record {
  made = l.made;
  solves = l.leads ∙ ap (λ o. option_map (λ rest. l.made ++ rest) o) e ∙ ap Some (append-nil l.made);
  replacements = l.replacements;
}

pub leads_none : {N : Type 0} (f : N → List ℕ) (old now : Held N) (start current : Option (List Replacement)) → Leads f old now start current → current ≡ None → start ≡ None
leads_none f old now start current l e = l.leads ∙ ap (λ o. option_map (λ rest. l.made ++ rest) o) e

-- ---- only bindings are added

pub OnlyBound-same : {N : Type 0} (h : Held N) → OnlyBound h h
OnlyBound-same h = record { added = []; variables = refl; structures = refl; bindings = sym (append-nil h.bindings) }

pub OnlyBound-binding : {N : Type 0} (old now : Held N) (v : ℕ) (x : Cell N) → OnlyBound old now → OnlyBound old (with_binding now v x)
OnlyBound-binding {N = N} old now v x p =
    let b : Binding N = record { variable = v; value = x } in
    record {
      added = p.added ++ b ∷ [];
      variables = p.variables;
      structures = p.structures;
      bindings = ap (λ l. l ++ b ∷ []) p.bindings ∙ append_assoc old.bindings p.added (b ∷ []);
    }

-- ---- the loop over bindings

pub record Settling {N : Type 0} (built : BuiltIn → N) (old now : Held N) (start ps : List Frame) : Type 0 where
  pub pairs : ArePairs now ps
  pub bound : OnlyBound old now
  pub leads : (f : N → List ℕ) → Reads built f → Leads f old now (mgu (waiting f old [] start)) (mgu (waiting f now [] ps))

pub settling_start : {N : Type 0} (built : BuiltIn → N) (h : Held N) (ps : List Frame) → ArePairs h ps → Settling built h h ps ps
settling_start built h ps p = record { pairs = p; bound = OnlyBound-same h; leads = λ f reads. leads_start f h (mgu (waiting f h [] ps)) }

pub record NextBinding {N : Type 0} (built : BuiltIn → N) (h : Held N) (before ps : List Frame) (v : ℕ) (x : Cell N) : Type 0 where
  pub can : CanTake h v x
  pub pairs : ArePairs h ps
  pub next : ForEachReading built (λ f. mgu (waiting f h [] before) ≡ after mgu mgu (bound_to v (term_of f h x) (waiting f h [] ps)))

pub settling_on : {N : Type 0} (built : BuiltIn → N) (old now new : Held N) (start before ps : List Frame) (v : ℕ) (x : Cell N) → Settling built old now start before →
    NextBinding built now before ps v x → BindsAs now new v x true →
    Settling built old new start ps × (unbound_below new.variables new.bindings < unbound_below now.variables now.bindings)
settling_on {N = N} built old now new start before ps v x s n b =
    let P : Held N → Type 0 = λ h. Settling built old h start ps × (unbound_below h.variables h.bindings < unbound_below now.variables now.bindings) in
    subst P (sym b.0) (
      record {
        pairs = ArePairs-binding now v x ps n.pairs;
        bound = OnlyBound-binding old now v x s.bound;
        leads = λ f reads. leads_on f old now (mgu (waiting f old [] start)) v x before ps (s.leads f reads) (n.next f reads) (b.1 f);
      },
      fewer_unbound now.variables now.bindings (record { variable = v; value = x }) n.can.inside n.can.unbound,
    )

pub settling_stops : {N : Type 0} (built : BuiltIn → N) (old now new : Held N) (start before ps : List Frame) (v : ℕ) (x : Cell N) → Settling built old now start before →
    NextBinding built now before ps v x → BindsAs now new v x false → SettlesAs built old new (λ f. waiting f old [] start) false
settling_stops built old now new start before ps v x s n b = λ f reads.
    leads_nowhere f old now (mgu (waiting f old [] start)) v x before ps (s.leads f reads) (n.next f reads) (b.1 f)

pub settling_ends : {N : Type 0} (built : BuiltIn → N) (old now : Held N) (start ps : List Frame) → Settling built old now start ps →
    ForEachReading built (λ f. mgu (waiting f now [] ps) ≡ Some []) → SettlesAs built old now (λ f. waiting f old [] start) true
settling_ends built old now start ps s e = λ f reads.
    leads_end f old now (mgu (waiting f old [] start)) (mgu (waiting f now [] ps)) (s.leads f reads) (e f reads)

pub settling_fails : {N : Type 0} (built : BuiltIn → N) (old now : Held N) (start ps : List Frame) → Settling built old now start ps →
    ForEachReading built (λ f. mgu (waiting f now [] ps) ≡ None) → SettlesAs built old now (λ f. waiting f old [] start) false
settling_fails built old now start ps s e = λ f reads.
    leads_none f old now (mgu (waiting f old [] start)) (mgu (waiting f now [] ps)) (s.leads f reads) (e f reads)

-- ---- a single equation

abbrev pub Stands : {N : Type 0} → Held N → Cell N → Cell N → Type 0
Stands h x y = (f : _) → term_of f h x ≡ term_of f h y

same_equation : {N : Type 0} (f : N → List ℕ) (h : Held N) (l r x y : Cell N) → Stands h x l → Stands h y r → equation_of f h x y ≡ equation_of f h l r
same_equation f h l r x y p q =
    let equation : Term → Term → List Equation = λ t u. record { left = t; right = u } ∷ [] in
    ap (λ t. equation t (term_of f h y)) (p f) ∙ ap (equation (term_of f h l)) (q f)

-- two cells and what they stand for
pub record OneEquation {N : Type 0} (h : Held N) (l r x y : Cell N) : Type 0 where
  pub formed : IsFormed h
  pub left_in : IsIn h x
  pub right_in : IsIn h y
  pub left_means : Stands h x l
  pub right_means : Stands h y r

one_decides : {N : Type 0} (f : N → List ℕ) (h : Held N) (l r x y : Cell N) → OneEquation h l r x y →
    mgu (equation_of f h l r) ≡ after mgu mgu (transformed (term_of f h x) (term_of f h y) [])
one_decides f h l r x y one =
    ap mgu (sym (same_equation f h l r x y one.left_means one.right_means))
    ∙ front_decides (record { left = term_of f h x; right = term_of f h y }) []

pub one_same : {N : Type 0} (built : BuiltIn → N) (h : Held N) (l r x y : Cell N) → OneEquation h l r x y → Stands h x y → SettlesAs built h h (λ f. equation_of f h l r) true
one_same built h l r x y one same = λ f reads. record {
  made = [];
  solves =
      ap mgu (sym (same_equation f h l r x y one.left_means one.right_means))
      ∙ equal_sides_dropped (record { left = term_of f h x; right = term_of f h y }) [] ((same_term_decides (term_of f h x) (term_of f h y)).1 (same f))
      ∙ nothing_solved;
  replacements = sym (append-nil (replacements f h));
}

pub one_clash : {N : Type 0} (built : BuiltIn → N) (h : Held N) (l r x y : Cell N) → OneEquation h l r x y → MeetsAs built h x y Clash → SettlesAs built h h (λ f. equation_of f h l r) false
one_clash built h l r x y one clash = λ f reads. one_decides f h l r x y one ∙ ap (after mgu mgu) (clash f reads [])

pub one_binds : {N : Type 0} (built : BuiltIn → N) (h new : Held N) (l r x y : Cell N) (v : ℕ) (z : Cell N) → OneEquation h l r x y → Takes h x y v z → BindsAs h new v z true →
    SettlesAs built h new (λ f. equation_of f h l r) true × OnlyBound h new
one_binds {N = N} built h new l r x y v z one takes b =
    let P : Held N → Type 0 = λ k. SettlesAs built h k (λ f. equation_of f h l r) true × OnlyBound h k in
    subst P (sym b.0) (
      (λ f reads. record {
        made = record { number = v; by = term_of f h z } ∷ [];
        solves =
            one_decides f h l r x y one ∙ ap (after mgu mgu) (takes.leads f [] ∙ bound_binds v (term_of f h z) [] (b.1 f))
            ∙ ap (option_map (λ rest. record { number = v; by = term_of f h z } ∷ rest)) (nothing_solved);
        replacements = replacements-binding f h v z;
      }),
      OnlyBound-binding h h v z (OnlyBound-same h),
    )

pub one_cycle : {N : Type 0} (built : BuiltIn → N) (h new : Held N) (l r x y : Cell N) (v : ℕ) (z : Cell N) → OneEquation h l r x y → Takes h x y v z → BindsAs h new v z false →
    SettlesAs built h new (λ f. equation_of f h l r) false
one_cycle built h new l r x y v z one takes b = λ f reads.
    one_decides f h l r x y one ∙ ap (after mgu mgu) (takes.leads f [] ∙ bound_fails v (term_of f h z) [] (b.1 f))

-- what the binding comes to, if it is made and if it isn't
pub one_taken : {N : Type 0} (built : BuiltIn → N) (h new : Held N) (l r x y : Cell N) (v : ℕ) (z : Cell N) (b : Bool) → OneEquation h l r x y → Takes h x y v z → BindsAs h new v z b →
    SettlesAs built h new (λ f. equation_of f h l r) b
one_taken built h new l r x y v z true one takes p = (one_binds built h new l r x y v z one takes p).0
one_taken built h new l r x y v z false one takes p = one_cycle built h new l r x y v z one takes p

pub grown_taken : {N E : Type 0} (h new : Held N) (v : ℕ) (z : Cell N) (r : Result Bool E) → IfOk r (BindsAs h new v z) → OnErr r (new ≡ h) → OnlyBound h new
grown_taken {N = N} h new v z (Ok true) b e = let P : Held N → Type 0 = λ k. OnlyBound h k in subst P (sym b.0) (OnlyBound-binding h h v z (OnlyBound-same h))
grown_taken {N = N} h new v z (Ok false) b e = let P : Held N → Type 0 = λ k. OnlyBound h k in subst P (sym b.0) (OnlyBound-same h)
grown_taken {N = N} h new v z (Err x) b e = let P : Held N → Type 0 = λ k. OnlyBound h k in subst P (sym e) (OnlyBound-same h)

pub one_opens : {N : Type 0} (h : Held N) (l r x y : Cell N) (p : Frame) → OneEquation h l r x y → Opens h x y p → (f : N → List ℕ) →
    mgu (equation_of f h l r) ≡ mgu (waiting f h [] (p ∷ []))
unfolding waiting
one_opens h l r x y p one opens f = one_decides f h l r x y one ∙ ap (after mgu mgu) (opens.leads f [])

-- the answer for what waits is the answer for the equation
pub settled_at : {N : Type 0} (built : BuiltIn → N) (h new : Held N) (l r x y : Cell N) (p : Frame) (ps : List Frame) (b : Bool) → OneEquation h l r x y → Opens h x y p → ps ≡ p ∷ [] →
    SettlesAs built h new (λ f. waiting f h [] ps) b → SettlesAs built h new (λ f. equation_of f h l r) b
settled_at {N = N} built h new l r x y p ps true one opens e s = λ f reads.
    let m = s f reads in
    record { made = m.made; solves = one_opens h l r x y p one opens f ∙ ap (λ k. mgu (waiting f h [] k)) (sym e) ∙ m.solves; replacements = m.replacements }
settled_at built h new l r x y p ps false one opens e s = λ f reads.
    one_opens h l r x y p one opens f ∙ ap (λ k. mgu (waiting f h [] k)) (sym e) ∙ s f reads
