-- What is held, under other names: that it is formed, and levels, don't depend on names.
use Rattle.std.proofs.Common.{◌≡◌, ℕ, suc, ◌==◌, ◌||◌, Bool, true, false, if◌then◌else◌, List, [], ◌∷◌, ◌++◌, length, get_or, map, refl, sym, ap, ap₂, ◌∙◌, ◌⊎◌, inl, inr, arith, subst, zero}
use Rattle.std.specs.Prelude.{Some, slice_get, option_map}
use Rattle.std.proofs.lemmas.Bool.{cases_eq}
use Rattle.std.proofs.lemmas.List.{length-map, map-append}
use Rattle.std.proofs.lemmas.Option.{slice_get-map}
use Rattle.kl1_model.specs.Term.{Term, variable, integer, atom, structure, Terms, none, more, occurs, occurs_in, replace, replace_each, Replacement}
use Rattle.kl1_model.specs.code.Unifying.{replaced}
use Rattle.kl1_store.specs.declared.cell.Cell.{Cell}
use Rattle.kl1_store.specs.declared.cell.Cell.TheVariants.{Variable, Integer, Atom, Structure}
use Rattle.kl1_store.specs.declared.binding.Binding.{Binding}
use Rattle.kl1_store.specs.declared.levels.Levels.{Levels}
use Rattle.kl1_store.specs.declared.mark.Mark.{Mark}
use Rattle.kl1_store.specs.Held.{Held, Shape, is_bound, found, shape_arguments, arguments_of, IsWithin, AreWithin, IsLower}
use Rattle.kl1_store.specs.Meaning.{mean, means, shapes_from, replacements_from, unread}
use Rattle.kl1_store.specs.Sound.{Built, Bound, FitsNext, IsFormed}
use Rattle.kl1_store.specs.Levels.{level_at, LiesAt, IsLevel, AreLevels}
use Rattle.kl1_store.specs.Renames.{cell_renamed, shape_renamed, binding_renamed, held_renamed, renamed_since, unnamed}
use Rattle.kl1_store.proofs.Meanings.{if_same, if_other}
use Rattle.kl1_store.proofs.Changed.{mapped_bare}

-- a term without names
abbrev mutual
  plain : Term → Term
  plain (variable v) = variable v
  plain (integer i) = integer i
  plain (atom a) = atom []
  plain (structure a ts) = structure [] (each_plain ts)

  each_plain : Terms → Terms
  each_plain none = none
  each_plain (more t ts) = more (plain t) (each_plain ts)

abbrev plain_in : Replacement → Replacement
plain_in r = record { number = r.number; by = plain r.by }

mutual
  occurs_plain : (v : ℕ) (t : Term) → occurs v (plain t) ≡ occurs v t
  occurs_plain v (variable w) = refl
  occurs_plain v (integer i) = refl
  occurs_plain v (atom a) = refl
  occurs_plain v (structure a ts) = occurs_each_plain v ts

  occurs_each_plain : (v : ℕ) (ts : Terms) → occurs_in v (each_plain ts) ≡ occurs_in v ts
  occurs_each_plain v none = refl
  occurs_each_plain v (more t ts) = ap₂ (λ a b. a || b) (occurs_plain v t) (occurs_each_plain v ts)

plain_if : (b : Bool) (x y : Term) → plain (if b then x else y) ≡ (if b then plain x else plain y)
plain_if true x y = refl
plain_if false x y = refl

mutual
  plain_replace : (v : ℕ) (u t : Term) → plain (replace v u t) ≡ replace v (plain u) (plain t)
  plain_replace v u (variable n) = plain_if (n == v) u (variable n)
  plain_replace v u (integer i) = refl
  plain_replace v u (atom a) = refl
  plain_replace v u (structure a ts) = ap (structure []) (plain_replace_each v u ts)

  plain_replace_each : (v : ℕ) (u : Term) (ts : Terms) → each_plain (replace_each v u ts) ≡ replace_each v (plain u) (each_plain ts)
  plain_replace_each v u none = refl
  plain_replace_each v u (more t ts) = ap₂ more (plain_replace v u t) (plain_replace_each v u ts)

plain_replaced : (rs : List Replacement) (t : Term) → plain (replaced rs t) ≡ replaced (map plain_in rs) (plain t)
plain_replaced [] t = refl
plain_replaced (r ∷ rs) t = plain_replaced rs (replace r.number r.by t) ∙ ap (replaced (map plain_in rs)) (plain_replace r.number r.by t)

plain_at : (ts us : List Term) (s : ℕ) → map plain ts ≡ map plain us → plain (get_or ts s (atom [])) ≡ plain (get_or us s (atom []))
plain_at [] [] s e = refl
plain_at [] (u ∷ us) s e = absurd (cc)
plain_at (t ∷ ts) [] s e = absurd (cc)
plain_at (t ∷ ts) (u ∷ us) zero e = cc
plain_at (t ∷ ts) (u ∷ us) (suc s) e = plain_at ts us s (cc)

plain_mean : {N M : Type 0} (f : N → List ℕ) (e : M → List ℕ) (k : N → M) (ts us : List Term) (x : Cell N) → map plain ts ≡ map plain us → plain (mean f ts x) ≡ plain (mean e us (cell_renamed k x))
plain_mean f e k ts us (Variable v) same = refl
plain_mean f e k ts us (Integer i) same = refl
plain_mean f e k ts us (Atom a) same = refl
plain_mean f e k ts us (Structure s) same = plain_at ts us s same

plain_means : {N M : Type 0} (f : N → List ℕ) (e : M → List ℕ) (k : N → M) (ts us : List Term) (xs : List (Cell N)) → map plain ts ≡ map plain us →
    each_plain (means f ts xs) ≡ each_plain (means e us (map (cell_renamed k) xs))
plain_means f e k ts us [] same = refl
plain_means f e k ts us (x ∷ xs) same = ap₂ more (plain_mean f e k ts us x same) (plain_means f e k ts us xs same)

plain_push : (ts us : List Term) (t u : Term) → map plain ts ≡ map plain us → plain t ≡ plain u → map plain (ts ++ t ∷ []) ≡ map plain (us ++ u ∷ [])
plain_push ts us t u same e = map-append plain ts (t ∷ []) ∙ ap₂ (λ l x. l ++ x ∷ []) same e ∙ sym (map-append plain us (u ∷ []))

plain_shapes : {N M : Type 0} (f : N → List ℕ) (e : M → List ℕ) (k : N → M) (ts us : List Term) (ss : List (Shape N)) → map plain ts ≡ map plain us →
    map plain (shapes_from f ts ss) ≡ map plain (shapes_from e us (map (shape_renamed k) ss))
unfolding shapes_from
plain_shapes f e k ts us [] same = same
plain_shapes f e k ts us (s ∷ ss) same =
    plain_shapes f e k (ts ++ structure (f s.name) (means f ts s.arguments) ∷ []) (us ++ structure (e (k s.name)) (means e us (map (cell_renamed k) s.arguments)) ∷ []) ss
    (plain_push ts us _ _ same (ap (structure []) (plain_means f e k ts us s.arguments same)))

plain_by : {N M : Type 0} (f : N → List ℕ) (e : M → List ℕ) (k : N → M) (ts us : List Term) (rs qs : List Replacement) (x : Cell N) →
    map plain ts ≡ map plain us → map plain_in rs ≡ map plain_in qs → plain (replaced rs (mean f ts x)) ≡ plain (replaced qs (mean e us (cell_renamed k x)))
plain_by f e k ts us rs qs x same alike =
    plain_replaced rs (mean f ts x) ∙ ap₂ replaced alike (plain_mean f e k ts us x same) ∙ sym (plain_replaced qs (mean e us (cell_renamed k x)))

plain_in_push : (rs qs : List Replacement) (r q : Replacement) → map plain_in rs ≡ map plain_in qs → plain_in r ≡ plain_in q → map plain_in (rs ++ r ∷ []) ≡ map plain_in (qs ++ q ∷ [])
plain_in_push rs qs r q same e = map-append plain_in rs (r ∷ []) ∙ ap₂ (λ l x. l ++ x ∷ []) same e ∙ sym (map-append plain_in qs (q ∷ []))

plain_replacements : {N M : Type 0} (f : N → List ℕ) (e : M → List ℕ) (k : N → M) (ts us : List Term) (rs qs : List Replacement) (bs : List (Binding N)) →
    map plain ts ≡ map plain us → map plain_in rs ≡ map plain_in qs → map plain_in (replacements_from f ts rs bs) ≡ map plain_in (replacements_from e us qs (map (binding_renamed k) bs))
unfolding replacements_from
plain_replacements f e k ts us rs qs [] same alike = alike
plain_replacements f e k ts us rs qs (b ∷ bs) same alike =
    let by : Term → Replacement = λ t. record { number = b.variable; by = t } in
    plain_replacements f e k ts us (rs ++ by (replaced rs (mean f ts b.value)) ∷ []) (qs ++ by (replaced qs (mean e us (cell_renamed k b.value))) ∷ []) bs same
    (plain_in_push rs qs (by (replaced rs (mean f ts b.value))) (by (replaced qs (mean e us (cell_renamed k b.value)))) alike (ap by (plain_by f e k ts us rs qs b.value same alike)))

-- where a variable is doesn't depend on names
occurs_under : {N M : Type 0} (f : N → List ℕ) (e : M → List ℕ) (k : N → M) (ss : List (Shape N)) (bs : List (Binding N)) (v : ℕ) (x : Cell N) →
    occurs v (replaced (replacements_from f (shapes_from f [] ss) [] bs) (mean f (shapes_from f [] ss) x))
    ≡ occurs v (replaced (replacements_from e (shapes_from e [] (map (shape_renamed k) ss)) [] (map (binding_renamed k) bs)) (mean e (shapes_from e [] (map (shape_renamed k) ss)) (cell_renamed k x)))
occurs_under f e k ss bs v x =
    let ts = shapes_from f [] ss in
    let us = shapes_from e [] (map (shape_renamed k) ss) in
    let rs = replacements_from f ts [] bs in
    let qs = replacements_from e us [] (map (binding_renamed k) bs) in
    let same : map plain ts ≡ map plain us = plain_shapes f e k [] [] ss refl in
    sym (occurs_plain v (replaced rs (mean f ts x)))
    ∙ ap (occurs v) (plain_by f e k ts us rs qs x same (plain_replacements f e k ts us [] [] bs same refl))
    ∙ occurs_plain v (replaced qs (mean e us (cell_renamed k x)))

within_to : {N M : Type 0} (k : N → M) (vs n : ℕ) (x : Cell N) → IsWithin vs n x → IsWithin vs n (cell_renamed k x)
within_to k vs n (Variable v) h = h
within_to k vs n (Integer i) h = tt
within_to k vs n (Atom a) h = tt
within_to k vs n (Structure s) h = h

within_from : {N M : Type 0} (k : N → M) (vs n : ℕ) (x : Cell N) → IsWithin vs n (cell_renamed k x) → IsWithin vs n x
within_from k vs n (Variable v) h = h
within_from k vs n (Integer i) h = tt
within_from k vs n (Atom a) h = tt
within_from k vs n (Structure s) h = h

are_within_to : {N M : Type 0} (k : N → M) (vs n : ℕ) (xs : List (Cell N)) → AreWithin vs n xs → AreWithin vs n (map (cell_renamed k) xs)
are_within_to k vs n [] h = tt
are_within_to k vs n (x ∷ xs) h = (within_to k vs n x h.0, are_within_to k vs n xs h.1)

are_within_from : {N M : Type 0} (k : N → M) (vs n : ℕ) (xs : List (Cell N)) → AreWithin vs n (map (cell_renamed k) xs) → AreWithin vs n xs
are_within_from k vs n [] h = tt
are_within_from k vs n (x ∷ xs) h = (within_from k vs n x h.0, are_within_from k vs n xs h.1)

built_to : {N M : Type 0} (k : N → M) (vs n : ℕ) (ss : List (Shape N)) → Built vs n ss → Built vs n (map (shape_renamed k) ss)
built_to k vs n [] h = tt
built_to k vs n (s ∷ ss) h = (are_within_to k vs n s.arguments h.0, built_to k vs (suc n) ss h.1)

built_from : {N M : Type 0} (k : N → M) (vs n : ℕ) (ss : List (Shape N)) → Built vs n (map (shape_renamed k) ss) → Built vs n ss
built_from k vs n [] h = tt
built_from k vs n (s ∷ ss) h = (are_within_from k vs n s.arguments h.0, built_from k vs (suc n) ss h.1)

pub is_bound-renamed : {N M : Type 0} (k : N → M) (v : ℕ) (bs : List (Binding N)) → is_bound v (map (binding_renamed k) bs) ≡ is_bound v bs
is_bound-renamed k v [] = refl
is_bound-renamed k v (b ∷ bs) = ap (λ c. b.variable == v || c) (is_bound-renamed k v bs)

lower_to : {N M : Type 0} (k : N → M) (v : ℕ) (x : Cell N) → IsLower v x → IsLower v (cell_renamed k x)
lower_to k v (Variable w) h = h
lower_to k v (Integer i) h = tt
lower_to k v (Atom a) h = tt
lower_to k v (Structure s) h = tt

lower_from : {N M : Type 0} (k : N → M) (v : ℕ) (x : Cell N) → IsLower v (cell_renamed k x) → IsLower v x
lower_from k v (Variable w) h = h
lower_from k v (Integer i) h = tt
lower_from k v (Atom a) h = tt
lower_from k v (Structure s) h = tt

fits_to : {N M : Type 0} (k : N → M) (vs : ℕ) (ss : List (Shape N)) (before : List (Binding N)) (b : Binding N) →
    FitsNext vs ss before b → FitsNext vs (map (shape_renamed k) ss) (map (binding_renamed k) before) (binding_renamed k b)
fits_to k vs ss before b h =
    let W : ℕ → Type 0 = λ n. IsWithin vs n (cell_renamed k b.value) in
    record {
      inside = h.inside;
      value_inside = subst W (sym (length-map ss (shape_renamed k))) (within_to k vs (length ss) b.value h.value_inside);
      unbound = is_bound-renamed k b.variable before ∙ h.unbound;
      lower = lower_to k b.variable b.value h.lower;
      free = λ e. sym (occurs_under unread e k ss before b.variable b.value) ∙ h.free unread;
    }

fits_from : {N M : Type 0} (k : N → M) (vs : ℕ) (ss : List (Shape N)) (before : List (Binding N)) (b : Binding N) →
    FitsNext vs (map (shape_renamed k) ss) (map (binding_renamed k) before) (binding_renamed k b) → FitsNext vs ss before b
fits_from k vs ss before b h =
    let W : ℕ → Type 0 = λ n. IsWithin vs n (cell_renamed k b.value) in
    record {
      inside = h.inside;
      value_inside = within_from k vs (length ss) b.value (subst W (length-map ss (shape_renamed k)) h.value_inside);
      unbound = sym (is_bound-renamed k b.variable before) ∙ h.unbound;
      lower = lower_from k b.variable b.value h.lower;
      free = λ f. occurs_under f unread k ss before b.variable b.value ∙ h.free unread;
    }

bound_to : {N M : Type 0} (k : N → M) (vs : ℕ) (ss : List (Shape N)) (before bs : List (Binding N)) → Bound vs ss before bs → Bound vs (map (shape_renamed k) ss) (map (binding_renamed k) before) (map (binding_renamed k) bs)
bound_to k vs ss before [] h = tt
bound_to {M = M} k vs ss before (b ∷ bs) h =
    let P : List (Binding M) → Type 0 = λ l. Bound vs (map (shape_renamed k) ss) l (map (binding_renamed k) bs) in
    (fits_to k vs ss before b h.0, subst P (map-append (binding_renamed k) before (b ∷ [])) (bound_to k vs ss (before ++ b ∷ []) bs h.1))

bound_from : {N M : Type 0} (k : N → M) (vs : ℕ) (ss : List (Shape N)) (before bs : List (Binding N)) → Bound vs (map (shape_renamed k) ss) (map (binding_renamed k) before) (map (binding_renamed k) bs) → Bound vs ss before bs
bound_from k vs ss before [] h = tt
bound_from {M = M} k vs ss before (b ∷ bs) h =
    let P : List (Binding M) → Type 0 = λ l. Bound vs (map (shape_renamed k) ss) l (map (binding_renamed k) bs) in
    (fits_from k vs ss before b h.0, bound_from k vs ss (before ++ b ∷ []) bs (subst P (sym (map-append (binding_renamed k) before (b ∷ []))) h.1))

pub formed_to : {N M : Type 0} (k : N → M) (h : Held N) → IsFormed h → IsFormed (held_renamed k h)
formed_to k h f = record { built = built_to k h.variables 0 h.structures f.built; bound = bound_to k h.variables h.structures [] h.bindings f.bound }

formed_from : {N M : Type 0} (k : N → M) (h : Held N) → IsFormed (held_renamed k h) → IsFormed h
formed_from k h f = record { built = built_from k h.variables 0 h.structures f.built; bound = bound_from k h.variables h.structures [] h.bindings f.bound }

bare_cell : {N : Type 0} (g : N → N) (x : Cell N) → cell_renamed unnamed (cell_renamed g x) ≡ cell_renamed unnamed x
bare_cell g (Variable v) = refl
bare_cell g (Integer i) = refl
bare_cell g (Atom a) = refl
bare_cell g (Structure s) = refl

bare_cells : {N : Type 0} (g : N → N) (xs : List (Cell N)) → map (cell_renamed unnamed) (map (cell_renamed g) xs) ≡ map (cell_renamed unnamed) xs
bare_cells g [] = refl
bare_cells g (x ∷ xs) = ap₂ (λ (y : Cell (Unit {0})) (ys : List (Cell (Unit {0}))). y ∷ ys) (bare_cell g x) (bare_cells g xs)

-- other names since a mark are no change but for the names
pub bare_since : {N : Type 0} (g : N → N) (mark : Mark) (h : Held N) → held_renamed unnamed (renamed_since g mark h) ≡ held_renamed unnamed h
bare_since {N = N} g mark h =
    let make : List (Shape (Unit {0})) → List (Binding (Unit {0})) → Held (Unit {0}) = λ ss bs. record { variables = h.variables; structures = ss; bindings = bs } in
    let shape : List (Cell (Unit {0})) → Shape (Unit {0}) = λ xs. record { name = tt; arguments = xs } in
    ap₂ make
    (mapped_bare (shape_renamed unnamed) (shape_renamed g) mark.structures h.structures (λ s. ap shape (bare_cells g s.arguments)))
    (mapped_bare (binding_renamed unnamed) (binding_renamed g) mark.bindings h.bindings (λ b. let bind : Cell (Unit {0}) → Binding (Unit {0}) = λ x. record { variable = b.variable; value = x } in ap bind (bare_cell g b.value)))

-- what is formed but for its names is formed
pub formed_alike : {N : Type 0} (old new : Held N) → held_renamed unnamed new ≡ held_renamed unnamed old → IsFormed old → IsFormed new
formed_alike {N = N} old new e f =
    let P : Held (Unit {0}) → Type 0 = λ h. IsFormed h in
    formed_from unnamed new (subst P (sym e) (formed_to unnamed old f))

lies_to : {N M : Type 0} (k : N → M) (vs ss : ℕ → ℕ) (n : ℕ) (x : Cell N) → LiesAt vs ss n x → LiesAt vs ss n (cell_renamed k x)
lies_to k vs ss n (Variable v) h = h
lies_to k vs ss n (Integer i) h = tt
lies_to k vs ss n (Atom a) h = tt
lies_to k vs ss n (Structure s) h = h

lies_from : {N M : Type 0} (k : N → M) (vs ss : ℕ → ℕ) (n : ℕ) (x : Cell N) → LiesAt vs ss n (cell_renamed k x) → LiesAt vs ss n x
lies_from k vs ss n (Variable v) h = h
lies_from k vs ss n (Integer i) h = tt
lies_from k vs ss n (Atom a) h = tt
lies_from k vs ss n (Structure s) h = h

pub found-renamed : {N M : Type 0} (k : N → M) (v : ℕ) (bs : List (Binding N)) → found v (map (binding_renamed k) bs) ≡ cell_renamed k (found v bs)
found-renamed k v [] = refl
found-renamed k v (b ∷ bs) = by (cases_eq b.variable v) (found-renamed k v bs)
  where
    by : (b.variable ≡ v) ⊎ (b.variable ≡ v → ⊥) → found v (map (binding_renamed k) bs) ≡ cell_renamed k (found v bs) → found v (map (binding_renamed k) (b ∷ bs)) ≡ cell_renamed k (found v (b ∷ bs))
    by (inl e) rest = if_same (cell_renamed k b.value) (found v (map (binding_renamed k) bs)) b.variable v e ∙ ap (cell_renamed k) (sym (if_same b.value (found v bs) b.variable v e))
    by (inr ne) rest =
        if_other (cell_renamed k b.value) (found v (map (binding_renamed k) bs)) b.variable v ne
        ∙ rest
        ∙ ap (cell_renamed k) (sym (if_other b.value (found v bs) b.variable v ne))

arguments-renamed : {N M : Type 0} (k : N → M) (ss : List (Shape N)) (s : ℕ) → shape_arguments (slice_get (map (shape_renamed k) ss) s) ≡ map (cell_renamed k) (shape_arguments (slice_get ss s))
arguments-renamed k [] s = refl
arguments-renamed k (x ∷ ss) zero = refl
arguments-renamed k (x ∷ ss) (suc s) = arguments-renamed k ss s

-- an element of the renamed arguments
renamed_from : {N M : Type 0} (k : N → M) (xs : List (Cell N)) (i : ℕ) (y : Cell M) → slice_get (map (cell_renamed k) xs) i ≡ Some y → (x : Cell N) × (slice_get xs i ≡ Some x) × (cell_renamed k x ≡ y)
renamed_from k [] i y e = absurd (cc)
renamed_from k (x ∷ xs) zero y e = (x, refl, cc)
renamed_from k (x ∷ xs) (suc i) y e = renamed_from k xs i y e

level_to : {N M : Type 0} (k : N → M) (h : Held N) (vs ss : ℕ → ℕ) → IsLevel h vs ss → IsLevel (held_renamed k h) vs ss
level_to {N = N} {M = M} k h vs ss l = record {
  arguments = λ s i y e.
      let P : List (Cell M) → Type 0 = λ ys. slice_get ys i ≡ Some y in
      let x = renamed_from k (arguments_of h s) i y (subst P (arguments-renamed k h.structures s) e) in
      let Q : Cell M → Type 0 = λ z. LiesAt vs ss (ss s) z in
      subst Q x.2 (lies_to k vs ss (ss s) x.0 (l.arguments s i x.0 x.1));
  values = λ v. let Q : Cell M → Type 0 = λ z. LiesAt vs ss (vs v) z in subst Q (sym (found-renamed k v h.bindings)) (lies_to k vs ss (vs v) (found v h.bindings) (l.values v));
}

level_from : {N M : Type 0} (k : N → M) (h : Held N) (vs ss : ℕ → ℕ) → IsLevel (held_renamed k h) vs ss → IsLevel h vs ss
level_from {N = N} {M = M} k h vs ss l = record {
  arguments = λ s i x e.
      let P : List (Cell M) → Type 0 = λ ys. slice_get ys i ≡ Some (cell_renamed k x) in
      let there : slice_get (map (cell_renamed k) (arguments_of h s)) i ≡ Some (cell_renamed k x) = slice_get-map (cell_renamed k) (arguments_of h s) i ∙ ap (option_map (cell_renamed k)) e in
      lies_from k vs ss (ss s) x (l.arguments s i (cell_renamed k x) (subst P (sym (arguments-renamed k h.structures s)) there));
  values = λ v. let Q : Cell M → Type 0 = λ z. LiesAt vs ss (vs v) z in lies_from k vs ss (vs v) (found v h.bindings) (subst Q (found-renamed k v h.bindings) (l.values v));
}

-- levels of what is held are levels of what is held but for its names
pub levels_alike : {N : Type 0} (old new : Held N) (ls : Levels) → held_renamed unnamed new ≡ held_renamed unnamed old → AreLevels old ls → AreLevels new ls
levels_alike {N = N} old new ls e l =
    let vs = level_at ls.variables.items in
    let ss = level_at ls.structures.items in
    let P : Held (Unit {0}) → Type 0 = λ h. IsLevel h vs ss in
    let many : length new.structures ≡ length old.structures =
    sym (length-map new.structures (shape_renamed unnamed)) ∙ ap (λ (h : Held (Unit {0})). length h.structures) e ∙ length-map old.structures (shape_renamed unnamed) in
    record { level = level_from unnamed new vs ss (subst P (sym e) (level_to unnamed old vs ss l.level)); fit = omega (arith, l.fit, many) }
