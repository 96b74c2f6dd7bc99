-- The lists of a store after each growth.
use Rattle.std.proofs.Common.{◌≡◌, ℕ, suc, ◌+◌, ◌-◌, ◌<◌, ◌≤◌, ◌==◌, false, if◌then◌else◌, List, [], ◌∷◌, ◌++◌, length, get_or, take, drop, refl, sym, ap, ◌∙◌, arith, subst, length-append, length-drop}
use Rattle.std.specs.Prelude.{Option, Some, slice_get}
use Rattle.std.proofs.lemmas.Bool.{eqb-false, or_parts}
use Rattle.std.proofs.lemmas.List.{length-take-le, take_all}
use Rattle.kl1_model.specs.Term.{occurs}
use Rattle.kl1_store.specs.declared.cell.Cell.{Cell}
use Rattle.kl1_store.specs.declared.cell.Cell.TheVariants.{Variable}
use Rattle.kl1_store.specs.declared.binding.Binding.{Binding}
use Rattle.kl1_store.specs.declared.node.Node.{Node}
use Rattle.kl1_store.specs.declared.mark.Mark.{Mark}
use Rattle.kl1_store.specs.Held.{Shape, Held, with_structure, is_bound, found, IsIn, AreIn, IsLower, arguments_of, shape_arguments, sizes_of}
use Rattle.kl1_store.specs.Meaning.{term_of}
use Rattle.kl1_store.specs.Sound.{Bound, IsFormed, Grown}
use Rattle.kl1_store.specs.Slots.{AreBelow}
use Rattle.kl1_store.specs.Inside.{shapes_in, AreLaid, held_in, IsInside, most}
use Rattle.kl1_store.proofs.Meanings.{if_same, if_other}
use Rattle.kl1_store.proofs.Growing.{IsFormed-more, IsFormed-structure, IsFormed-binding}
use Rattle.kl1_store.proofs.Laid.{length-shapes_in, slice_get-part, shapes_in-push, shapes_in-take, AreLaid-push, StandsAt, shape_stands}

pub found_unbound : {N : Type 0} (v : ℕ) (bs : List (Binding N)) → is_bound v bs ≡ false → found v bs ≡ Variable v
found_unbound v [] h = refl
found_unbound v (b ∷ bs) h =
    let p = or_parts (b.variable == v) (is_bound v bs) h in
    if_other b.value (found v bs) b.variable v (eqb-false b.variable v p.0) ∙ found_unbound v bs p.1

pub found-push_same : {N : Type 0} (v : ℕ) (bs : List (Binding N)) (b : Binding N) → is_bound v bs ≡ false → b.variable ≡ v → found v (bs ++ b ∷ []) ≡ b.value
found-push_same v [] b h e = if_same b.value (Variable v) b.variable v e
found-push_same v (x ∷ bs) b h e =
    let p = or_parts (x.variable == v) (is_bound v bs) h in
    if_other x.value (found v (bs ++ b ∷ [])) x.variable v (eqb-false x.variable v p.0) ∙ found-push_same v bs b p.1 e

pub found-push_other : {N : Type 0} (v : ℕ) (bs : List (Binding N)) (b : Binding N) → (b.variable ≡ v → ⊥) → found v (bs ++ b ∷ []) ≡ found v bs
found-push_other v [] b ne = if_other b.value (Variable v) b.variable v ne
found-push_other {N = N} v (x ∷ bs) b ne = ap (λ (y : Cell N). if x.variable == v then x.value else y) (found-push_other v bs b ne)

-- with more variables
pub IsInside-more : {N : Type 0} (variables more : ℕ) (nodes : List (Node N)) (arguments : List (Cell N)) (bindings after : List (Binding N)) →
    IsInside variables nodes arguments bindings → variables ≤ more → more ≤ most → after ≡ bindings → IsInside more nodes arguments after
IsInside-more {N = N} variables more nodes arguments bindings after h le fits e =
    let P : List (Binding N) → Type 0 = λ l. IsInside more nodes arguments l in
    subst P (sym e) (record {
      formed = IsFormed-more (held_in variables nodes arguments bindings) more le h.formed;
      laid = h.laid;
      variables_fit = fits;
      structures_fit = h.structures_fit;
      arguments_fit = h.arguments_fit;
    })

-- variables below a number
bound_below : {N : Type 0} (vs : ℕ) (ss : List (Shape N)) (before bs : List (Binding N)) → Bound vs ss before bs → AreBelow vs bs
bound_below vs ss before [] h = tt
bound_below vs ss before (b ∷ bs) h = (h.0.inside, bound_below vs ss (before ++ b ∷ []) bs h.1)

-- where a structure stands
pub stands : {N : Type 0} (variables : ℕ) (nodes : List (Node N)) (arguments : List (Cell N)) (bindings : List (Binding N)) (i : ℕ) (n : Node N) →
    IsInside variables nodes arguments bindings → i < length nodes → n ≡ get_or nodes i n → StandsAt 0 nodes arguments i n
stands variables nodes arguments bindings i n h lt e =
    let P : ℕ → Type 0 = λ m. AreLaid 0 nodes m in
    shape_stands 0 nodes arguments i n (subst P (omega arith) h.laid) lt e

pub shapes-push : {N : Type 0} (variables : ℕ) (nodes : List (Node N)) (arguments : List (Cell N)) (bindings : List (Binding N)) (n : Node N) (ys : List (Cell N)) →
    IsInside variables nodes arguments bindings → length ys ≡ n.count → shapes_in (arguments ++ ys) (nodes ++ n ∷ []) ≡ shapes_in arguments nodes ++ record { name = n.name; arguments = ys } ∷ []
shapes-push variables nodes arguments bindings n ys h e =
    let P : ℕ → Type 0 = λ m. AreLaid 0 nodes m in
    shapes_in-push 0 nodes n arguments ys (subst P (omega arith) h.laid) e

pub IsInside-structure : {N : Type 0} (variables : ℕ) (nodes : List (Node N)) (arguments : List (Cell N)) (bindings : List (Binding N)) (n : Node N) (ys : List (Cell N)) →
    IsInside variables nodes arguments bindings → AreIn (held_in variables nodes arguments bindings) ys → n.start ≡ length arguments → length ys ≡ n.count →
    suc (length nodes) ≤ most → length arguments + length ys ≤ most → IsInside variables (nodes ++ n ∷ []) (arguments ++ ys) bindings
IsInside-structure {N = N} variables nodes arguments bindings n ys h inside start count fits room =
    let P : List (Shape N) → Type 0 = λ l. IsFormed (record (held_in variables nodes arguments bindings) { structures = l }) in
    let L : ℕ → Type 0 = λ m. AreLaid 0 (nodes ++ n ∷ []) m in
    record {
      formed = subst P (sym (shapes-push variables nodes arguments bindings n ys h count)) (IsFormed-structure (held_in variables nodes arguments bindings) n.name ys h.formed inside);
      laid = subst L (omega (arith, length-append arguments ys)) (AreLaid-push 0 nodes n (length arguments) h.laid start);
      variables_fit = h.variables_fit;
      structures_fit = omega (arith, length-append nodes (n ∷ []));
      arguments_fit = omega (arith, length-append arguments ys);
    }

pub IsInside-binding : {N : Type 0} (variables : ℕ) (nodes : List (Node N)) (arguments : List (Cell N)) (bindings : List (Binding N)) (v : ℕ) (x : Cell N) →
    IsInside variables nodes arguments bindings → suc v ≤ variables → IsIn (held_in variables nodes arguments bindings) x → is_bound v bindings ≡ false → IsLower v x →
    ((f : N → List ℕ) → occurs v (term_of f (held_in variables nodes arguments bindings) x) ≡ false) →
    IsInside variables nodes arguments (bindings ++ record { variable = v; value = x } ∷ [])
IsInside-binding variables nodes arguments bindings v x h inside known unbound lower free = record {
  formed = IsFormed-binding (held_in variables nodes arguments bindings) v x h.formed inside known unbound lower free;
  laid = h.laid;
  variables_fit = h.variables_fit;
  structures_fit = h.structures_fit;
  arguments_fit = h.arguments_fit;
}

-- contents stay inside with one binding more, also under a name of their own
pub bound_at : {N : Type 0} (variables : ℕ) (nodes : List (Node N)) (arguments : List (Cell N)) (bindings after : List (Binding N)) (v : ℕ) (x : Cell N) (h : Held N) →
    IsInside variables nodes arguments bindings → held_in variables nodes arguments bindings ≡ h → after ≡ bindings ++ record { variable = v; value = x } ∷ [] →
    suc v ≤ h.variables → IsIn h x → is_bound v h.bindings ≡ false → IsLower v x → ((f : N → List ℕ) → occurs v (term_of f h x) ≡ false) →
    IsInside variables nodes arguments after
bound_at {N = N} variables nodes arguments bindings after v x h inside e is le known unbound lower free =
    let P : List (Binding N) → Type 0 = λ l. IsInside variables nodes arguments l in
    let A : Held N → Type 0 = λ k. suc v ≤ k.variables in
    let B : Held N → Type 0 = λ k. IsIn k x in
    let C : Held N → Type 0 = λ k. is_bound v k.bindings ≡ false in
    let D : Held N → Type 0 = λ k. (f : N → List ℕ) → occurs v (term_of f k x) ≡ false in
    subst P (sym is) (IsInside-binding variables nodes arguments bindings v x inside (subst A (sym e) le) (subst B (sym e) known) (subst C (sym e) unbound) lower (subst D (sym e) free))

pub built_at : {N : Type 0} (variables : ℕ) (nodes after : List (Node N)) (arguments all : List (Cell N)) (bindings : List (Binding N)) (n : Node N) (ys : List (Cell N)) (h : Held N) →
    IsInside variables nodes arguments bindings → held_in variables nodes arguments bindings ≡ h → after ≡ nodes ++ n ∷ [] → all ≡ arguments ++ ys → AreIn h ys →
    n.start ≡ length arguments → length ys ≡ n.count → suc (length nodes) ≤ most → length arguments + length ys ≤ most →
    IsInside variables after all bindings × (held_in variables after all bindings ≡ with_structure h n.name ys)
built_at {N = N} variables nodes after arguments all bindings n ys h inside e is are known start count fits room =
    let P : List (Node N) → Type 0 = λ l. IsInside variables l all bindings in
    let Q : List (Cell N) → Type 0 = λ l. IsInside variables (nodes ++ n ∷ []) l bindings in
    let B : Held N → Type 0 = λ k. AreIn k ys in
    let held : List (Shape N) → Held N = λ l. record (held_in variables nodes arguments bindings) { structures = l } in (
      subst P (sym is) (subst Q (sym are) (IsInside-structure variables nodes arguments bindings n ys inside (subst B (sym e) known) start count fits room)),
      ap (λ l. held_in variables l all bindings) is ∙ ap (λ l. held_in variables (nodes ++ n ∷ []) l bindings) are
          ∙ ap held (shapes-push variables nodes arguments bindings n ys inside count) ∙ ap (λ k. with_structure k n.name ys) e,
    )

-- what reading a structure gives
pub record ReadAt {N : Type 0} (h : Held N) (arguments : List (Cell N)) (i : ℕ) (n : Node N) : Type 0 where
  pub name : slice_get h.structures i ≡ Some (record { name = n.name; arguments = arguments_of h i })
  pub count : n.count ≡ length (arguments_of h i)
  pub fits : n.start + n.count ≤ length arguments
  pub are : arguments_of h i ≡ take n.count (drop n.start arguments)

pub read_at : {N : Type 0} (variables : ℕ) (nodes : List (Node N)) (arguments : List (Cell N)) (bindings : List (Binding N)) (i : ℕ) (n : Node N) (h : Held N) →
    IsInside variables nodes arguments bindings → held_in variables nodes arguments bindings ≡ h → i < length h.structures → n ≡ get_or nodes i n → ReadAt h arguments i n
read_at {N = N} variables nodes arguments bindings i n h inside e lt is =
    let P : Held N → Type 0 = λ k. ReadAt k arguments i n in
    let Q : Held N → Type 0 = λ k. i < length k.structures in
    let lt' : i < length (shapes_in arguments nodes) = subst Q (sym e) lt in
    let at = stands variables nodes arguments bindings i n inside (omega (arith, length-shapes_in arguments nodes)) is in
    let R : ℕ → Type 0 = λ m. slice_get (shapes_in arguments nodes) i ≡ Some (record { name = n.name; arguments = take n.count (drop m arguments) }) in
    let got : slice_get (shapes_in arguments nodes) i ≡ Some (record { name = n.name; arguments = take n.count (drop n.start arguments) }) = subst R (omega arith) at.is in
    let are : shape_arguments (slice_get (shapes_in arguments nodes) i) ≡ take n.count (drop n.start arguments) = ap shape_arguments got in
    let shape : List (Cell N) → Option (Shape N) = λ l. Some (record { name = n.name; arguments = l }) in
    subst P e (record {
      name = got ∙ ap shape (sym are);
      count = sym (ap length are ∙ length-take-le n.count (drop n.start arguments) (omega (arith, length-drop n.start arguments, at.fits)));
      fits = omega (arith, at.fits);
      are = are;
    })

pub argument_read : {N : Type 0} (h : Held N) (arguments : List (Cell N)) (i k : ℕ) (n : Node N) (x : Cell N) →
    ReadAt h arguments i n → k < length (arguments_of h i) → x ≡ get_or arguments (n.start + k) x → slice_get (arguments_of h i) k ≡ Some x
argument_read h arguments i k n x at lt e =
    ap (λ l. slice_get l k) at.are ∙ slice_get-part arguments n.start n.count k x (omega (arith, at.count)) at.fits e

-- ---- taking back

-- the lists of a store that is taken back to what it held
pub record IsBack {N : Type 0} (variables : ℕ) (nodes : List (Node N)) (arguments : List (Cell N)) (bindings : List (Binding N)) (h : Held N) : Type 0 where
  pub inside : IsInside variables nodes arguments bindings
  pub held : held_in variables nodes arguments bindings ≡ h

pub record CutTo {N : Type 0} (nodes : List (Node N)) (arguments : List (Cell N)) (n : ℕ) (cut : List (Node N)) (rest : List (Cell N)) : Type 0 where
  pub shapes : shapes_in rest cut ≡ take n (shapes_in arguments nodes)
  pub laid : AreLaid 0 cut (length rest)
  pub nodes_fit : length cut ≤ length nodes
  pub arguments_fit : length rest ≤ length arguments

pub not_cut : {N : Type 0} (variables : ℕ) (nodes : List (Node N)) (arguments : List (Cell N)) (bindings : List (Binding N)) (n : ℕ) →
    IsInside variables nodes arguments bindings → length nodes ≤ n → CutTo nodes arguments n nodes arguments
not_cut variables nodes arguments bindings n inside le = record {
  shapes = sym (take_all n (shapes_in arguments nodes) (omega (arith, length-shapes_in arguments nodes)));
  laid = inside.laid;
  nodes_fit = omega arith;
  arguments_fit = omega arith;
}

pub cut_at : {N : Type 0} (variables : ℕ) (nodes cut : List (Node N)) (arguments rest : List (Cell N)) (bindings : List (Binding N)) (n : ℕ) (node : Node N) →
    IsInside variables nodes arguments bindings → n < length nodes → node ≡ get_or nodes n node → cut ≡ take n nodes → rest ≡ take node.start arguments → CutTo nodes arguments n cut rest
cut_at {N = N} variables nodes cut arguments rest bindings n node inside lt is e a =
    let L : ℕ → Type 0 = λ m. AreLaid 0 nodes m in
    let r = shapes_in-take 0 nodes arguments n node (subst L (omega arith) inside.laid) lt is in
    let at = stands variables nodes arguments bindings n node inside lt is in
    let start : node.start - 0 ≡ node.start = omega arith in
    let long : length (take node.start arguments) ≡ node.start = length-take-le node.start arguments (omega (arith, at.fits)) in
    let P : ℕ → Type 0 = λ m. shapes_in (take m arguments) (take n nodes) ≡ take n (shapes_in arguments nodes) in
    let Q : ℕ → Type 0 = λ m. AreLaid 0 (take n nodes) m in
    let S : List (Node N) → Type 0 = λ l. CutTo nodes arguments n l rest in
    let T : List (Cell N) → Type 0 = λ l. CutTo nodes arguments n (take n nodes) l in
    subst S (sym e) (subst T (sym a) (record {
      shapes = subst P start r.0;
      laid = subst Q (sym long) r.1;
      nodes_fit = omega (arith, length-take-le n nodes (omega arith));
      arguments_fit = omega (arith, long, at.fits);
    }))

pub taken_back : {N : Type 0} (variables : ℕ) (nodes cut : List (Node N)) (arguments rest : List (Cell N)) (bindings left : List (Binding N)) (old h : Held N) (m : Mark) →
    IsInside variables nodes arguments bindings → held_in variables nodes arguments bindings ≡ old → m ≡ sizes_of h → IsFormed h → Grown h old →
    left ≡ take m.bindings bindings → CutTo nodes arguments m.structures cut rest → IsBack m.variables cut rest left h
taken_back {N = N} variables nodes cut arguments rest bindings left old h m inside e sizes formed grown are cuts =
    let size : m.variables ≡ h.variables = ap (λ (k : Mark). k.variables) sizes in
    let structures : m.structures ≡ length h.structures = ap (λ (k : Mark). k.structures) sizes in
    let bound : m.bindings ≡ length h.bindings = ap (λ (k : Mark). k.bindings) sizes in
    let many : variables ≡ old.variables = ap (λ (k : Held N). k.variables) e in
    let shapes : shapes_in rest cut ≡ h.structures =
    cuts.shapes ∙ ap (λ k. take k (shapes_in arguments nodes)) structures ∙ ap (λ (k : Held N). take (length h.structures) k.structures) e ∙ grown.structures in
    let bs : left ≡ h.bindings = are ∙ ap (λ k. take k bindings) bound ∙ ap (λ (k : Held N). take (length h.bindings) k.bindings) e ∙ grown.bindings in
    let held : held_in m.variables cut rest left ≡ h =
    ap (λ k. record (held_in m.variables cut rest left) { variables = k }) size
    ∙ ap (λ (k : List (Shape N)). record { variables = h.variables; structures = k; bindings = left }) shapes
    ∙ ap (λ (k : List (Binding N)). record { variables = h.variables; structures = h.structures; bindings = k }) bs in
    let F : Held N → Type 0 = λ k. IsFormed k in
    record {
      inside = record {
        formed = subst F (sym held) formed;
        laid = cuts.laid;
        variables_fit = omega (arith, inside.variables_fit, grown.variables, many, size);
        structures_fit = omega (arith, inside.structures_fit, cuts.nodes_fit);
        arguments_fit = omega (arith, inside.arguments_fit, cuts.arguments_fit);
      };
      held = held;
    }

-- what a mark keeps is there, and its bindings are of its variables
pub record IsKeptBy {N : Type 0} (m : Mark) (vs : ℕ) (bindings : List (Binding N)) : Type 0 where
  pub variables : m.variables ≤ vs
  pub below : AreBelow m.variables (take m.bindings bindings)

pub kept_by : {N : Type 0} (variables : ℕ) (nodes : List (Node N)) (arguments : List (Cell N)) (bindings : List (Binding N)) (old h : Held N) (m : Mark) →
    held_in variables nodes arguments bindings ≡ old → m ≡ sizes_of h → IsFormed h → Grown h old → IsKeptBy m variables bindings
kept_by {N = N} variables nodes arguments bindings old h m e sizes formed grown =
    let size : m.variables ≡ h.variables = ap (λ (k : Mark). k.variables) sizes in
    let many : variables ≡ old.variables = ap (λ (k : Held N). k.variables) e in
    let bound : m.bindings ≡ length h.bindings = ap (λ (k : Mark). k.bindings) sizes in
    let first : take m.bindings bindings ≡ h.bindings = ap (λ k. take k bindings) bound ∙ ap (λ (k : Held N). take (length h.bindings) k.bindings) e ∙ grown.bindings in
    let P : List (Binding N) → Type 0 = λ l. AreBelow m.variables l in
    let Q : ℕ → Type 0 = λ n. AreBelow n h.bindings in
    record { variables = omega (arith, size, many, grown.variables); below = subst P (sym first) (subst Q (sym size) (bound_below h.variables h.structures [] h.bindings formed.bound)) }

-- contents of one size, from which the same has grown, are the same
pub same_held : {N : Type 0} (a b now : Held N) → sizes_of a ≡ sizes_of b → Grown a now → Grown b now → a ≡ b
same_held {N = N} a b now e p q =
    let structures : a.structures ≡ b.structures = sym p.structures ∙ ap (λ (k : Mark). take k.structures now.structures) e ∙ q.structures in
    let bindings : a.bindings ≡ b.bindings = sym p.bindings ∙ ap (λ (k : Mark). take k.bindings now.bindings) e ∙ q.bindings in
    ap (λ (k : Mark). record { variables = k.variables; structures = a.structures; bindings = a.bindings }) e
    ∙ ap (λ (k : List (Shape N)). record { variables = b.variables; structures = k; bindings = a.bindings }) structures
    ∙ ap (λ (k : List (Binding N)). record { variables = b.variables; structures = b.structures; bindings = k }) bindings
