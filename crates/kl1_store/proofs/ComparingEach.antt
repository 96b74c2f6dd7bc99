-- Comparing a list of cells, one after another.
use Rattle.std.proofs.Common.{◌≡◌, ℕ, ◌||◌, true, List, [], ◌∷◌, ◌++◌, ◌-◌, ◌<◌, ◌≤◌, length, get_or, take, drop, refl, sym, ap, ◌∙◌, ◌⊎◌, inl, inr, arith, subst}
use Rattle.std.proofs.lemmas.List.{take_all}
use Rattle.std.specs.Prelude.{◌↔◌}
use Rattle.kl1_store.specs.Done.{IsOf}
use Rattle.kl1_store.proofs.Comparing.{of_split, of_first, of_second}
use Rattle.kl1_model.specs.declared.built_in.BuiltIn.{BuiltIn}
use Rattle.kl1_model.specs.code.Comparing.{clash, awaited, clashes_with_some, some_clash, awaited_with, awaited_by}
use Rattle.kl1_text.specs.Reading.{Reads}
use Rattle.kl1_store.specs.declared.cell.Cell.{Cell}
use Rattle.kl1_store.specs.Held.{Held, AreIn}
use Rattle.kl1_store.specs.Meaning.{term_of}
use Rattle.kl1_store.specs.Compares.{Compared}
use Rattle.kl1_store.specs.ComparesEach.{term_list, ComparedWith, ComparedEach}

-- variables that were found for a part, with those of the rest
joined : (v : ℕ) (waits longer xs ys : List ℕ) (G : Type 0) → IsOf v longer ↔ (IsOf v waits ⊎ IsOf v xs) → (IsOf v waits ⊎ IsOf v (xs ++ ys)) ↔ G → (IsOf v longer ⊎ IsOf v ys) ↔ G
joined v waits longer xs ys G one all = (there, λ g. back (all.1 g))
  where
    found : IsOf v waits ⊎ IsOf v xs → G
    found (inl a) = all.0 (inl a)
    found (inr a) = all.0 (inr (of_first v xs ys a))

    there : IsOf v longer ⊎ IsOf v ys → G
    there (inl a) = found (one.0 a)
    there (inr a) = all.0 (inr (of_second v xs ys a))

    parts : IsOf v xs ⊎ IsOf v ys → IsOf v longer ⊎ IsOf v ys
    parts (inl a) = inl (one.1 (inr a))
    parts (inr a) = inr a

    back : IsOf v waits ⊎ IsOf v (xs ++ ys) → IsOf v longer ⊎ IsOf v ys
    back (inl a) = inl (one.1 (inl a))
    back (inr a) = parts (of_split v xs ys a)

nothing_left : (v : ℕ) (longer : List ℕ) (G : Type 0) → (IsOf v longer ⊎ IsOf v []) ↔ G → IsOf v longer ↔ G
nothing_left v longer G all = (λ a. all.0 (inl a), λ g. back (all.1 g))
  where
    back : IsOf v longer ⊎ IsOf v [] → IsOf v longer
    back (inl a) = a
    back (inr a) = absurd a

-- a cell was compared with those in front of these
pub record WithLeft {N : Type 0} (built : BuiltIn → N) (h : Held N) (x : Cell N) (all rest : List (Cell N)) (start longer : List ℕ) : Type 0 where
  pub inside : AreIn h rest
  pub clash : (f : N → List ℕ) → Reads built f → clashes_with_some (term_of f h x) (term_list f h rest) ≡ clashes_with_some (term_of f h x) (term_list f h all)
  pub awaited : (f : N → List ℕ) → Reads built f → (v : ℕ) → (IsOf v longer ⊎ IsOf v (awaited_with (term_of f h x) (term_list f h rest))) ↔ (IsOf v start ⊎ IsOf v (awaited_with (term_of f h x) (term_list f h all)))

pub with_start : {N : Type 0} (built : BuiltIn → N) (h : Held N) (x : Cell N) (all : List (Cell N)) (start : List ℕ) → AreIn h all → WithLeft built h x all all start start
with_start built h x all start inside = record { inside = inside; clash = λ f reads. refl; awaited = λ f reads v. (λ a. a, λ a. a) }

pub with_step : {N : Type 0} (built : BuiltIn → N) (h : Held N) (x y : Cell N) (all ys : List (Cell N)) (start waits longer : List ℕ) → WithLeft built h x all (y ∷ ys) start waits →
    ((f : N → List ℕ) → Reads built f → Compared f h x y waits longer) → WithLeft built h x all ys start longer
with_step built h x y all ys start waits longer w c = record {
  inside = w.inside.1;
  clash = λ f reads. sym (ap (λ b. b || clashes_with_some (term_of f h x) (term_list f h ys)) (c f reads).clash) ∙ w.clash f reads;
  awaited = λ f reads v. joined v waits longer (awaited (term_of f h x) (term_of f h y)) (awaited_with (term_of f h x) (term_list f h ys)) _ ((c f reads).awaited v) (w.awaited f reads v);
}

pub with_end : {N : Type 0} (built : BuiltIn → N) (h : Held N) (x : Cell N) (all : List (Cell N)) (start longer : List ℕ) → WithLeft built h x all [] start longer →
    (f : N → List ℕ) → Reads built f → ComparedWith f h x all start longer
with_end built h x all start longer w f reads = record { clash = sym (w.clash f reads); awaited = λ v. nothing_left v longer _ (w.awaited f reads v) }

-- the first of what is left was compared
pub with_step_at : {N : Type 0} (built : BuiltIn → N) (h : Held N) (x y : Cell N) (all rest : List (Cell N)) (start waits longer : List ℕ) → 1 ≤ length rest → y ≡ get_or rest 0 y → WithLeft built h x all rest start waits →
    ((f : N → List ℕ) → Reads built f → Compared f h x y waits longer) → WithLeft built h x all (take (length rest - 1) (drop 1 rest)) start longer
with_step_at built h x y all [] start waits longer le e w c = absurd (omega arith)
with_step_at {N = N} built h x y all (z ∷ zs) start waits longer le e w c =
    let P : List (Cell N) → Type 0 = λ l. WithLeft built h x all l start longer in
    let Q : Cell N → Type 0 = λ k. WithLeft built h x all (k ∷ zs) start waits in
    subst P (sym (take_all (length (z ∷ zs) - 1) zs (omega arith))) (with_step built h x y all zs start waits longer (subst Q (sym e) w) c)

pub with_end_at : {N : Type 0} (built : BuiltIn → N) (h : Held N) (x : Cell N) (all rest : List (Cell N)) (start longer : List ℕ) → length rest < 1 → WithLeft built h x all rest start longer →
    (f : N → List ℕ) → Reads built f → ComparedWith f h x all start longer
with_end_at built h x all [] start longer le w = with_end built h x all start longer w
with_end_at built h x all (z ∷ zs) start longer le w = absurd (omega arith)

pub with_clash : {N : Type 0} (built : BuiltIn → N) (h : Held N) (x y : Cell N) (all ys : List (Cell N)) (start waits : List ℕ) → WithLeft built h x all (y ∷ ys) start waits →
    ((f : N → List ℕ) → Reads built f → clash (term_of f h x) (term_of f h y) ≡ true) → (f : N → List ℕ) → Reads built f → clashes_with_some (term_of f h x) (term_list f h all) ≡ true
with_clash built h x y all ys start waits w c f reads =
    sym (w.clash f reads) ∙ ap (λ b. b || clashes_with_some (term_of f h x) (term_list f h ys)) (c f reads)

-- the cells in front of these were compared, each two and with these
pub record EachLeft {N : Type 0} (built : BuiltIn → N) (h : Held N) (all rest : List (Cell N)) (start longer : List ℕ) : Type 0 where
  pub inside : AreIn h rest
  pub clash : (f : N → List ℕ) → Reads built f → some_clash (term_list f h rest) ≡ some_clash (term_list f h all)
  pub awaited : (f : N → List ℕ) → Reads built f → (v : ℕ) → (IsOf v longer ⊎ IsOf v (awaited_by (term_list f h rest))) ↔ (IsOf v start ⊎ IsOf v (awaited_by (term_list f h all)))

pub each_start : {N : Type 0} (built : BuiltIn → N) (h : Held N) (all : List (Cell N)) (start : List ℕ) → AreIn h all → EachLeft built h all all start start
each_start built h all start inside = record { inside = inside; clash = λ f reads. refl; awaited = λ f reads v. (λ a. a, λ a. a) }

pub each_step : {N : Type 0} (built : BuiltIn → N) (h : Held N) (x : Cell N) (all xs : List (Cell N)) (start waits longer : List ℕ) → EachLeft built h all (x ∷ xs) start waits →
    ((f : N → List ℕ) → Reads built f → ComparedWith f h x xs waits longer) → EachLeft built h all xs start longer
each_step built h x all xs start waits longer w c = record {
  inside = w.inside.1;
  clash = λ f reads. sym (ap (λ b. b || some_clash (term_list f h xs)) (c f reads).clash) ∙ w.clash f reads;
  awaited = λ f reads v. joined v waits longer (awaited_with (term_of f h x) (term_list f h xs)) (awaited_by (term_list f h xs)) _ ((c f reads).awaited v) (w.awaited f reads v);
}

pub each_end : {N : Type 0} (built : BuiltIn → N) (h : Held N) (all : List (Cell N)) (start longer : List ℕ) → EachLeft built h all [] start longer →
    (f : N → List ℕ) → Reads built f → ComparedEach f h all start longer
each_end built h all start longer w f reads = record { clash = sym (w.clash f reads); awaited = λ v. nothing_left v longer _ (w.awaited f reads v) }

-- the first of what is left was compared with the others
pub each_step_at : {N : Type 0} (built : BuiltIn → N) (h : Held N) (x : Cell N) (all rest : List (Cell N)) (start waits longer : List ℕ) → 1 ≤ length rest → x ≡ get_or rest 0 x → EachLeft built h all rest start waits →
    ((f : N → List ℕ) → Reads built f → ComparedWith f h x (take (length rest - 1) (drop 1 rest)) waits longer) → EachLeft built h all (take (length rest - 1) (drop 1 rest)) start longer
each_step_at built h x all [] start waits longer le e w c = absurd (omega arith)
each_step_at {N = N} built h x all (z ∷ zs) start waits longer le e w c =
    let whole : take (length (z ∷ zs) - 1) zs ≡ zs = take_all (length (z ∷ zs) - 1) zs (omega arith) in
    let P : List (Cell N) → Type 0 = λ l. EachLeft built h all l start longer in
    let Q : Cell N → Type 0 = λ k. EachLeft built h all (k ∷ zs) start waits in
    let R : List (Cell N) → Type 0 = λ l. (f : N → List ℕ) → Reads built f → ComparedWith f h x l waits longer in
    subst P (sym whole) (each_step built h x all zs start waits longer (subst Q (sym e) w) (subst R whole c))

pub each_end_at : {N : Type 0} (built : BuiltIn → N) (h : Held N) (all rest : List (Cell N)) (start longer : List ℕ) → length rest < 1 → EachLeft built h all rest start longer →
    (f : N → List ℕ) → Reads built f → ComparedEach f h all start longer
each_end_at built h all [] start longer le w = each_end built h all start longer w
each_end_at built h all (z ∷ zs) start longer le w = absurd (omega arith)

pub each_clash : {N : Type 0} (built : BuiltIn → N) (h : Held N) (x : Cell N) (all xs : List (Cell N)) (start waits : List ℕ) → EachLeft built h all (x ∷ xs) start waits →
    ((f : N → List ℕ) → Reads built f → clashes_with_some (term_of f h x) (term_list f h xs) ≡ true) → (f : N → List ℕ) → Reads built f → some_clash (term_list f h all) ≡ true
each_clash built h x all xs start waits w c f reads =
    sym (w.clash f reads) ∙ ap (λ b. b || some_clash (term_list f h xs)) (c f reads)
