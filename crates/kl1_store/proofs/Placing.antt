-- The arguments of all structures are the store's list of arguments.
use Rattle.std.proofs.Common.{◌≡◌, ℕ, zero, suc, ◌+◌, ◌<◌, List, [], ◌∷◌, ◌++◌, length, take, drop, sym, ap, ◌∙◌, arith, subst}
use Rattle.std.specs.Prelude.{Some, slice_get, slice_index_or}
use Rattle.std.proofs.lemmas.List.{nil_from_length, take-append-drop}
use Rattle.kl1_store.specs.declared.cell.Cell.{Cell}
use Rattle.kl1_store.specs.declared.node.Node.{Node}
use Rattle.kl1_store.specs.declared.binding.Binding.{Binding}
use Rattle.kl1_store.specs.Held.{Shape, Held, AreWithin, IsIn, AreIn}
use Rattle.kl1_store.specs.Inside.{shapes_in, AreLaid, held_in, IsInside}
use Rattle.kl1_store.specs.Sound.{Built, IsFormed}
use Rattle.kl1_store.specs.Places.{arguments_among, all_arguments, StandFrom}
use Rattle.kl1_store.proofs.Growing.{AreWithin-more}
use Rattle.kl1_store.proofs.Laid.{rest_laid}
use Rattle.kl1_store.proofs.Lists.{ReadAt}
use Rattle.kl1_store.proofs.Terms.{within_at}
use Rattle.kl1_store.proofs.Tops.{AreWithin-append}

among_laid : {N : Type 0} (start : ℕ) (ns : List (Node N)) (xs : List (Cell N)) → AreLaid start ns (start + length xs) → arguments_among (shapes_in xs ns) ≡ xs
among_laid start [] xs h = sym (nil_from_length xs (omega (arith, h)))
among_laid start (n ∷ ns) xs h =
    ap (λ l. take n.count xs ++ l) (among_laid (start + n.count) ns (drop n.count xs) (rest_laid start n ns xs h))
    ∙ take-append-drop n.count xs

among_within : {N : Type 0} (vs k : ℕ) (ss : List (Shape N)) → Built vs k ss → AreWithin vs (k + length ss) (arguments_among ss)
among_within vs k [] h = tt
among_within vs k (s ∷ ss) h =
    let W : ℕ → Type 0 = λ n. AreWithin vs n (arguments_among ss) in
    AreWithin-append vs (k + suc (length ss)) s.arguments (arguments_among ss)
    (AreWithin-more vs k vs (k + suc (length ss)) s.arguments (omega arith) (omega arith) h.0)
    (subst W (omega arith) (among_within vs (suc k) ss h.1))

-- the arguments of all structures are of the store
pub all_in : {N : Type 0} (h : Held N) → IsFormed h → AreIn h (all_arguments h)
all_in h p =
    let W : ℕ → Type 0 = λ n. AreWithin h.variables n (all_arguments h) in
    subst W (omega arith) (among_within h.variables 0 h.structures p.built)

-- they are the list in which the store keeps them
pub all_are : {N : Type 0} (variables : ℕ) (nodes : List (Node N)) (arguments : List (Cell N)) (bindings : List (Binding N)) (h : Held N) →
    IsInside variables nodes arguments bindings → held_in variables nodes arguments bindings ≡ h → all_arguments h ≡ arguments
all_are {N = N} variables nodes arguments bindings h inside e =
    let L : ℕ → Type 0 = λ n. AreLaid 0 nodes n in
    ap (λ k. all_arguments k) (sym e) ∙ among_laid 0 nodes arguments (subst L (omega arith) inside.laid)

-- a structure's arguments stand where its node says
pub stand_from : {N : Type 0} (variables : ℕ) (nodes : List (Node N)) (arguments : List (Cell N)) (bindings : List (Binding N)) (i : ℕ) (n : Node N) (h : Held N) →
    IsInside variables nodes arguments bindings → held_in variables nodes arguments bindings ≡ h → ReadAt h arguments i n → StandFrom h i n.start
stand_from variables nodes arguments bindings i n h inside e read =
    let all = all_are variables nodes arguments bindings h inside e in
    record {
      fits = omega (arith, read.fits, read.count, ap length all);
      few = omega (arith, inside.arguments_fit, ap length all);
      are = read.are ∙ ap (λ l. take n.count (drop n.start l)) (sym all) ∙ ap (λ m. take m (drop n.start (all_arguments h))) read.count;
    }

some_at : {A : Type 0} (xs : List A) (i : ℕ) (x : A) → i < length xs → x ≡ slice_index_or xs i x → slice_get xs i ≡ Some x
some_at [] i x lt e = absurd (omega (arith, lt))
some_at (y ∷ xs) zero x lt e = ap Some (sym e)
some_at (y ∷ xs) (suc i) x lt e = some_at xs i x (omega (arith, lt)) e

-- one of them, by its place
pub argument_there : {N : Type 0} (h : Held N) (arguments : List (Cell N)) (i : ℕ) (x : Cell N) → all_arguments h ≡ arguments → i < length (all_arguments h) → x ≡ slice_index_or arguments i x → slice_get (all_arguments h) i ≡ Some x
argument_there {N = N} h arguments i x all lt e =
    let Q : List (Cell N) → Type 0 = λ l. x ≡ slice_index_or l i x in
    some_at (all_arguments h) i x lt (subst Q (sym all) e)

pub argument_inside : {N : Type 0} (h : Held N) (variables : ℕ) (nodes : List (Node N)) (arguments : List (Cell N)) (bindings : List (Binding N)) (i : ℕ) (x : Cell N) →
    IsInside variables nodes arguments bindings → held_in variables nodes arguments bindings ≡ h → i < length (all_arguments h) → x ≡ slice_index_or arguments i x → IsIn h x
argument_inside {N = N} h variables nodes arguments bindings i x inside e lt is =
    let F : Held N → Type 0 = λ k. IsFormed k in
    within_at h (all_arguments h) i x (all_in h (subst F e inside.formed)) (argument_there h arguments i x (all_are variables nodes arguments bindings h inside e) lt is)
