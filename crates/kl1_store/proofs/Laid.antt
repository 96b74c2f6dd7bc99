-- Structures whose arguments stand one after another in one list.
use Rattle.std.proofs.Common.{◌≡◌, ℕ, zero, suc, ◌+◌, ◌-◌, ◌<◌, ◌≤◌, List, [], ◌∷◌, ◌++◌, length, get_or, take, drop, refl, sym, ap, ◌∙◌, arith, subst, length-take, length-drop}
use Rattle.std.specs.Prelude.{Some, slice_get}
use Rattle.std.proofs.lemmas.List.{take-append-le, drop-append-le, nil_from_length, take_all, take-take, drop-take, drop-drop, get_or-drop}
use Rattle.kl1_store.specs.declared.cell.Cell.{Cell}
use Rattle.kl1_store.specs.declared.node.Node.{Node}
use Rattle.kl1_store.specs.Held.{Shape, arguments_held}
use Rattle.kl1_store.specs.Inside.{shapes_in, AreLaid}

pub laid_up : {N : Type 0} (start : ℕ) (ns : List (Node N)) (end : ℕ) → AreLaid start ns end → start ≤ end
laid_up start [] end h = omega arith
laid_up start (n ∷ ns) end h = let p = laid_up (start + n.count) ns end h.1 in omega arith

pub length-shapes_in : {N : Type 0} (xs : List (Cell N)) (ns : List (Node N)) → length (shapes_in xs ns) ≡ length ns
length-shapes_in xs [] = refl
length-shapes_in xs (n ∷ ns) = ap suc (length-shapes_in (drop n.count xs) ns)

pub count_fits : {N : Type 0} (start : ℕ) (n : Node N) (ns : List (Node N)) (xs : List (Cell N)) → AreLaid start (n ∷ ns) (start + length xs) → n.count ≤ length xs
count_fits start n ns xs h = let p = laid_up (start + n.count) ns (start + length xs) h.1 in omega arith

pub rest_laid : {N : Type 0} (start : ℕ) (n : Node N) (ns : List (Node N)) (xs : List (Cell N)) → AreLaid start (n ∷ ns) (start + length xs) →
    AreLaid (start + n.count) ns (start + n.count + length (drop n.count xs))
rest_laid start n ns xs h =
    let P : ℕ → Type 0 = λ m. AreLaid (start + n.count) ns m in
    let p = count_fits start n ns xs h in
    subst P (omega (arith, length-drop n.count xs)) h.1

-- the structures have all arguments
pub arguments_held-laid : {N : Type 0} (start : ℕ) (ns : List (Node N)) (xs : List (Cell N)) → AreLaid start ns (start + length xs) → arguments_held (shapes_in xs ns) ≡ length xs
arguments_held-laid start [] xs h = omega arith
arguments_held-laid start (n ∷ ns) xs h =
    let p = count_fits start n ns xs h in
    let r = arguments_held-laid (start + n.count) ns (drop n.count xs) (rest_laid start n ns xs h) in
    omega (arith, p, r, length-take n.count xs, length-drop n.count xs)

pub shapes_in-more : {N : Type 0} (start : ℕ) (ns : List (Node N)) (xs ys : List (Cell N)) → AreLaid start ns (start + length xs) → shapes_in (xs ++ ys) ns ≡ shapes_in xs ns
shapes_in-more start [] xs ys h = refl
shapes_in-more {N = N} start (n ∷ ns) xs ys h =
    let p = count_fits start n ns xs h in
    let shape : List (Cell N) → Shape N = λ l. record { name = n.name; arguments = l } in
    ap (λ l. shape l ∷ shapes_in (drop n.count (xs ++ ys)) ns) (take-append-le n.count xs ys p)
    ∙ ap (λ l. shape (take n.count xs) ∷ shapes_in l ns) (drop-append-le n.count xs ys p)
    ∙ ap (λ l. shape (take n.count xs) ∷ l) (shapes_in-more (start + n.count) ns (drop n.count xs) ys (rest_laid start n ns xs h))

pub shapes_in-push : {N : Type 0} (start : ℕ) (ns : List (Node N)) (n : Node N) (xs ys : List (Cell N)) → AreLaid start ns (start + length xs) → length ys ≡ n.count →
    shapes_in (xs ++ ys) (ns ++ n ∷ []) ≡ shapes_in xs ns ++ record { name = n.name; arguments = ys } ∷ []
shapes_in-push {N = N} start [] n xs ys h e =
    let none : xs ≡ [] = nil_from_length xs (omega arith) in
    let shape : List (Cell N) → List (Shape N) = λ l. record { name = n.name; arguments = l } ∷ [] in
    ap (λ l. shape (take n.count (l ++ ys))) none ∙ ap shape (take_all n.count ys (omega arith))
shapes_in-push {N = N} start (x ∷ ns) n xs ys h e =
    let p = count_fits start x ns xs h in
    let shape : List (Cell N) → Shape N = λ l. record { name = x.name; arguments = l } in
    ap (λ l. shape l ∷ shapes_in (drop x.count (xs ++ ys)) (ns ++ n ∷ [])) (take-append-le x.count xs ys p)
    ∙ ap (λ l. shape (take x.count xs) ∷ shapes_in l (ns ++ n ∷ [])) (drop-append-le x.count xs ys p)
    ∙ ap (λ l. shape (take x.count xs) ∷ l) (shapes_in-push (start + x.count) ns n (drop x.count xs) ys (rest_laid start x ns xs h) e)

pub AreLaid-push : {N : Type 0} (start : ℕ) (ns : List (Node N)) (n : Node N) (end : ℕ) → AreLaid start ns end → n.start ≡ end → AreLaid start (ns ++ n ∷ []) (end + n.count)
AreLaid-push start [] n end h e = (e ∙ sym h, ap (λ m. m + n.count) h)
AreLaid-push start (x ∷ ns) n end h e = (h.0, AreLaid-push (start + x.count) ns n end h.1 e)

-- where a structure's arguments stand
pub record StandsAt {N : Type 0} (start : ℕ) (ns : List (Node N)) (xs : List (Cell N)) (i : ℕ) (n : Node N) : Type 0 where
  pub from : start ≤ n.start
  pub fits : n.start + n.count ≤ start + length xs
  pub is : slice_get (shapes_in xs ns) i ≡ Some (record { name = n.name; arguments = take n.count (drop (n.start - start) xs) })

pub shape_stands : {N : Type 0} (start : ℕ) (ns : List (Node N)) (xs : List (Cell N)) (i : ℕ) (n : Node N) →
    AreLaid start ns (start + length xs) → i < length ns → n ≡ get_or ns i n → StandsAt start ns xs i n
shape_stands start [] xs i n h lt e = absurd (omega arith)
shape_stands {N = N} start (x ∷ ns) xs zero n h lt e =
    let P : Node N → Type 0 = λ m. StandsAt start (x ∷ ns) xs 0 m in
    let p = count_fits start x ns xs h in
    let Q : ℕ → Type 0 = λ k. slice_get (shapes_in xs (x ∷ ns)) 0 ≡ Some (record { name = x.name; arguments = take x.count (drop k xs) }) in
    let q : 0 ≡ x.start - start = omega (arith, h.0) in
    let here : StandsAt start (x ∷ ns) xs 0 x = record { from = omega (arith, h.0); fits = omega (arith, h.0, p); is = subst Q q refl } in
    subst P (sym e) here
shape_stands {N = N} start (x ∷ ns) xs (suc i) n h lt e =
    let r = shape_stands (start + x.count) ns (drop x.count xs) i n (rest_laid start x ns xs h) (omega arith) e in
    let p = count_fits start x ns xs h in
    let Q : List (Cell N) → Type 0 = λ l. slice_get (shapes_in (drop x.count xs) ns) i ≡ Some (record { name = n.name; arguments = take n.count l }) in
    let R : ℕ → Type 0 = λ k. slice_get (shapes_in (drop x.count xs) ns) i ≡ Some (record { name = n.name; arguments = take n.count (drop k xs) }) in
    record {
      from = omega (arith, r.from);
      fits = omega (arith, r.fits, length-drop x.count xs, p);
      is = let k : x.count + (n.start - (start + x.count)) ≡ n.start - start = omega (arith, r.from) in subst R k (subst Q (drop-drop (n.start - (start + x.count)) x.count xs) r.is);
    }

at_take : {Y : Type 0} (ys : List Y) (m j : ℕ) (y : Y) → j < m → m ≤ length ys → y ≡ get_or ys j y → slice_get (take m ys) j ≡ Some y
at_take [] m j y a b q = absurd (omega arith)
at_take (z ∷ ys) zero j y a b q = absurd (omega arith)
at_take (z ∷ ys) (suc m) zero y a b q = ap Some (sym q)
at_take (z ∷ ys) (suc m) (suc j) y a b q = at_take ys m j y (omega arith) (omega arith) q

-- an element of a part of a list
pub slice_get-part : {X : Type 0} (xs : List X) (from count k : ℕ) (x : X) → k < count → from + count ≤ length xs → x ≡ get_or xs (from + k) x → slice_get (take count (drop from xs)) k ≡ Some x
slice_get-part xs from count k x lt fits e = at_take (drop from xs) count k x lt (omega (arith, length-drop from xs)) (e ∙ sym (get_or-drop from xs k x))

-- the structures before one, and their arguments
pub shapes_in-take : {N : Type 0} (start : ℕ) (ns : List (Node N)) (xs : List (Cell N)) (i : ℕ) (n : Node N) →
    AreLaid start ns (start + length xs) → i < length ns → n ≡ get_or ns i n →
    (shapes_in (take (n.start - start) xs) (take i ns) ≡ take i (shapes_in xs ns)) × AreLaid start (take i ns) n.start
shapes_in-take start [] xs i n h lt e = absurd (omega arith)
shapes_in-take start (x ∷ ns) xs zero n h lt e = (refl, sym h.0 ∙ ap (λ (m : Node _). m.start) (sym e))
shapes_in-take {N = N} start (x ∷ ns) xs (suc i) n h lt e =
    let laid = rest_laid start x ns xs h in
    let r = shapes_in-take (start + x.count) ns (drop x.count xs) i n laid (omega arith) e in
    let from : start + x.count ≤ n.start = (shape_stands (start + x.count) ns (drop x.count xs) i n laid (omega arith) e).from in
    let j = n.start - (start + x.count) in
    let shape : List (Cell N) → Shape N = λ l. record { name = x.name; arguments = l } in
    let P : ℕ → Type 0 = λ k. shapes_in (take k xs) (x ∷ take i ns) ≡ take (suc i) (shapes_in xs (x ∷ ns)) in
    let k : x.count + j ≡ n.start - start = omega arith in (
      subst P k
          (ap (λ l. shape l ∷ shapes_in (drop x.count (take (x.count + j) xs)) (take i ns)) (take-take x.count (x.count + j) xs (omega arith))
          ∙ ap (λ l. shape (take x.count xs) ∷ shapes_in l (take i ns)) (drop-take x.count j xs)
          ∙ ap (λ l. shape (take x.count xs) ∷ l) r.0),
      (h.0, r.1),
    )
