-- Arguments and elements, from the last one on.
use Rattle.std.proofs.Common.{◌≡◌, ◌≢◌, ℕ, suc, max, ◌≤◌, ◌<◌, nat_le, ◌&&◌, Bool, true, false, List, [], ◌∷◌, ◌++◌, length, map, reverse, IsTrue, Option, Some, None, if◌then◌else◌, refl, ap, sym, ◌∙◌, arith, append_assoc, length-append}
use Rattle.std.proofs.lemmas.Bool.{and_from, le-leb, lt-leb, and_left, and_right}
use Rattle.std.proofs.lemmas.Option.{none-some}
use Rattle.std.proofs.lemmas.List.{reverse-append, append-nil}
use Rattle.kl1_model.specs.declared.limits.TheConstants.{MOST_ARGUMENTS, MOST_DEPTH}
use Rattle.kl1_model.specs.Term.{Term, structure, none, terms_of, count_of}
use Rattle.kl1_model.specs.Text.{is_text}
use Rattle.kl1_model.specs.code.TermCode.{NodeCode, nodes_of, nodes_of_all}
use Rattle.kl1_model.specs.Meaning.{cell, cells, Depth, depths, depth, deepest, flat, is_narrow, are_narrow, is_writable}
use Rattle.kl1_term.specs.declared.node.Node.{Node}
use Rattle.kl1_term.specs.declared.node.Node.TheVariants.{Structure}
use Rattle.kl1_term.specs.Nodes.{code_of}
use Rattle.kl1_read.specs.Pieces.{writable}
use Rattle.kl1_read.proofs.Nodes.{Made, made_of, too_deep}
use Rattle.kl1_read.proofs.Unwritable.{tail_unwritable}

-- a list by its last element
pub cells_last : (es : List Term) (e t : Term) → cells (terms_of (es ++ e ∷ [])) t ≡ cells (terms_of es) (cell e t)
cells_last [] e t = refl
cells_last (d ∷ es) e t = ap (cell d) (cells_last es e t)

-- arguments by the last one
pub nodes_last : (es : List Term) (e : Term) → nodes_of_all (terms_of (es ++ e ∷ [])) ≡ nodes_of_all (terms_of es) ++ nodes_of e
nodes_last [] e = append-nil (nodes_of e)
nodes_last (d ∷ es) e = ap (λ ns. nodes_of d ++ ns) (nodes_last es e) ∙ sym (append_assoc (nodes_of d) (nodes_of_all (terms_of es)) (nodes_of e))

pub deepest_last : (es : List Term) (e : Term) → deepest (terms_of (es ++ e ∷ [])) ≡ max (deepest (terms_of es)) (depth e)
deepest_last [] e = omega arith
deepest_last (d ∷ es) e = omega (arith, deepest_last es e)

pub narrow_last : (es : List Term) (e : Term) → IsTrue (is_narrow e) → are_narrow (terms_of (es ++ e ∷ [])) ≡ are_narrow (terms_of es)
narrow_last [] e h = ap (λ b. b && true) h
narrow_last (d ∷ es) e h = ap (λ b. is_narrow d && b) (narrow_last es e h)

pub count_length : (es : List Term) → count_of (terms_of es) ≡ length es
count_length [] = refl
count_length (e ∷ es) = ap suc (count_length es)

writable_by : (b : Bool) (t u : Term) → ◌≡◌ {A = Option Term} (Some u) (if b then Some t else None) → u ≡ t
writable_by true t u h = cc
writable_by false t u h = absurd (none-some u (sym h))

-- what can be written is that term
pub writable_is : (t u : Term) → Some u ≡ writable t → u ≡ t
writable_is t u h = writable_by (is_writable t) t u h

unwritable_by : (b : Bool) (t : Term) → ◌≡◌ {A = Option Term} None (if b then Some t else None) → b ≡ false
unwritable_by true t h = absurd (none-some t h)
unwritable_by false t h = refl

-- what isn't there can't be written
pub unwritable_is : (t : Term) → None ≡ writable t → is_writable t ≡ false
unwritable_is t h = unwritable_by (is_writable t) t h

pub not_writable : (t : Term) → is_writable t ≡ false → None ≡ writable t
not_writable t h = sym (ap (λ b. if◌then◌else◌ {A = Option Term} b (Some t) None) h)

depths_of_many : (f : List ℕ) (es : List Term) → length es ≢ 2 → depths (structure f (terms_of es)) ≡ flat (suc (deepest (terms_of es)))
depths_of_many f [] h = refl
depths_of_many f (a ∷ []) h = refl
depths_of_many f (a ∷ b ∷ []) h = absurd (h refl)
depths_of_many f (a ∷ b ∷ c ∷ es) h = refl

narrow_structure : (f : List ℕ) (es : List Term) → IsTrue (is_text f) → 1 ≤ length es → length es ≤ MOST_ARGUMENTS → IsTrue (are_narrow (terms_of es)) → IsTrue (is_narrow (structure f (terms_of es)))
narrow_structure f es t h k n =
    let c = count_length es in
    and_from _ _ (and_from _ _ (and_from _ _ t (le-leb 1 (count_of (terms_of es)) (omega arith))) (le-leb (count_of (terms_of es)) MOST_ARGUMENTS (omega arith))) n

many_nodes : (f : List ℕ) (es : List Term) (ns zs : List Node) → map code_of (reverse ns) ≡ nodes_of_all (terms_of es) → zs ≡ ns ++ Structure f (length es) ∷ [] → map code_of (reverse zs) ≡ nodes_of (structure f (terms_of es))
many_nodes f es ns zs n e =
    ap (λ xs. map code_of (reverse xs)) e
    ∙ ap (map code_of) (reverse-append ns (Structure f (length es) ∷ []))
    ∙ ap (λ k. code_of (Structure f k) ∷ map code_of (reverse ns)) (sym (count_length es))
    ∙ ap (λ cs. code_of (Structure f (count_of (terms_of es))) ∷ cs) n

-- a structure of one argument or of more than two
pub many_made : (f : List ℕ) (es : List Term) (ns zs : List Node) (deep : ℕ) → length es ≢ 2 → 1 ≤ length es → length es ≤ MOST_ARGUMENTS → IsTrue (is_text f) → IsTrue (are_narrow (terms_of es)) → map code_of (reverse ns) ≡ nodes_of_all (terms_of es) → deep ≡ deepest (terms_of es) → deep < MOST_DEPTH → zs ≡ ns ++ Structure f (length es) ∷ [] → Made zs (structure f (terms_of es)) (suc deep) (suc deep)
many_made f es ns zs deep other some few t n nodes d low e =
    made_of zs (structure f (terms_of es)) (suc deep) (suc deep) (many_nodes f es ns zs nodes e) (depths_of_many f es other ∙ ap (λ k. flat (suc k)) (sym d)) (narrow_structure f es t some few n) (omega arith) (omega arith)

-- a structure of one argument or of more than two that is too deep
pub many_too_deep : (f : List ℕ) (es : List Term) (deep : ℕ) → length es ≢ 2 → deep ≡ deepest (terms_of es) → MOST_DEPTH ≤ deep → None ≡ writable (structure f (terms_of es))
many_too_deep f es deep other d h =
    let whole : depth (structure f (terms_of es)) ≡ suc (deepest (terms_of es)) = ap (λ (x : Depth). x.whole) (depths_of_many f es other) in
    sym (too_deep (structure f (terms_of es)) (omega arith))

-- a structure without arguments, or with more than most_arguments, can't be written
pub none_unwritable : (f : List ℕ) (es : List Term) → length es ≡ 0 → None ≡ writable (structure f (terms_of es))
none_unwritable f [] h =
    not_writable (structure f none) (and_left _ _ (and_left _ _ (and_left _ _ (and_right (is_text f) false refl))))
none_unwritable f (e ∷ es) h = absurd (omega arith)

pub many_unwritable : (f : List ℕ) (es : List Term) → MOST_ARGUMENTS < length es → None ≡ writable (structure f (terms_of es))
many_unwritable f es h =
    let c = count_length es in
    not_writable (structure f (terms_of es)) (and_left _ _ (and_left _ _ (and_right (is_text f && nat_le 1 (count_of (terms_of es))) (nat_le (count_of (terms_of es)) MOST_ARGUMENTS) (lt-leb (count_of (terms_of es)) MOST_ARGUMENTS (omega arith)))))

-- the last element is taken from those that are left
pub cells_gone : (whole : Term) (xs ys : List Term) (e t : Term) → cells (terms_of ys) t ≡ whole → ys ≡ xs ++ e ∷ [] → None ≡ writable (cell e t) → None ≡ writable whole
cells_gone whole xs ys e t w h n =
    rw (← w, h, cells_last xs e t) (not_writable (cells (terms_of xs) (cell e t)) (tail_unwritable xs (cell e t) (unwritable_is (cell e t) n)))

pub cells_longer : (whole : Term) (xs ys : List Term) (e t u : Term) → cells (terms_of ys) t ≡ whole → ys ≡ xs ++ e ∷ [] → Some u ≡ writable (cell e t) → cells (terms_of xs) u ≡ whole
cells_longer whole xs ys e t u w h n =
    ap (λ v. cells (terms_of xs) v) (writable_is (cell e t) u n) ∙ sym (cells_last xs e t) ∙ ap (λ es. cells (terms_of es) t) (sym h) ∙ w

-- the last argument is taken from those that are left
pub nodes_go : (whole : List NodeCode) (xs ys : List Term) (e : Term) (new old : List NodeCode) → nodes_of_all (terms_of ys) ++ old ≡ whole → ys ≡ xs ++ e ∷ [] → new ≡ nodes_of e ++ old → nodes_of_all (terms_of xs) ++ new ≡ whole
nodes_go whole xs ys e new old w h n =
    ap (λ cs. nodes_of_all (terms_of xs) ++ cs) n ∙ sym (append_assoc (nodes_of_all (terms_of xs)) (nodes_of e) old) ∙ ap (λ cs. cs ++ old) (sym (nodes_last xs e)) ∙ ap (λ es. nodes_of_all (terms_of es) ++ old) (sym h) ∙ w

pub deep_goes : (whole : ℕ) (xs ys : List Term) (e : Term) (d now : ℕ) → max (deepest (terms_of ys)) d ≡ whole → ys ≡ xs ++ e ∷ [] → now ≡ depth e → max (deepest (terms_of xs)) (max now d) ≡ whole
deep_goes whole xs ys e d now w h n =
    let all : deepest (terms_of ys) ≡ max (deepest (terms_of xs)) (depth e) = ap (λ es. deepest (terms_of es)) h ∙ deepest_last xs e in
    omega arith

pub narrow_goes : (whole : Bool) (xs ys : List Term) (e : Term) → are_narrow (terms_of ys) ≡ whole → ys ≡ xs ++ e ∷ [] → IsTrue (is_narrow e) → are_narrow (terms_of xs) ≡ whole
narrow_goes whole xs ys e w h n = sym (narrow_last xs e n) ∙ ap (λ es. are_narrow (terms_of es)) (sym h) ∙ w

-- two arguments that were taken from the last one on
pub two_of : (xs ys zs : List Term) (a b : Term) → xs ≡ ys ++ b ∷ [] → ys ≡ zs ++ a ∷ [] → length xs ≡ 2 → xs ≡ a ∷ b ∷ []
two_of xs ys [] a b h k n = h ∙ ap (λ es. es ++ b ∷ []) k
two_of xs ys (z ∷ zs) a b h k n =
    absurd (omega (arith, ap length h, ap length k, length-append ys (b ∷ []), length-append zs (a ∷ [])))

-- if no argument is left
pub end_nodes : (xs : List Term) (ns whole : List NodeCode) → length xs ≡ 0 → nodes_of_all (terms_of xs) ++ ns ≡ whole → ns ≡ whole
end_nodes [] ns whole n h = h
end_nodes (x ∷ xs) ns whole n h = absurd (omega arith)

pub end_deep : (xs : List Term) (d whole : ℕ) → length xs ≡ 0 → max (deepest (terms_of xs)) d ≡ whole → d ≡ whole
end_deep [] d whole n h = omega arith
end_deep (x ∷ xs) d whole n h = absurd (omega arith)

pub end_narrow : (xs : List Term) (whole : Bool) → length xs ≡ 0 → are_narrow (terms_of xs) ≡ whole → IsTrue whole
end_narrow [] whole n h = sym h
end_narrow (x ∷ xs) whole n h = absurd (omega arith)
