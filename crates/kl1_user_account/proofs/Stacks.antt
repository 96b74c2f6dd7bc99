-- Cells on a stack as nodes, one after another.
use Rattle.kl1_user_account.proofs.Words.{◌≡◌, ℕ, ◌+◌, ◌-◌, ◌<◌, ◌≤◌, List, [], ◌∷◌, ◌++◌, length, reverse, drop, refl, ap, ap₂, sym, ◌∙◌, subst, arith, Some, slice_get, get_or_from_slice_get, reverse-append, length-reverse, drop_more, Term, Terms, variable, structure, none, more, size, sizes, list_of, structure-reads, with_node, CellName, Head, Cell, Held, IsWithin, IsIn, AreIn, AreWithin, arguments_of, term_of, terms_of, term_list, IsFormed, term_of-Structure, arguments_in, AreWithin-append, AreWithin-left, AreWithin-reverse, AreWithin-back, Top, Reading, meaning, node_with, count_at, stacked_terms, weight, ReadsTop, IsNext, Takes}
use Rattle.std.proofs.Common.{length-append}
use Rattle.kl1_term.specs.declared.node.Node.TheVariants as node
use Rattle.kl1_store.specs.declared.cell.Cell.TheVariants.{Structure}
use Rattle.kl1_store.proofs.Meetings.{count_of-terms_of}
use Rattle.kl1_user_account.specs.declared.top.Top.TheVariants as top

-- an argument more on a stack
pub one_argument : {A : Type 0} (arguments : List A) (left : ℕ) (x : A) (before stack after : List A) →
    0 < left → left ≤ length arguments → slice_get arguments (left - 1) ≡ Some x → reverse stack ≡ drop left arguments ++ reverse before → after ≡ stack ++ x ∷ [] →
    reverse after ≡ drop (left - 1) arguments ++ reverse before
one_argument arguments left x before stack after some within at is pushed =
    let again : left - 1 + 1 ≡ left = omega (arith, some) in
    let rest : drop (left - 1) arguments ≡ x ∷ drop left arguments =
    drop_more arguments (left - 1) x (omega (arith, some, within)) ∙ (ap (λ y. y ∷ drop (left - 1 + 1) arguments) (get_or_from_slice_get arguments (left - 1) x x at) ∙ ap (λ n. x ∷ drop n arguments) again) in
    ap reverse pushed ∙ (reverse-append stack (x ∷ []) ∙ (ap (λ ys. x ∷ ys) is ∙ ap (λ ys. ys ++ reverse before) (sym rest)))

-- a constant or an unbound variable, whose term is this for a reading
pub plain_next : (h : Held CellName) (x : Cell CellName) (n : Top) (t : Reading → Term) (stack : List (Cell CellName)) → AreIn h stack → ((f : Reading) → meaning f h x ≡ t f) → count_at n ≡ 0 →
    ((f : Reading) (ts : List Term) → with_node (node_with f n) ts ≡ t f ∷ ts) → ((f : Reading) → 1 ≤ size (t f)) → ((f g : Reading) → t f ≡ t g → node_with f n ≡ node_with g n) → IsNext h x n stack stack
plain_next h x n t stack inside e no_more reads some same = record {
  reads = λ f. record {
    terms = reads f (stacked_terms f h stack) ∙ ap (λ u. u ∷ stacked_terms f h stack) (sym (e f));
    less = let s = ap size (e f) in omega (arith, s, some f);
  };
  count = omega (arith, no_more);
  inside = inside;
  same = λ f g a b. record { node = same f g (sym (e f) ∙ a ∙ e g); terms = b };
}

list_terms : (f : Reading) (h : Held CellName) (xs : List (Cell CellName)) → list_of (terms_of f h xs) ≡ term_list f h xs
unfolding terms_of
list_terms f h [] = refl
list_terms f h (x ∷ xs) = ap (λ ts. term_of f h x ∷ ts) (list_terms f h xs)

term_list-append : (f : Reading) (h : Held CellName) (xs ys : List (Cell CellName)) → term_list f h (xs ++ ys) ≡ term_list f h xs ++ term_list f h ys
term_list-append f h [] ys = refl
term_list-append f h (x ∷ xs) ys = ap (λ ts. term_of f h x ∷ ts) (term_list-append f h xs ys)

weight-append : (ts : Terms) (us : List Term) → weight (list_of ts ++ us) ≡ sizes ts + weight us
weight-append none us = omega arith
weight-append (more t ts) us = omega (arith, weight-append ts us)

-- a structure
pub next_structure : (h : Held CellName) (x : Cell CellName) (s : ℕ) (head : Head CellName) (before after : List (Cell CellName)) → IsFormed h → AreIn h before → ((f : Reading) → meaning f h x ≡ meaning f h (Structure s)) →
    slice_get h.structures s ≡ Some (record { name = head.name; arguments = arguments_of h s }) → head.count ≡ length (arguments_of h s) → reverse after ≡ arguments_of h s ++ reverse before → IsNext h x (top.Structure head.name head.count) before after
next_structure h x s head before after formed inside is found count put =
    let xs = arguments_of h s in
    let name = head.name in
    let e : (f : Reading) → meaning f h x ≡ structure (f name) (terms_of f h xs) = λ f. is f ∙ term_of-Structure f h s name formed found in
    let all : (f : Reading) → stacked_terms f h after ≡ list_of (terms_of f h xs) ++ stacked_terms f h before =
    λ f. ap (term_list f h) put ∙ (term_list-append f h xs (reverse before) ∙ ap (λ vs. vs ++ stacked_terms f h before) (sym (list_terms f h xs))) in
    record {
      reads = λ f.
          let ts = terms_of f h xs in
          let us = stacked_terms f h before in
          record {
            terms =
                ap (λ n. with_node (node.Structure (f name) n) (stacked_terms f h after)) (count ∙ sym (count_of-terms_of f h xs))
                ∙ (structure-reads (f name) ts us (stacked_terms f h after) (all f) ∙ ap (λ t. t ∷ us) (sym (e f)));
            less = let w = ap weight (all f) in let z = ap size (e f) in omega (arith, w, z, weight-append ts us);
          };
      count = let l = ap length put in omega (arith, l, length-append xs (reverse before), length-reverse after, length-reverse before, count);
      inside = AreWithin-back h.variables (length h.structures) after (subst (λ (zs : List (Cell CellName)). AreIn h zs) (sym put)
          (AreWithin-append h.variables (length h.structures) xs (reverse before) (arguments_in h s formed) (AreWithin-reverse h.variables (length h.structures) before inside)));
      same = λ f g a b.
          let c = same_structure (f name) (g name) (terms_of f h xs) (terms_of g h xs) (sym (e f) ∙ a ∙ e g) in
          record { node = ap (λ u. node.Structure u head.count) c.0; terms = all f ∙ ap₂ (λ ts us. list_of ts ++ us) c.1 b ∙ sym (all g) };
    }
  where
    same_structure : (a b : List ℕ) (ts us : Terms) → structure a ts ≡ structure b us → (a ≡ b) × (ts ≡ us)
    same_structure a b ts us e = (cc, cc)

last_within : (vs ss : ℕ) (xs : List (Cell CellName)) (x : Cell CellName) → AreWithin vs ss (xs ++ x ∷ []) → IsWithin vs ss x
last_within vs ss [] x p = p.0
last_within vs ss (y ∷ xs) x p = last_within vs ss xs x p.1

-- the top of a stack is of the store, and so are the others
pub top_in : (h : Held CellName) (stack rest : List (Cell CellName)) (x : Cell CellName) → AreIn h stack → stack ≡ rest ++ x ∷ [] → IsIn h x
top_in h stack rest x p e = last_within h.variables (length h.structures) rest x (subst (λ (xs : List (Cell CellName)). AreIn h xs) e p)

pub rest_in : (h : Held CellName) (stack rest : List (Cell CellName)) (x : Cell CellName) → AreIn h stack → stack ≡ rest ++ x ∷ [] → AreIn h rest
rest_in h stack rest x p e = AreWithin-left h.variables (length h.structures) rest (x ∷ []) (subst (λ (xs : List (Cell CellName)). AreIn h xs) e p)

-- the cell on top of a stack is taken
pub takes : (h : Held CellName) (x : Cell CellName) (t : Top) (stack rest after : List (Cell CellName)) → stack ≡ rest ++ x ∷ [] → IsNext h x t rest after → Takes h t stack after
takes h x t stack rest after e n =
    let terms : (f : Reading) → stacked_terms f h stack ≡ meaning f h x ∷ stacked_terms f h rest =
    λ f. ap (stacked_terms f h) e ∙ ap (term_list f h) (reverse-append rest (x ∷ [])) in
    let long : length stack ≡ length rest + 1 = ap length e ∙ length-append rest (x ∷ []) in
    let count = n.count in
    record {
      reads = λ f. subst (λ (ts : List Term). ReadsTop f h ts t after) (sym (terms f)) (n.reads f);
      count = omega arith;
      some = omega arith;
      inside = n.inside;
      same = λ f g a.
          let both = sym (terms f) ∙ a ∙ terms g in
          n.same f g (cc) (cc);
    }
