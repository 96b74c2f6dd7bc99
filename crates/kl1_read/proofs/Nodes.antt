-- The nodes of terms that are put together.
use Rattle.std.proofs.Common.{◌≡◌, ℕ, ◌≤◌, ◌<◌, nat_le, List, [], ◌∷◌, ◌++◌, map, length, reverse, IsTrue, Option, Some, None, if◌then◌else◌, refl, ap, sym, ◌∙◌, arith}
use Rattle.std.proofs.lemmas.List.{map-append, reverse-append, append-nil}
use Rattle.std.proofs.lemmas.Bool.{and_parts, and_from, leb-true, le-leb, lt-leb, and_right}
use Rattle.kl1_model.specs.declared.limits.TheConstants.{MOST_DEPTH}
use Rattle.kl1_model.specs.Term.{Term}
use Rattle.kl1_model.specs.Text.{is_text}
use Rattle.kl1_model.specs.code.TermCode.{nodes_of, term_from, term_from-nodes_of}
use Rattle.kl1_model.specs.Meaning.{pair, Depth, depths, depth, pair_depth, is_narrow, is_writable}
use Rattle.kl1_term.specs.declared.node.Node.{Node}
use Rattle.kl1_term.specs.declared.node.Node.TheVariants.{Structure}
use Rattle.kl1_term.specs.Nodes.{code_of, term_in, IsTerm}
use Rattle.kl1_read.specs.declared.small_node.SmallNode.{SmallNode}
use Rattle.kl1_read.specs.SmallNodes.{node_of}
use Rattle.kl1_read.specs.PieceView.{IsPiece}
use Rattle.kl1_read.specs.Pieces.{writable}

-- nodes of a term are read as the term
pub term_of_nodes : (nodes : List Node) (t : Term) → map code_of nodes ≡ nodes_of t → term_in nodes ≡ t
term_of_nodes nodes t e = ap term_from e ∙ term_from-nodes_of t

-- nodes of a term that a text can write, with its depths
pub piece_of_nodes : (nodes : List Node) (t : Term) (whole rest : ℕ) → map code_of nodes ≡ nodes_of t → depths t ≡ record { whole = whole; rest = rest } → IsTrue (is_writable t) → whole ≤ MOST_DEPTH → rest ≤ whole → IsPiece nodes whole rest
piece_of_nodes nodes t whole rest e d w l m =
    let is = term_of_nodes nodes t e in
    record { one = e ∙ ap nodes_of (sym is); depth = ap depths is ∙ d; fits = rw is w; low = l; rest_low = m }

-- what is narrow and not too deep can be written
pub narrow_writable : (t : Term) → IsTrue (is_narrow t) → depth t ≤ MOST_DEPTH → IsTrue (is_writable t)
narrow_writable t n d = and_from (is_narrow t) (nat_le (depth t) MOST_DEPTH) n (le-leb (depth t) MOST_DEPTH d)

pub writable_narrow : (t : Term) → IsTrue (is_writable t) → IsTrue (is_narrow t)
writable_narrow t w = (and_parts (is_narrow t) _ w).0

pub writable_low : (t : Term) → IsTrue (is_writable t) → depth t ≤ MOST_DEPTH
writable_low t w = leb-true (depth t) MOST_DEPTH (and_parts (is_narrow t) _ w).1

-- what is too deep can't be written
pub too_deep : (t : Term) → MOST_DEPTH < depth t → writable t ≡ None
too_deep t h = ap (λ b. if◌then◌else◌ {A = Option Term} b (Some t) None) (and_right (is_narrow t) (nat_le (depth t) MOST_DEPTH) (lt-leb (depth t) MOST_DEPTH h))

-- what can be written is there
pub there_writable : (t : Term) → IsTrue (is_writable t) → writable t ≡ Some t
there_writable t h = ap (λ b. if◌then◌else◌ {A = Option Term} b (Some t) None) h

-- a term that was put together: its nodes, the last one first, with its depths
pub record Made (nodes : List Node) (t : Term) (whole rest : ℕ) : Type 0 where
  pub is : Some (term_in (reverse nodes)) ≡ writable t
  pub piece : IsPiece (reverse nodes) whole rest

pub made_of : (nodes : List Node) (t : Term) (whole rest : ℕ) → map code_of (reverse nodes) ≡ nodes_of t → depths t ≡ record { whole = whole; rest = rest } → IsTrue (is_narrow t) → whole ≤ MOST_DEPTH → rest ≤ whole → Made nodes t whole rest
made_of nodes t whole rest e d n l m =
    let deep : depth t ≡ whole = ap (λ (x : Depth). x.whole) d in
    let w = narrow_writable t n (omega (arith, deep, l)) in
    record { is = ap (λ x. Some x) (term_of_nodes (reverse nodes) t e) ∙ sym (there_writable t w); piece = piece_of_nodes (reverse nodes) t whole rest e d w l m }

-- the nodes of a term after no others
pub spilled_alone : (xs ys : List SmallNode) (t : Term) (whole rest : ℕ) → term_in (reverse (map node_of xs)) ≡ t → IsPiece (reverse (map node_of xs)) whole rest → length ys ≡ 0 → map code_of (reverse (map node_of xs)) ≡ nodes_of t ++ map code_of (reverse (map node_of ys))
spilled_alone xs [] t whole rest is p n = p.one ∙ ap nodes_of is ∙ sym (append-nil (nodes_of t))
spilled_alone xs (y ∷ ys) t whole rest is p n = absurd (omega arith)

-- the nodes of a term after others
pub spilled_behind : (xs ys zs : List SmallNode) (t : Term) (whole rest : ℕ) → term_in (reverse (map node_of xs)) ≡ t → IsPiece (reverse (map node_of xs)) whole rest → zs ≡ ys ++ xs → map code_of (reverse (map node_of zs)) ≡ nodes_of t ++ map code_of (reverse (map node_of ys))
spilled_behind xs ys zs t whole rest is p e =
    ap (λ ns. map code_of (reverse (map node_of ns))) e
    ∙ ap (λ ns. map code_of (reverse ns)) (map-append node_of ys xs)
    ∙ ap (map code_of) (reverse-append (map node_of ys) (map node_of xs))
    ∙ map-append code_of (reverse (map node_of xs)) (reverse (map node_of ys))
    ∙ ap (λ cs. cs ++ map code_of (reverse (map node_of ys))) (p.one ∙ ap nodes_of is)

reversed_pair : (xs ys : List Node) (n : Node) → reverse ((ys ++ xs) ++ n ∷ []) ≡ n ∷ (reverse xs ++ reverse ys)
reversed_pair xs ys n = reverse-append (ys ++ xs) (n ∷ []) ∙ ap (λ zs. n ∷ zs) (reverse-append ys xs)

-- the nodes of a term that is one
nodes_are : (xs : List Node) (a : Term) → term_in xs ≡ a → IsTerm xs → map code_of xs ≡ nodes_of a
nodes_are xs a e h = h ∙ ap nodes_of e

depths_are : (xs : List Node) (a : Term) (w r : ℕ) → term_in xs ≡ a → IsPiece xs w r → depths a ≡ record { whole = w; rest = r }
depths_are xs a w r e p = ap depths (sym e) ∙ p.depth

module _ (f : List ℕ) (xs ys zs : List Node) (a b : Term) (aw ar bw br w r : ℕ) (a_is : term_in (reverse xs) ≡ a) (b_is : term_in (reverse ys) ≡ b) (front : IsPiece (reverse xs) aw ar) (behind : IsPiece (reverse ys) bw br) (deep : record { whole = w; rest = r } ≡ pair_depth f (record { whole = aw; rest = ar }) (record { whole = bw; rest = br })) where
  pair_depths : depths (pair f a b) ≡ record { whole = w; rest = r }
  pair_depths = rw (depths_are (reverse xs) a aw ar a_is front, depths_are (reverse ys) b bw br b_is behind) (sym deep)

  pair_nodes : zs ≡ (ys ++ xs) ++ Structure f 2 ∷ [] → map code_of (reverse zs) ≡ nodes_of (pair f a b)
  pair_nodes e =
      ap (λ ns. map code_of (reverse ns)) e
      ∙ ap (map code_of) (reversed_pair xs ys (Structure f 2))
      ∙ ap (λ ns. code_of (Structure f 2) ∷ ns) (map-append code_of (reverse xs) (reverse ys))
      ∙ ap (λ ns. code_of (Structure f 2) ∷ (ns ++ map code_of (reverse ys))) (nodes_are (reverse xs) a a_is front.one)
      ∙ ap (λ ns. code_of (Structure f 2) ∷ (nodes_of a ++ ns)) (nodes_are (reverse ys) b b_is behind.one ∙ sym (append-nil (nodes_of b)))

  pub pair_made : zs ≡ (ys ++ xs) ++ Structure f 2 ∷ [] → IsTrue (is_text f) → w ≤ MOST_DEPTH → r ≤ w → Made zs (pair f a b) w r
  pair_made e t l m =
      let an = writable_narrow a (rw (← a_is) front.fits) in
      let bn = writable_narrow b (rw (← b_is) behind.fits) in
      made_of zs (pair f a b) w r (pair_nodes e) pair_depths (and_from _ _ (and_from _ _ (and_from _ _ t refl) refl) (and_from _ _ an (and_from _ _ bn refl))) l m

  pub pair_too_deep : MOST_DEPTH < w → None ≡ writable (pair f a b)
  pair_too_deep h =
      let deep : depth (pair f a b) ≡ w = ap (λ (x : Depth). x.whole) pair_depths in
      sym (too_deep (pair f a b) (omega (arith, deep, h)))
