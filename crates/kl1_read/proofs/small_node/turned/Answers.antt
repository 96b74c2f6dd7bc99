use Rattle.std.proofs.Common.{◌≡◌, ℕ, suc, ◌-◌, ◌<◌, List, [], ◌∷◌, ◌++◌, drop, get_or, length, map, reverse, ap, sym, ◌∙◌, arith, drop-cons}
use Rattle.std.proofs.lemmas.List.{reverse-append}
use Rattle.kl1_term.specs.declared.node.Node.{Node}
use Rattle.kl1_read.specs.declared.small_node.SmallNode.{SmallNode}
use Rattle.kl1_read.specs.SmallNodes.{node_of}
use Rattle.kl1_read.proofs.small_node.turned.Goals as goal

-- one node more from the end
longer : (xs : List SmallNode) (row new : List Node) (k : ℕ) (x : SmallNode) → k < length xs → x ≡ get_or xs k x → row ≡ reverse (map node_of (drop (suc k) xs)) → new ≡ row ++ node_of x ∷ [] → new ≡ reverse (map node_of (drop k xs))
longer xs row new k x h is r n =
    n
    ∙ ap (λ ns. ns ++ node_of x ∷ []) r
    ∙ sym (reverse-append (node_of x ∷ []) (map node_of (drop (suc k) xs)))
    ∙ ap (λ y. reverse (map node_of (y ∷ drop (suc k) xs))) is
    ∙ ap (λ ys. reverse (map node_of ys)) (sym (drop-cons xs k x h))

pub loop-count-preserved : goal.loop-count-preserved
loop-count-preserved c =
    let last : suc (c.loop-count.count - 1) ≡ c.loop-count.count = omega arith in
    record {
      same = longer c.args.nodes.now c.loop-count.row.items c.push.new.self.items (c.loop-count.count - 1) c.index-nodes-count.result (omega arith) c.index-nodes-count.is (c.loop-count.invariant.same ∙ ap (λ n. reverse (map node_of (drop n c.args.nodes.now))) (sym last)) (c.in_ok-push.ensures.items ∙ ap (λ n. c.loop-count.row.items ++ n ∷ []) c.node_of.ensures);
      within = omega arith;
    }
