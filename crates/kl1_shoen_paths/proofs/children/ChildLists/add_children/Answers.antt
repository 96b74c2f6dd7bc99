use Rattle.std.proofs.Common.{◌≡◌, ◌-◌, ◌++◌, ◌∷◌, [], ℕ, List, get_or, sym, ap, ap₂, ◌∙◌, arith}
use Rattle.std.proofs.lemmas.List.{append_assoc, append-nil}
use Rattle.kl1_shoen_paths.specs.Below.{Links, children_from}
use Rattle.kl1_shoen_paths.proofs.Linking.{children_none, children_step}
use Rattle.kl1_shoen_paths.proofs.children.ChildLists.add_children.Goals as goal

pub loop-child-preserved : goal.loop-child-preserved
loop-child-preserved c =
    let next = c.args.self.now.next in
    let child = c.loop-child.child in
    let out = c.loop-child.out.items in
    let up : c.number_at-child-in-loop-child.result ≡ get_or next (child - 1) 0 =
    c.number_at-child-in-loop-child.ensures ∙ ap (λ (l : List ℕ). get_or l (child - 1) 0) (c.items-in-loop-child.ensures ∙ ap (λ (l : Links). l.next) c.self.view_is) in
    ap₂ (λ (ns : List ℕ) (n : ℕ). ns ++ children_from next n) c.in_ok-push.ensures.items up
    ∙ append_assoc out (child ∷ []) (children_from next (get_or next (child - 1) 0))
    ∙ ap (λ (ns : List ℕ). out ++ ns) (sym (children_step next child c.requires.lower (omega (arith, c.loop-child-test.true))))
    ∙ c.loop-child.invariant

pub returns : goal.returns
returns c =
    let out = c.loop-child.out.items in
    sym (append-nil out) ∙ ap (λ (ns : List ℕ). out ++ ns) (sym (children_none c.args.self.now.next c.loop-child.child (omega (arith, c.loop-child-test.false)))) ∙ c.loop-child.invariant
