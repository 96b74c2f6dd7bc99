use Rattle.std.proofs.Common.{◌≡◌, ◌++◌, ◌∷◌, [], ℕ, suc, List, length, get_or, set, refl, sym, ap, ap₂, ◌∙◌, arith, subst}
use Rattle.std.proofs.lemmas.List.{length_push}
use Rattle.kl1_shoen_paths.specs.Below.{Links, AreLinked}
use Rattle.kl1_shoen_paths.proofs.Linking.{linked_push}
use Rattle.kl1_shoen_paths.proofs.children.ChildLists.push.Goals as goal

pub returns-clause-linked : goal.returns-clause-linked
returns-clause-linked c = λ parents a.
    let i = c.self.inside in
    let q = c.args.parent in
    let more = parents ++ q ∷ [] in
    let first = ap (λ (l : Links). l.first) c.self.view_is in
    let next = ap (λ (l : Links). l.next) c.self.view_is in
    let len = ap (λ (l : List ℕ). length l) first in
    let was : AreLinked parents i.first.now i.next.now =
    subst (λ (xs : List ℕ). AreLinked parents xs i.next.now) (sym first) (subst (λ (ys : List ℕ). AreLinked parents c.args.self.now.first ys) (sym next) a) in
    let one = length_push i.first.now 0 in
    let all = ap (λ (l : List ℕ). length l) (c.items-2.ensures ∙ c.push.ensures.now) in
    let number : length c.items-2.result.now ≡ suc (length i.first.now) = omega (arith, all, one) in
    let put : c.put.new.self.now ≡ set (i.first.now ++ 0 ∷ []) q (suc (length i.first.now)) =
    c.put.ensures.now ∙ ap₂ (λ (l : List ℕ) (n : ℕ). set l q n) c.push.ensures.now number in
    let push : c.push-2.new.self.now ≡ i.next.now ++ get_or (i.first.now ++ 0 ∷ []) q 0 ∷ [] =
    c.push-2.ensures.now ∙ ap (λ (l : List ℕ). i.next.now ++ get_or l q 0 ∷ []) (c.items.ensures ∙ c.push.ensures.now) in
    subst (λ (xs : List ℕ). AreLinked more xs c.push-2.new.self.now) (sym put)
    (subst (λ (ys : List ℕ). AreLinked more (set (i.first.now ++ 0 ∷ []) q (suc (length i.first.now))) ys) (sym push)
    (linked_push parents i.first.now i.next.now q (suc (length i.first.now)) was (omega (arith, len, c.requires.parent)) refl))
