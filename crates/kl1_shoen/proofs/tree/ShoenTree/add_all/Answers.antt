use Rattle.std.proofs.Common.{◌≡◌, ◌++◌, ◌∷◌, [], ℕ, List, get_or, take, sym, ap, ◌∙◌, arith, subst}
use Rattle.std.proofs.lemmas.List.{append_assoc, append-nil, map_push, take_all, take_more}
use Rattle.kl1_shoen.specs.declared.shift.Shift.{Shift}
use Rattle.kl1_shoen.specs.Shifts.{Adds, shoens_of}
use Rattle.kl1_shoen.proofs.Shifting.{adds_none, adds_more, adds_one}
use Rattle.kl1_shoen.proofs.tree.ShoenTree.add_all.Goals as goal

pub loop-number-init : goal.loop-number-init
loop-number-init g c = record {
  adds = adds_none c.args.self.now c.args.out.now.items;
  numbers = sym (append-nil (shoens_of c.args.out.now.items));
}

pub loop-number-preserved : goal.loop-number-preserved
loop-number-preserved g c =
    let t = c.args.self.now in
    let ns = c.args.numbers.now in
    let k = c.loop-number.number-index in
    let x = get_or ns k 0 in
    let old = c.args.out.now.items in
    let before = c.loop-number.out.items in
    let i = c.loop-number.invariant in
    let s : Shift = record { shoen = x; is_enabled = c.is_enabled.result } in
    let is : c.push.new.self.items ≡ before ++ s ∷ [] = c.in_ok-push.ensures.items in
    record {
      adds = subst (λ (l : List Shift). Adds t old l) (sym is) (adds_more t old before (before ++ s ∷ []) i.adds (adds_one t before s c.is_enabled.ensures));
      numbers =
          ap shoens_of is ∙ map_push (λ (y : Shift). y.shoen) before s ∙ ap (λ (l : List ℕ). l ++ x ∷ []) i.numbers
          ∙ append_assoc (shoens_of old) (take k ns) (x ∷ [])
          ∙ ap (λ (l : List ℕ). shoens_of old ++ l) (sym (take_more ns k 0 (omega (arith, c.loop-number-test.true))));
    }

pub returns-clause-numbers : goal.returns-clause-numbers
returns-clause-numbers g c =
    c.loop-number.invariant.numbers
    ∙ ap (λ (l : List ℕ). shoens_of c.args.out.now.items ++ l) (take_all c.loop-number.number-index c.args.numbers.now (omega (arith, c.loop-number-test.false)))
