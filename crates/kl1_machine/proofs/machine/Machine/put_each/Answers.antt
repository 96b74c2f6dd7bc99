use Rattle.kl1_machine.proofs.Words.{◌≡◌, ℕ, ◌-◌, ◌<◌, ◌≤◌, List, [], ◌∷◌, length, get_or, take, drop, refl, sym, ap, ap₂, ◌∙◌, arith, subst, Option, Some, None, take_rest, CellName, Variable, Qualified, AreQualifiedIn, Shoen, priorities_by, Machine, with_goals}
use Rattle.kl1_machine.proofs.machine.Machine.put_each.Goals as goal

apart : {A : Type 0} (xs : List A) (d : A) → 1 ≤ length xs → xs ≡ get_or xs 0 d ∷ take (length xs - 1) (drop 1 xs)
apart [] d le = absurd (omega (arith, le))
apart (x ∷ xs) d le = ap (λ l. x ∷ l) (sym (take_rest (x ∷ xs) 1))

none_named : (shoen own : ℕ) (h : Shoen CellName) (ps : List (Option ℕ)) (xs : List (Qualified CellName)) (m : Machine) → length ps < 1 → with_goals shoen (priorities_by (Some h) own ps) xs m ≡ m
none_named shoen own h [] [] m lt = refl
none_named shoen own h [] (x ∷ xs) m lt = refl
none_named shoen own h (p ∷ ps) xs m lt = absurd (omega (arith, lt))

pub loop-left-preserved : goal.loop-left-preserved
loop-left-preserved c =
    let i = c.loop-left.invariant in
    let put = c.in_ok-put.ensures in
    let n = c.args.shoen.now.number in
    let own = c.args.own in
    let h = c.args.shoen.now in
    let m = c.loop-left.self in
    let ps : List (Option ℕ) = c.loop-left.named.now in
    let xs : List (Qualified CellName) = c.loop-left.left.now in
    let d : Qualified CellName = record { module_name = None; cell = Variable 0 } in
    let more = priorities_by (Some h) own (take (length ps - 1) (drop 1 ps)) in
    let rest = take (length xs - 1) (drop 1 xs) in
    let left = apart xs d c.in-len1-up.len_at_least in
    let G : List (Qualified CellName) → Type 0 = λ l. AreQualifiedIn c.args.self.now.store.held l in
    record {
      machine = put.ok.machine;
      since = λ b s. put.since b (i.since b s);
      now = ap (λ (y : Machine). with_goals n more rest y) put.ok.is
          ∙ ap (λ k. with_goals n (k ∷ more) (get_or xs 0 d ∷ rest) m) c.priority_in-level.ensures
          ∙ sym (ap₂ (λ (a : List (Option ℕ)) (b : List (Qualified CellName)). with_goals n (priorities_by (Some h) own a) b m) (apart ps None c.in-len1-up-named.len_at_least) left)
          ∙ i.now;
      held = ap (λ (y : Machine). y.store.held) put.ok.is ∙ i.held;
      shoens = ap (λ (y : Machine). length y.shoens.shoens) put.ok.is ∙ i.shoens;
      cells = (subst G left i.cells).1;
    }

pub returns-in_default-named-clause-ok : goal.returns-in_default-named-clause-ok
returns-in_default-named-clause-ok c =
    let i = c.loop-left.invariant in
    sym (none_named c.args.shoen.now.number c.args.own c.args.shoen.now c.loop-left.named.now c.loop-left.left.now c.loop-left.self c.in_default-named.len_below) ∙ i.now
