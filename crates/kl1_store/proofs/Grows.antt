-- Each growth keeps what was there, and so do several.
use Rattle.std.proofs.Common.{◌≡◌, ◌≤◌, List, [], ◌∷◌, length, take, refl, sym, ap, ◌∙◌, arith, length-take}
use Rattle.std.proofs.lemmas.List.{take_all, take_at, take-take}
use Rattle.kl1_store.specs.declared.cell.Cell.{Cell}
use Rattle.kl1_store.specs.Held.{Shape, Held, with_variable, with_structure}
use Rattle.kl1_store.specs.Sound.{Grown}

pub Grown-same : {N : Type 0} (h : Held N) → Grown h h
Grown-same h = record {
  variables = omega arith;
  structures = take_all (length h.structures) h.structures (omega arith);
  bindings = take_all (length h.bindings) h.bindings (omega arith);
}

pub Grown-variable : {N : Type 0} (h : Held N) → Grown h (with_variable h)
Grown-variable h = record {
  variables = omega arith;
  structures = take_all (length h.structures) h.structures (omega arith);
  bindings = take_all (length h.bindings) h.bindings (omega arith);
}

pub Grown-structure : {N : Type 0} (h : Held N) (name : N) (arguments : List (Cell N)) → Grown h (with_structure h name arguments)
Grown-structure {N = N} h name arguments =
    let shape : Shape N = record { name = name; arguments = arguments } in
    record {
      variables = omega arith;
      structures = take_at h.structures (shape ∷ []) (length h.structures) refl;
      bindings = take_all (length h.bindings) h.bindings (omega arith);
    }

still_first : {X : Type 0} (xs ys zs : List X) → take (length xs) ys ≡ xs → take (length ys) zs ≡ ys → take (length xs) zs ≡ xs
still_first xs ys zs p q =
    let short : length xs ≤ length ys = let e = ap length p in omega (arith, e, length-take (length xs) ys) in
    sym (take-take (length xs) (length ys) zs short) ∙ ap (take (length xs)) q ∙ p

pub Grown-trans : {N : Type 0} (a b c : Held N) → Grown a b → Grown b c → Grown a c
Grown-trans a b c p q = record {
  variables = omega (arith, p.variables, q.variables);
  structures = still_first a.structures b.structures c.structures p.structures q.structures;
  bindings = still_first a.bindings b.bindings c.bindings p.bindings q.bindings;
}
