use Rattle.kl1_user_effects.proofs.Words.{◌≡◌, ℕ, [], ◌∷◌, length, length-append, refl, sym, ap, ◌∙◌, arith, Some, None, Colon, structure, none, more, CellName, Atom, Structure, Qualified, Shape, Held, IsIn, IsFormed, term_of-structure, with_pair, pair_means, built, meaning, told_in, IsWhole}
use Rattle.kl1_user_effects.proofs.bodies.whole.Goals as goal

-- one that is whole
whole_already : (h : Held CellName) (q : Qualified CellName) → q.module_name ≡ None → IsIn h q.cell → IsWhole h h q q.cell
whole_already h q e i = record {
  inside = i;
  variables = refl;
  others = λ f y j. refl;
  means = λ f reads. ap (λ m. told_in (meaning f h) m (meaning f h q.cell)) (sym e);
}

pub returns-in-None-clause-whole : goal.returns-in-None-clause-whole
returns-in-None-clause-whole c = whole_already c.args.store.now.held c.args.goal c.in-None.is c.requires

-- one that is made whole by a structure
whole_by_pair : (h new : Held CellName) (q : Qualified CellName) (m name : CellName) (s : ℕ) → q.module_name ≡ Some m → IsFormed h → IsIn h q.cell → name ≡ built Colon →
    (s ≡ length h.structures) × (new ≡ with_pair h name (Atom m) q.cell) → IsWhole h new q (Structure s)
whole_by_pair h new q m name s own p i e b =
    let shape : Shape CellName = record { name = name; arguments = Atom m ∷ q.cell ∷ [] } in
    rw (b.0, b.1) (record {
      inside = omega (arith, length-append h.structures (shape ∷ []));
      variables = refl;
      others = λ f y j. term_of-structure f h name (Atom m ∷ q.cell ∷ []) y p j;
      means = λ f reads.
          pair_means f h name (Atom m) q.cell p (tt, (i, tt))
          ∙ ap (λ n. structure n (more (meaning f h (Atom m)) (more (meaning f h q.cell) none))) (ap f e ∙ reads.texts Colon)
          ∙ ap (λ o. told_in (meaning f h) o (meaning f h q.cell)) (sym own);
    })

pub returns-in_ok-structure-in-Some-clause-whole : goal.returns-in_ok-structure-in-Some-clause-whole
returns-in_ok-structure-in-Some-clause-whole c =
    whole_by_pair c.args.store.now.held c.build_pair.new.self.held c.args.goal c.in-Some.module_name c.of-name.result c.in_ok-structure-in-Some.structure c.in-Some.is c.mark-formed.ensures.formed c.requires c.of-name.ensures c.in_ok-structure-in-Some.ensures.ok
