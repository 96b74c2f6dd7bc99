-- Names of a level and what stands after them.
use Rattle.std.proofs.Common.{◌≡◌, ℕ, ◌<◌, List, length, Option, Some, None, refl, ap, sym, ◌∙◌, arith}
use Rattle.std.proofs.lemmas.Option.{none-some}
use Rattle.kl1_model.specs.declared.built_in.BuiltIn.{BuiltIn}
use Rattle.kl1_model.specs.Term.{Term}
use Rattle.kl1_model.specs.Grammar.{Numbered}
use Rattle.kl1_model.specs.Meaning.{sum_term, product_term, part_term}
use Rattle.kl1_model.specs.reader.Reader.{Answer, then_read, relation_in_front, adding_in_front, multiplying_in_front, part_at, product_at, sum_at}
use Rattle.kl1_model.specs.laws.ReadLaws.{grouped_on}
use Rattle.kl1_model.proofs.ReadSound.{answered, relation_is, adding_is, multiplying_is, part_sound, product_sound, sum_sound}
use Rattle.kl1_model.proofs.ReadComplete.{part_steps_few, product_steps_few, sum_steps_few}
use Rattle.kl1_model.proofs.ReadSteps.{whole_sound, grouped_goes_on}
use Rattle.kl1_read.specs.declared.infix.Level.{Level}
use Rattle.kl1_read.specs.declared.infix.Level.TheVariants.{Relations, Sums, Products}
use Rattle.kl1_read.specs.Infixes.{answer_map, relation_named, adding_named, multiplying_named, infix_in_front}
use Rattle.kl1_read.specs.Meanings.{reading, sum_read, product_read, part_read, operand_read, operation, joined, grouped_read, Going, after_operand}

-- less is after what was read, also once it is changed
mapped_less : {A B : Type 0} (f : A → B) (x : Answer A) (n : ℕ) → ((a : A) (us : List Numbered) → x ≡ Some (a, us) → length us < n) → (b : B) (us : List Numbered) → answer_map f x ≡ Some (b, us) → length us < n
mapped_less f None n less b us h = absurd (none-some (b, us) h)
mapped_less f (Some r) n less b us h = omega (arith, less r.0 r.1 refl, ap (length {A = Numbered}) (answered (λ _ vs. vs) (f r.0) b r.1 us h))

infix_less : (level : Level) (ts us : List Numbered) (name : BuiltIn) → infix_in_front level ts ≡ Some (name, us) → length us < length ts
infix_less Relations ts us name h =
    mapped_less relation_named (relation_in_front ts) (length ts) (λ r vs found. omega (arith, ap (length {A = Numbered}) (relation_is ts vs r found))) name us h
infix_less Sums ts us name h =
    mapped_less adding_named (adding_in_front ts) (length ts) (λ o vs found. omega (arith, ap (length {A = Numbered}) (adding_is ts vs o found))) name us h
infix_less Products ts us name h =
    mapped_less multiplying_named (multiplying_in_front ts) (length ts) (λ o vs found. omega (arith, ap (length {A = Numbered}) (multiplying_is ts vs o found))) name us h

operand_less : (level : Level) (ts us : List Numbered) (t : Term) → operand_read level ts ≡ Some (t, us) → length us < length ts
unfolding sum_read product_read part_read
operand_less Relations ts us t h =
    mapped_less sum_term (sum_at reading ts) (length ts) (λ s vs read. omega (arith, ap (length {A = Numbered}) (sum_sound reading whole_sound ts s vs read), sum_steps_few s vs)) t us h
operand_less Sums ts us t h =
    mapped_less product_term (product_at reading ts) (length ts) (λ p vs read. omega (arith, ap (length {A = Numbered}) (product_sound reading whole_sound ts p vs read), product_steps_few p vs)) t us h
operand_less Products ts us t h =
    mapped_less part_term (part_at reading ts) (length ts) (λ p vs read. omega (arith, ap (length {A = Numbered}) (part_sound reading whole_sound ts p vs read), part_steps_few p vs)) t us h

-- the operands of a level are what was read and, after an operator, the next one
grouped_step : (level : Level) (t : Term) (ts : List Numbered) → grouped_read level t ts ≡ grouped_on (operand_read level) operation (grouped_read level) t ts (infix_in_front level ts)
grouped_step level t ts = grouped_goes_on (infix_in_front level) (operand_read level) operation (infix_less level) (operand_less level) t ts

read_twice : {A R : Type 0} (x : Answer A) (go : A → List Numbered → Answer Term) (k : Term → List Numbered → Answer R) → then_read (then_read x go) k ≡ then_read x (λ a us. then_read (go a us) k)
read_twice None go k = refl
read_twice (Some r) go k = refl

module _ (level : Level) (left : Option (BuiltIn × Term)) (k : Going) (t whole : Term) (ts : List Numbered) (e : whole ≡ joined left t) where
  -- an operator follows an operand
  pub operator_follows : (name : BuiltIn) (us : List Numbered) → Some (name, us) ≡ infix_in_front level ts → then_read (operand_read level us) (after_operand level (Some (name, whole)) k) ≡ after_operand level left k t ts
  operator_follows name us h =
      ap (λ w. then_read (operand_read level us) (after_operand level (Some (name, w)) k)) e
      ∙ sym (read_twice (operand_read level us) (λ a vs. grouped_read level (operation (joined left t) name a) vs) k)
      ∙ ap (λ x. then_read (grouped_on (operand_read level) operation (grouped_read level) (joined left t) ts x) k) h
      ∙ ap (λ x. then_read x k) (sym (grouped_step level (joined left t) ts))

  -- no operator follows an operand
  pub operator_gone : None ≡ infix_in_front level ts → k whole ts ≡ after_operand level left k t ts
  operator_gone h =
      ap (λ w. k w ts) e
      ∙ ap (λ x. then_read (grouped_on (operand_read level) operation (grouped_read level) (joined left t) ts x) k) h
      ∙ ap (λ x. then_read x k) (sym (grouped_step level (joined left t) ts))
