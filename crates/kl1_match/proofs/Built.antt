-- Rows of instructions built in a store.
use Rattle.std.proofs.Common.{◌≡◌, ℕ, zero, suc, ◌+◌, ◌-◌, ◌<◌, ◌≤◌, List, [], ◌∷◌, length, map, drop, get_or, refl, ap, sym, ◌∙◌, subst, slice_index_or, arith, length-take}
use Rattle.std.proofs.lemmas.List.{drop_more, drop_all}
use Rattle.kl1_model.specs.declared.built_in.BuiltIn.{BuiltIn}
use Rattle.kl1_model.specs.Term.{Term, substituted}
use Rattle.kl1_model.specs.code.TermCode.{NodeCode, read_node, read_nodes}
use Rattle.kl1_text.specs.Reading.{Reads}
use Rattle.kl1_store.specs.declared.cell.Cell.{Cell}
use Rattle.kl1_store.specs.declared.cell.Cell.TheVariants as cell
use Rattle.kl1_store.specs.Held.{Held, IsWithin, IsIn, AreIn}
use Rattle.kl1_store.specs.Sound.{Grown}
use Rattle.kl1_store.proofs.Growing.{AreWithin-more}
use Rattle.kl1_clause.specs.declared.instruction.Instruction.{Instruction}
use Rattle.kl1_clause.specs.Instructions.{IsNamed, AreNamed, code_in}
use Rattle.kl1_match.specs.declared.step.Step.{Step}
use Rattle.kl1_match.specs.Instances.{AreKept}
use Rattle.kl1_match.specs.Steps.{step_code, Agrees, PutsStep}
use Rattle.kl1_match.specs.Built.{IsWithinRow, AreBelow, BuildsRow}
use Rattle.kl1_match.proofs.Steps.{within_at}

-- a store that has grown has the structures that it had
pub longer : {N : Type 0} (a b : Held N) → Grown a b → length a.structures ≤ length b.structures
longer a b g = let e = ap length g.structures in omega (arith, e, length-take (length a.structures) b.structures)

pub within_more : {N : Type 0} (vs ss ws us : ℕ) (x : Cell N) → vs ≤ ws → ss ≤ us → IsWithin vs ss x → IsWithin ws us x
within_more vs ss ws us (cell.Variable v) p q h = omega (arith, p, h)
within_more vs ss ws us (cell.Integer i) p q h = tt
within_more vs ss ws us (cell.Atom a) p q h = tt
within_more vs ss ws us (cell.Structure s) p q h = omega (arith, q, h)

-- a cell of a store that has grown
pub still_in : {N : Type 0} (a b : Held N) (x : Cell N) → Grown a b → IsIn a x → IsIn b x
still_in a b x g h = within_more a.variables (length a.structures) b.variables (length b.structures) x g.variables (longer a b g) h

pub all_still_in : {N : Type 0} (a b : Held N) (xs : List (Cell N)) → Grown a b → AreIn a xs → AreIn b xs
all_still_in a b xs g h = AreWithin-more a.variables (length a.structures) b.variables (length b.structures) xs g.variables (longer a b g) h

-- what takes the place of variables is the same in a store that has grown
pub still_agrees : {N : Type 0} (f : N → List ℕ) (a b : Held N) (variables : List (Cell N)) (e : ℕ → Term) → AreIn a variables → AreKept f a b → Agrees f a variables e → Agrees f b variables e
still_agrees f a b variables e inside kept agrees v below =
    kept (slice_index_or variables v (cell.Variable 0)) (within_at a.variables (length a.structures) variables v (cell.Variable 0) inside below) ∙ agrees v below

-- an instruction of a row
pub named_at : (count : ℕ) (row : List Instruction) (i : ℕ) (d : Instruction) → AreNamed count row → i < length row → IsNamed count (slice_index_or row i d)
named_at count [] i d p h = absurd (omega (arith, h))
named_at count (x ∷ xs) zero d p h = p.0
named_at count (x ∷ xs) (suc i) d p h = named_at count xs i d p.1 (omega (arith, h))

pub below_at : (count : ℕ) (row : List Instruction) (i : ℕ) (d : Instruction) → AreBelow count row → i < length row → IsWithinRow count (slice_index_or row i d)
below_at count [] i d p h = absurd (omega (arith, h))
below_at count (x ∷ xs) zero d p h = p.0
below_at count (x ∷ xs) (suc i) d p h = below_at count xs i d p.1 (omega (arith, h))

-- an element within a list, whatever stands for a missing one
pub element_is : {A : Type 0} (xs : List A) (i : ℕ) (d e : A) → i < length xs → slice_index_or xs i d ≡ get_or xs i e
element_is [] i d e h = absurd (omega (arith, h))
element_is (x ∷ xs) zero d e h = refl
element_is (x ∷ xs) (suc i) d e h = element_is xs i d e (omega (arith, h))

-- what is built of the end of a row
pub record IsBuilt {N : Type 0} (built : BuiltIn → N) (names : List N) (old new : Held N) (variables : List (Cell N)) (row : List Instruction) (left : ℕ) (stack : List (Cell N)) : Type 0 where
  pub within : left ≤ length row
  pub grown : Grown old new
  pub builds : BuildsRow built names old new variables (drop left row) stack

-- nothing is built yet
pub nothing_built : {N : Type 0} (built : BuiltIn → N) (names : List N) (h : Held N) (variables : List (Cell N)) (row : List Instruction) (stack : List (Cell N)) → Grown h h → stack ≡ [] → IsBuilt built names h h variables row (length row) stack
nothing_built {N = N} built names h variables row stack g e =
    let rest : drop (length row) row ≡ [] = drop_all (length row) row (omega arith) in
    let P : List Instruction → Type 0 = λ is. BuildsRow built names h h variables is stack in
    let Q : List (Cell N) → Type 0 = λ xs. BuildsRow built names h h variables [] xs in
    let none : BuildsRow built names h h variables [] [] = record { count = refl; inside = tt; stacked = λ f r. record { terms = λ env a. refl; kept = λ x i. refl } } in
    record { within = omega arith; grown = g; builds = subst P (sym rest) (subst Q (sym e) none) }

-- one step more
pub more_built : {N : Type 0} (built : BuiltIn → N) (names : List N) (old mid new : Held N) (variables : List (Cell N)) (row : List Instruction) (left : ℕ) (i d : Instruction) (step : Step N) (before after : List (Cell N)) →
    AreIn old variables → 0 < left → i ≡ slice_index_or row (left - 1) d →
    ((f : N → List ℕ) → Reads built f → step_code f step ≡ code_in (map f names) i) →
    IsBuilt built names old mid variables row left before → Grown old new → PutsStep mid new variables step before after →
    IsBuilt built names old new variables row (left - 1) after
more_built {N = N} built names old mid new variables row left i d step before after inside some at code b grown puts =
    let within : left - 1 < length row = omega (arith, some, b.within) in
    let again : left - 1 + 1 ≡ left = omega (arith, some) in
    let rest : drop (left - 1) row ≡ i ∷ drop left row = drop_more row (left - 1) i within ∙ (ap (λ j. j ∷ drop (left - 1 + 1) row) (sym (at ∙ element_is row (left - 1) d i within)) ∙ ap (λ n. i ∷ drop n row) again) in
    let P : List Instruction → Type 0 = λ is. BuildsRow built names old new variables is after in
    let all : BuildsRow built names old new variables (i ∷ drop left row) after = record {
      count = puts.count ∙ b.builds.count;
      inside = puts.inside;
      stacked = λ f reads.
          let s = b.builds.stacked f reads in
          let p = puts.put f in
          let nodes = read_nodes (map (code_in (map f names)) (drop left row)) [] in
          record {
            terms = λ env agrees.
                p.terms env nodes (still_agrees f old mid variables env inside s.kept agrees) (s.terms env agrees)
                ∙ ap (λ (c : NodeCode). map (substituted env) (read_node c nodes)) (code f reads);
            kept = λ x h. p.kept x (still_in old mid x b.grown h) ∙ s.kept x h;
          };
    } in
    record { within = omega (arith, within); grown = grown; builds = subst P (sym rest) all }
