-- The row of a compiled clause's tests is the clause's tests.
use Rattle.std.proofs.Common.{◌≡◌, ℕ, zero, suc, ◌<◌, List, [], ◌∷◌, length, map, get_or, refl, ap, ap₂, ◌∙◌, arith, inl, inr}
use Rattle.std.specs.Prelude.{max}
use Rattle.kl1_model.specs.declared.built_in.BuiltIn.{BuiltIn}
use Rattle.kl1_model.specs.Term.{Term, terms_of}
use Rattle.kl1_model.specs.code.TermCode.{NodeCode, front_of, behind, read_node, read_nodes, nodes_of_all}
use Rattle.kl1_model.specs.Meaning.{highest_in}
use Rattle.kl1_text.specs.Reading.{Reads}
use Rattle.kl1_term.proofs.Lent.{list_of-terms_of}
use Rattle.kl1_clause.specs.declared.name.Name.{Name}
use Rattle.kl1_clause.specs.declared.name.Name.TheVariants.{Language, Place}
use Rattle.kl1_clause.specs.declared.instruction.Instruction.{Instruction}
use Rattle.kl1_clause.specs.declared.instruction.Instruction.TheVariants.{Variable, Integer, Atom, Structure}
use Rattle.kl1_clause.specs.Instructions.{IsPlaced, AreNamed, IsRowOf, text_in, code_in}
use Rattle.kl1_clause.proofs.ClauseFacts.{read_row}
use Rattle.kl1_match.specs.TestTerms.{name_of, coded, terms_from, highest_of, highest_among}

mapped_at : {N : Type 0} (f : N → List ℕ) (names : List N) (k : ℕ) (d : N) → k < length (map f names) → f (get_or names k d) ≡ get_or (map f names) k []
mapped_at f [] k d lt = absurd (omega arith)
mapped_at f (n ∷ ns) zero d lt = refl
mapped_at f (n ∷ ns) (suc k) d lt = mapped_at f ns k d (omega arith)

-- a name of the code is read as its text
pub name_same : {N : Type 0} (built : BuiltIn → N) (f : N → List ℕ) (names : List N) (a : Name) → Reads built f → IsPlaced (length (map f names)) a → f (name_of built names a) ≡ text_in (map f names) a
name_same built f names (Language x) reads p = reads.texts x
name_same built f names (Place k) reads p = mapped_at f names k _ p

coded_same : {N : Type 0} (built : BuiltIn → N) (f : N → List ℕ) (names : List N) (row : List Instruction) → Reads built f → AreNamed (length (map f names)) row → map (coded (λ a. f (name_of built names a))) row ≡ map (code_in (map f names)) row
coded_same built f names [] reads p = refl
coded_same built f names (Variable n ∷ is) reads p = ap (λ (cs : List NodeCode). inl (inl n) ∷ cs) (coded_same built f names is reads p.1)
coded_same built f names (Integer i ∷ is) reads p = ap (λ (cs : List NodeCode). inl (inr i) ∷ cs) (coded_same built f names is reads p.1)
coded_same built f names (Atom a ∷ is) reads p = ap₂ (λ (l : List ℕ) (cs : List NodeCode). inr (inl l) ∷ cs) (name_same built f names a reads p.0) (coded_same built f names is reads p.1)
coded_same built f names (Structure a n ∷ is) reads p = ap₂ (λ (l : List ℕ) (cs : List NodeCode). inr (inr (l, n)) ∷ cs) (name_same built f names a reads p.0) (coded_same built f names is reads p.1)

-- a row is read as the terms that it is
pub row_means : {N : Type 0} (built : BuiltIn → N) (f : N → List ℕ) (names : List N) (row : List Instruction) (ts : List Term) → Reads built f → IsRowOf (map f names) row (nodes_of_all (terms_of ts)) → terms_from (λ a. f (name_of built names a)) row ≡ ts
row_means built f names row ts reads r =
    ap (λ cs. read_nodes cs []) (coded_same built f names row reads r.named) ∙ read_row (map f names) row (terms_of ts) r ∙ list_of-terms_of ts

-- ---- the greatest variable

highest_split : (n : ℕ) (ts : List Term) → max (highest_in (front_of n ts)) (highest_in (terms_of (behind n ts))) ≡ highest_in (terms_of ts)
highest_split zero ts = omega arith
highest_split (suc n) [] = omega (arith, highest_split n [])
highest_split (suc n) (t ∷ ts) = omega (arith, highest_split n ts)

node_highest : (named : Name → List ℕ) (i : Instruction) (ts : List Term) → highest_in (terms_of (read_node (coded named i) ts)) ≡ max (highest_of i) (highest_in (terms_of ts))
node_highest named (Variable n) ts = refl
node_highest named (Integer i) ts = refl
node_highest named (Atom a) ts = refl
node_highest named (Structure a n) ts = omega (arith, highest_split n ts)

pub row_highest : (named : Name → List ℕ) (row : List Instruction) → highest_in (terms_of (terms_from named row)) ≡ highest_among row
row_highest named [] = refl
row_highest named (i ∷ is) = node_highest named i (terms_from named is) ∙ ap (max (highest_of i)) (row_highest named is)
