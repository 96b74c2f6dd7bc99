use Rattle.std.proofs.Common.{ℕ, List, ap, refl, ◌∙◌, map}
use Rattle.kl1_model.specs.State.{names_of_clauses}
use Rattle.kl1_clause.specs.declared.code.Code.TheInside.{Inside}
use Rattle.kl1_model.proofs.ReadClauses.{clauses_are_guarded}
use Rattle.kl1_read.specs.Sources.{clause_of_parts, module_of_parts}
use Rattle.kl1_clause.specs.NameList.{with_texts}
use Rattle.kl1_clause.proofs.Soundness.{IsBuilt, module_is, is_sound}
use Rattle.kl1_clause.proofs.code.Code.of_parts.Goals as goal
use Rattle.kl1_clause.proofs.code.Code.of_parts.Goals.{In_ok-source}

-- the fields that are put together
abbrev fields : In_ok-source → Inside
fields c = record { source = c.in_ok-source.source; name = c.args.parts.now.name; names = c.clauses_of.new.names; clauses = c.in_ok-clauses.clauses }

-- they are made of the source and the parts
is_built : (c : In_ok-source) → IsBuilt c.args.source.now c.args.parts.now (fields c)
is_built c =
    let p = c.args.parts.now in
    record {
      source_is = c.in_ok-source.ensures.items;
      name_is = refl;
      names_are = (rw c.deref.ensures.value at c.in_ok-clauses.ensures.names) ∙ ap (λ (x : List (List ℕ)). with_texts x (names_of_clauses (map clause_of_parts p.clauses.items))) c.in_ok-names.ensures;
      clauses_are = rw c.deref.ensures.value at c.in_ok-clauses.ensures.clauses;
    }

pub invariant_of-result : goal.invariant_of-result
invariant_of-result c = is_sound c.args.source.now c.args.parts.now (fields c) c.requires (is_built c)

pub returns : goal.returns
returns c = module_is c.args.source.now c.args.parts.now (fields c) (is_built c)

pub clauses_of-requires : goal.clauses_of-requires
clauses_of-requires c = rw c.deref.ensures.value (clauses_are_guarded c.args.source.now (module_of_parts c.args.source.now c.args.parts.now) c.requires.reads)
