-- Codes mean the modules that they are made of.
use Rattle.std.proofs.Common.{◌≡◌, ℕ, List, [], map, sym, ap, subst, ◌∙◌}
use Rattle.kl1_model.specs.Module.{Clause, Module}
use Rattle.kl1_model.specs.State.{names_of_clauses, names_of_module, with_names}
use Rattle.kl1_clause.specs.declared.code.Code.TheInside.{Inside}
use Rattle.kl1_clause.specs.declared.compiled_clause.CompiledClause.{CompiledClause}
use Rattle.kl1_read.specs.declared.source.Source.{Source}
use Rattle.kl1_clause.specs.NameList.{with_text, with_texts}
use Rattle.kl1_read.specs.Sources.{clause_of_parts}
use Rattle.kl1_clause.specs.Clauses.{clause_in, AreCompiled}
use Rattle.kl1_read.specs.Sources.{module_of_parts}
use Rattle.kl1_clause.specs.Modules.{IsMeant}
use Rattle.kl1_clause.specs.Codes.{module_in, IsSound}
use Rattle.kl1_clause.proofs.Growth.{with_more}
use Rattle.kl1_clause.proofs.ClauseFacts.{clauses_mean}

-- the fields of a code that is made of a source and parts
pub record IsBuilt (source : List ℕ) (parts : Source) (c : Inside) : Type 0 where
  pub source_is : c.source.items ≡ source
  pub name_is : c.name ≡ parts.name
  pub names_are : c.names ≡ with_texts (with_text [] parts.name) (names_of_clauses (map clause_of_parts parts.clauses.items))
  pub clauses_are : AreCompiled c.names c.clauses.items (map clause_of_parts parts.clauses.items)

-- its module is that of the parts
pub module_is : (source : List ℕ) (parts : Source) (c : Inside) → IsBuilt source parts c → module_in c ≡ module_of_parts source parts
module_is source parts c b =
    let clauses : map (clause_in c.names) c.clauses.items ≡ map clause_of_parts parts.clauses.items = clauses_mean c.names c.clauses.items (map clause_of_parts parts.clauses.items) b.clauses_are in
    λ x. record { name = b.name_is x; source = b.source_is x; clauses = clauses x }

-- and it is what its source means, if the parts are
pub is_sound : (source : List ℕ) (parts : Source) (c : Inside) → IsMeant source (module_of_parts source parts) → IsBuilt source parts c → IsSound c
is_sound source parts c meant b =
    let module_eq : module_in c ≡ module_of_parts source parts = module_is source parts c b in
    record {
      names_are = b.names_are ∙ (sym (with_more [] parts.name (names_of_clauses (map clause_of_parts parts.clauses.items))) ∙ ap (λ (m : Module). with_texts [] (names_of_module m)) (sym module_eq));
      compiled = subst (λ (ds : List Clause). AreCompiled c.names c.clauses.items ds) (sym (clauses_mean c.names c.clauses.items (map clause_of_parts parts.clauses.items) b.clauses_are)) b.clauses_are;
      meant = subst (λ (m : Module). IsMeant c.source.items m) (sym module_eq) (subst (λ (s : List ℕ). IsMeant s (module_of_parts source parts)) (sym b.source_is) meant);
    }

-- the names of a code are those of its module
pub names_as : (c : Inside) (m : Module) → IsSound c → module_in c ≡ m → c.names ≡ with_names [] (names_of_module m)
unfolding with_texts
names_as c m s e = s.names_are ∙ ap (λ (n : Module). with_texts [] (names_of_module n)) e

-- and its clauses are those of its module
pub clauses_as : (c : Inside) (m : Module) (cs : List CompiledClause) → IsSound c → module_in c ≡ m → cs ≡ c.clauses.items → AreCompiled (with_names [] (names_of_module m)) cs m.clauses
clauses_as c m cs s e i =
    let of_names : AreCompiled (with_names [] (names_of_module m)) c.clauses.items (module_in c).clauses = subst (λ (ns : List (List ℕ)). AreCompiled ns c.clauses.items (module_in c).clauses) (names_as c m s e) s.compiled in
    let of_module : AreCompiled (with_names [] (names_of_module m)) c.clauses.items m.clauses = subst (λ (n : Module). AreCompiled (with_names [] (names_of_module m)) c.clauses.items n.clauses) e of_names in
    subst (λ (ds : List CompiledClause). AreCompiled (with_names [] (names_of_module m)) ds m.clauses) (sym i) of_module
