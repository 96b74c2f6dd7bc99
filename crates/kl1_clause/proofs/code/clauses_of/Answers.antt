use Rattle.std.proofs.Common.{◌≡◌, true, sym, subst}
use Rattle.kl1_model.specs.laws.WaitsLaws.{is_guarded}
use Rattle.kl1_read.specs.declared.clause_parts.ClauseParts.{ClauseParts}
use Rattle.kl1_read.specs.Sources.{clause_of_parts}
use Rattle.kl1_clause.proofs.CodeFacts.{made_none, made_next}
use Rattle.kl1_clause.proofs.Guards.{guarded_at}
use Rattle.kl1_clause.proofs.code.clauses_of.Goals as goal

pub loop-part-init : goal.loop-part-init
loop-part-init c = rw c.new-clauses.ensures.items (made_none c.args.names.now)

pub loop-part-preserved : goal.loop-part-preserved
loop-part-preserved c =
    rw c.in_ok-push.ensures.items
    (made_next c.args.names.now c.loop-part.names c.compiled_of.new.names c.loop-part.clauses.items c.args.parts.now c.loop-part.part-index c.part-item.result c.in_ok-clause.clause
    c.loop-part-test.true c.part-item.is c.loop-part.invariant c.in_ok-clause.ensures.names c.in_ok-clause.ensures.clause)

pub compiled_of-requires : goal.compiled_of-requires
compiled_of-requires c =
    let P : ClauseParts → Type 0 = λ p. is_guarded (clause_of_parts p) ≡ true in
    subst P (sym c.part-item.is) (guarded_at c.args.parts.now c.loop-part.part-index c.part-item.result c.requires c.loop-part-test.true)
