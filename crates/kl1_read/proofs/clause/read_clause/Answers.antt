use Rattle.std.proofs.Common.{◌≡◌, map, IfOk, subst}
use Rattle.kl1_read.specs.Views.{kept_token}
use Rattle.kl1_read.specs.Sources.{clause_of_parts}
use Rattle.kl1_read.specs.Statements.{given}
use Rattle.kl1_read.proofs.StatementReads.{statement_reads}
use Rattle.kl1_read.proofs.clause.read_clause.Goals as goal

pub returns : goal.returns
returns c =
    subst (λ x. IfOk c.read_parts.result (λ r. given r (clause_of_parts c.read_parts.new.parts) ≡ x))
    (statement_reads c.args.module_name (map kept_token c.args.tokens.items))
    c.read_parts.ensures
