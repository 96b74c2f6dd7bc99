use Rattle.std.proofs.Common.{◌∙◌, ◌-◌, ap, sym, Option, Some, None, ℕ, if◌then◌else◌, length, arith}
use Rattle.kl1_read.proofs.Follows.{within_last}
use Rattle.kl1_read.proofs.following.section_within.Goals as goal

pub returns-then-is_one_of : goal.returns-then-is_one_of
returns-then-is_one_of c =
    ap (λ b. if◌then◌else◌ {A = Option ℕ} b (Some c.last-item.result.section) None) (sym c.if-is_one_of.true ∙ c.is_one_of.ensures)
    ∙ within_last c.args.name.now c.args.count c.args.clauses.now (length c.args.clauses.now - 1) c.last-item.result (omega (arith, c.in-len1-up.len_at_least)) c.last-item.is

pub returns-else-is_one_of : goal.returns-else-is_one_of
returns-else-is_one_of c =
    ap (λ b. if◌then◌else◌ {A = Option ℕ} b (Some c.last-item.result.section) None) (sym c.if-is_one_of.false ∙ c.is_one_of.ensures)
    ∙ within_last c.args.name.now c.args.count c.args.clauses.now (length c.args.clauses.now - 1) c.last-item.result (omega (arith, c.in-len1-up.len_at_least)) c.last-item.is
