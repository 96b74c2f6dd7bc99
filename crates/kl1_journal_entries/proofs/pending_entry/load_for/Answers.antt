use Rattle.std.proofs.Common.{ℕ, ◌+◌, ◌*◌, ◌≤◌, List, length, sym, subst, arith}
use Rattle.std.proofs.lemmas.Bool.{le-leb}
use Rattle.kl1_model.specs.declared.limits.TheConstants.{MOST_LINE_BYTES}
use Rattle.kl1_model_server.specs.Journal.{loads}
use Rattle.kl1_model_server.specs.laws.TextLaws.{HasLine}
use Rattle.kl1_journal_entries.proofs.Sound.{load_line, bytes_fit}
use Rattle.kl1_journal_entries.proofs.pending_entry.load_for.Goals as goal

pub invariant_of-result : goal.invariant_of-result
invariant_of-result c =
    let bs = c.args.source.now in
    let few : 5 + 2 * length bs ≤ MOST_LINE_BYTES = omega arith in
    record {
      line = subst (λ (xs : List ℕ). HasLine c.args.rules (loads xs)) (sym c.in_ok-source.ensures.items) (load_line c.args.rules bs (le-leb (5 + 2 * length bs) MOST_LINE_BYTES few) (bytes_fit bs c.type_inv.source));
      printed = tt;
      told = tt;
    }
