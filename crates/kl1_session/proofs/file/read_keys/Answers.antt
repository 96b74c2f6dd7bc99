use Rattle.std.proofs.Common.{◌≤◌, true, false, length, option_map, ap, sym, ◌∙◌, arith}
use Rattle.kl1_session.specs.Limits.{most_file_bytes}
use Rattle.kl1_session.specs.Files.{are_fit}
use Rattle.kl1_session.specs.Views.{entries_view}
use Rattle.kl1_session.proofs.Lines.{accounts_by}
use Rattle.kl1_session.proofs.file.read_keys.Goals as goal

pub returns-then-is_fit : goal.returns-then-is_fit
returns-then-is_fit c =
    let few : length c.args.bytes.now ≤ most_file_bytes = omega arith in
    accounts_by c.args.bytes.now (entries_view c.in-Some.keys.items) true few (ap (option_map (λ v. entries_view v.items)) (sym c.in-Some.is) ∙ c.in_ok-read_lines.ensures) (c.if-is_fit.ensures ∙ ap (λ x. are_fit (entries_view x)) c.as_slice.ensures.value)

pub returns-else-is_fit : goal.returns-else-is_fit
returns-else-is_fit c =
    let few : length c.args.bytes.now ≤ most_file_bytes = omega arith in
    accounts_by c.args.bytes.now (entries_view c.in-Some.keys.items) false few (ap (option_map (λ v. entries_view v.items)) (sym c.in-Some.is) ∙ c.in_ok-read_lines.ensures) (c.if-is_fit.ensures ∙ ap (λ x. are_fit (entries_view x)) c.as_slice.ensures.value)
