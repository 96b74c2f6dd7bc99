use Rattle.std.proofs.Common.{ap, sym, ◌∙◌, subst, List, ℕ, None, Some, refl}
use Rattle.kl1_model_server.specs.Cut.{cut_of, only_rest, request_first}
use Rattle.kl1_model.specs.Record.{other_line}
use Rattle.kl1_session.specs.Going.{IsKept}
use Rattle.kl1_model_server.proofs.Cuts.{cut_waits}
use Rattle.kl1_session.proofs.Kept.{line_at, line_kept}
use Rattle.kl1_session.proofs.next.next_line.Goals as goal

pub returns-in_default-clause-cut : goal.returns-in_default-clause-cut
returns-in_default-clause-cut c = ap only_rest c.front.ensures ∙ sym (cut_waits c.args.bytes.now (c.in_default.ensures.none refl))

pub returns-in_default-clause-next : goal.returns-in_default-clause-next
returns-in_default-clause-next c =
    let P : List ℕ → Type 0 = λ x. IsKept None x in
    subst P (sym c.front.ensures) (line_kept c.args.bytes.now (c.in_default.ensures.none refl))

pub returns-in-None-clause-cut : goal.returns-in-None-clause-cut
returns-in-None-clause-cut c =
    ap (λ x. request_first (other_line x) (cut_of c.in-Some.behind.now)) c.front-in-None.ensures ∙ line_at c.args.bytes.now c.in-Some.line.now c.in-Some.behind.now c.without_return-line.result.now None c.in-Some.ensures.some c.without_return-line.ensures c.in-None.ensures

pub returns-in-Some-source_bytes_in-clause-cut : goal.returns-in-Some-source_bytes_in-clause-cut
returns-in-Some-source_bytes_in-clause-cut c =
    c.next_load.ensures.cut ∙ line_at c.args.bytes.now c.in-Some.line.now c.in-Some.behind.now c.without_return-line.result.now (Some c.in-Some-source_bytes_in.count) c.in-Some.ensures.some c.without_return-line.ensures c.in-Some-source_bytes_in.ensures
