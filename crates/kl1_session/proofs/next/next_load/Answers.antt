use Rattle.std.proofs.Common.{ap, sym, ◌∙◌, subst, List, ℕ, Some, refl}
use Rattle.std.proofs.lemmas.List.{take_rest}
use Rattle.kl1_model_server.specs.Cut.{has_feed, cut_of, request_first}
use Rattle.kl1_session.specs.Going.{IsKept}
use Rattle.kl1_model_server.proofs.Cuts.{load_at}
use Rattle.kl1_session.proofs.Kept.{load_kept}
use Rattle.kl1_session.proofs.next.next_load.Goals as goal

pub returns-in-None-clause-next : goal.returns-in-None-clause-next
returns-in-None-clause-next c =
    let P : List ℕ → Type 0 = λ x. IsKept (Some c.args.count) x in
    subst P (sym c.front.ensures) (load_kept c.args.count c.args.bytes.now c.requires (ap has_feed (sym (take_rest c.args.bytes.now c.args.count)) ∙ c.in-None.ensures.none refl))

pub returns-in-Some-clause-cut : goal.returns-in-Some-clause-cut
returns-in-Some-clause-cut c =
    ap (λ r. request_first r (cut_of c.in-Some.behind.now)) c.load_of.ensures ∙ sym (load_at cut_of c.args.count c.args.bytes.now c.in-Some.tail.now c.in-Some.behind.now (sym (take_rest c.args.bytes.now c.args.count) ∙ c.in-Some.ensures.some.is) c.in-Some.ensures.some.none)
