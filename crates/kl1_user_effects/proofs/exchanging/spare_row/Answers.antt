use Rattle.kl1_user_effects.proofs.Words.{ℕ, ◌+◌, List, take, sym, ap, ◌∙◌, subst, take_all, CellName, IsSpared, AreSpared}
use Rattle.kl1_user_effects.proofs.Swapping.{spared_next}
use Rattle.kl1_user_effects.proofs.exchanging.spare_row.Goals as goal

pub loop-text-preserved : goal.loop-text-preserved
loop-text-preserved c =
    let names = c.args.names.now.names in
    let texts = c.args.texts.now in
    let i = c.loop-text.text-index in
    let t = c.text-item.result in
    let number = c.number_or_spare-number.result in
    record {
      place = c.in_ok-place.ensures ∙ ap (λ n. n + 1) c.loop-text.invariant.place;
      spared =
          subst (λ (cs : List CellName). AreSpared names 0 (take (i + 1) texts) cs) (sym c.in_ok-push.ensures.items)
          (spared_next names texts i c.loop-text.row.items t number c.loop-text-test.true c.text-item.is (subst (λ n. IsSpared names n t number) c.loop-text.invariant.place c.number_or_spare-number.ensures) c.loop-text.invariant.spared);
    }

pub returns : goal.returns
returns c = subst (λ (ts : List (List ℕ)). AreSpared c.args.names.now.names 0 ts c.loop-text.row.items) (take_all c.loop-text.text-index c.args.texts.now c.loop-text-test.false) c.loop-text.invariant.spared
