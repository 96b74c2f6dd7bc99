use Rattle.kl1_user_effects.proofs.Words.{ℕ, not, ◌+◌, ◌≡◌, length, take, sym, ap, ◌∙◌, subst, arith, with_texts, texts_of}
use Rattle.kl1_user_effects.proofs.KnownTexts.{found_some, found_none, counted_first, counted_new, counted_known}
use Rattle.kl1_user_effects.proofs.names.AccountNames.count_new.Goals as goal
use Rattle.kl1_user_effects.proofs.names.AccountNames.count_new.Goals.{then-is_none, else-is_none}

pub loop-text-init : goal.loop-text-init
loop-text-init c = record { counted = counted_first c.args.self.now.names; few = omega arith }

pub loop-text-preserved : goal.loop-text-preserved
loop-text-preserved c =
    let ks = c.args.self.now.names in
    let texts = c.args.texts.now in
    let i = c.loop-text.text-index in
    let t = c.text-item.result in
    let so_far = c.loop-text.invariant in
    let P : ℕ → Type 0 = λ n. length (with_texts (texts_of ks) (take (i + 1) texts)) ≡ length ks + n in
    elim c.if-is_none.branch [
      | then-is_none w ↦ record {
        counted = subst P (sym w.count-is) (counted_new ks texts i c.loop-text.count t c.requires c.loop-text-test.true c.text-item.is (found_none c.number_of.result ks t c.number_of.ensures (c.is_none.ensures ∙ ap not w.if-is_none.true)) so_far.counted);
        few = omega arith;
      }
      | else-is_none w ↦
          let known = found_some c.number_of.result ks t c.number_of.ensures (c.is_none.ensures ∙ ap not w.if-is_none.false) in
          record {
            counted = subst P (sym w.count-is) (counted_known ks texts i c.loop-text.count known.0 t c.loop-text-test.true c.text-item.is known.1 so_far.counted);
            few = omega arith;
          }
    ]
