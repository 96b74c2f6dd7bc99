use Rattle.std.proofs.Common.{◌≡◌, ℕ, ◌+◌, ◌≤◌, Bool, List, Option, take, length, get_or, refl, ap, ◌∙◌, subst, arith, false}
use Rattle.std.proofs.lemmas.List.{take_all}
use Rattle.kl1_user_account.specs.Giving.{AreToldAmong, IsToldBy, new_with, gone_with}
use Rattle.kl1_user_account.proofs.ToldAmong.{told_on, told_none, told_moved, new_few}
use Rattle.kl1_user_account.proofs.given.told_among.Goals as goal

pub loop-number-init : goal.loop-number-init
loop-number-init c = record {
  place = refl;
  few = omega arith;
  so = told_none c.args.store.now.held c.args.asked c.new-told.result.items c.new-told.ensures.items;
}

pub loop-number-preserved : goal.loop-number-preserved
loop-number-preserved c =
    let h = c.args.store.now.held in
    let ns = c.args.numbers.now in
    let found = c.args.found.now in
    let i = c.loop-number.number-index in
    let so = c.loop-number.invariant in
    let r = c.told_by-variable.result in
    let flag : c.flag_at-stands.result ≡ get_or found i false = c.flag_at-stands.ensures ∙ ap (λ (k : ℕ). get_or found k false) so.place in
    let by : IsToldBy c.args.asked (get_or ns i 0) (get_or found i false) c.is_variable_of-made.result r = subst (λ b. IsToldBy c.args.asked (get_or ns i 0) b c.is_variable_of-made.result r) flag c.told_by-variable.ensures in
    let on = told_on h c.args.asked ns found i c.loop-number.told.items c.loop-number.new c.loop-number.tells_gone c.is_variable_of-made.result r c.mark-held.ensures.formed c.requires.inside c.requires.found c.requires.least c.loop-number-test.true c.is_variable_of-made.ensures.value by so.so in
    record {
      place = (let p = so.place in omega (arith, p));
      few = (let f = so.few in let m = new_few c.loop-number.new r in let e = c.new_with-new.ensures in omega (arith, f, m, e));
      so = told_moved h c.args.asked (take (i + 1) ns) _ _ _ _ _ _ c.in_ok-push.ensures.items c.new_with-new.ensures c.gone_with-tells_gone.ensures on;
    }

pub returns : goal.returns
returns c =
    let ns = c.args.numbers.now in
    let i = c.loop-number.number-index in
    let all : take i ns ≡ ns = take_all i ns (omega (arith, c.loop-number-test.false)) in
    subst (λ (xs : List ℕ). AreToldAmong c.args.store.now.held c.args.asked xs c.loop-number.told.items c.loop-number.new c.loop-number.tells_gone) all c.loop-number.invariant.so
