use Rattle.std.proofs.Common.{◌≡◌, ◌+◌, ◌-◌, ◌<◌, true, false, [], ◌∷◌, length, length-append, refl, sym, arith}
use Rattle.std.proofs.lemmas.Grind.{common_steps}
use Rattle.kl1_model_server.specs.JournalText.{lines_of, is_new_name}
use Rattle.kl1_script.proofs.LinesOfNames.{goes_more, ends_short, ends_nameless, ends_old}
use Rattle.kl1_script.proofs.NewNames.{names_more}
use Rattle.kl1_script.proofs.names.names_in.Goals as goal

pub returns-in_default : goal.returns-in_default
returns-in_default c =
    let names = c.loop-names.names.items in
    let few : length names < c.args.count = grind (arith, common_steps) in
    let place : c.len-in-loop-names.result + 2 ≡ length names + 2 = grind (arith, common_steps) in
    ends_short c.args.count (lines_of c.args.text.now) (c.args.count - length names) (c.args.count - (length names + 1)) (length names + 2) (c.len-in-loop-names.result + 2) names (lines_of c.loop-names.rest.now) c.loop-names.rest.now c.loop-names.invariant.on (omega (arith, few)) place (c.in_default.ensures.none refl)

pub returns-in_default-name_of : goal.returns-in_default-name_of
returns-in_default-name_of c =
    let names = c.loop-names.names.items in
    let few : length names < c.args.count = grind (arith, common_steps) in
    let place : c.len-in-loop-names.result + 2 ≡ length names + 2 = grind (arith, common_steps) in
    ends_nameless c.args.count (lines_of c.args.text.now) (c.args.count - length names) (c.args.count - (length names + 1)) (length names + 2) (c.len-in-loop-names.result + 2) names c.in-Some.name_line.now (lines_of c.loop-names.rest.now) (lines_of c.in-Some.after.now) c.loop-names.invariant.on (omega (arith, few)) place c.in-Some.ensures.some (sym c.in_default-name_of.ensures)

pub returns-then-not-may_follow : goal.returns-then-not-may_follow
returns-then-not-may_follow c =
    let names = c.loop-names.names.items in
    let few : length names < c.args.count = grind (arith, common_steps) in
    let place : c.len-in-loop-names.result + 2 ≡ length names + 2 = grind (arith, common_steps) in
    let old : is_new_name names c.in-Some-name_of.name ≡ false = rw (sym c.as_slice.ensures.value) (sym c.if-not-may_follow.ensures) in
    ends_old c.args.count (lines_of c.args.text.now) (c.args.count - length names) (c.args.count - (length names + 1)) (length names + 2) (c.len-in-loop-names.result + 2) names c.in-Some-name_of.name c.in-Some.name_line.now (lines_of c.loop-names.rest.now) (lines_of c.in-Some.after.now) c.loop-names.invariant.on (omega (arith, few)) place c.in-Some.ensures.some (sym c.in-Some-name_of.ensures) old

pub loop-names-preserved : goal.loop-names-preserved
loop-names-preserved c =
    let names = c.loop-names.names.items in
    let few : length names < c.args.count = grind (arith, common_steps) in
    let new : is_new_name names c.in-Some-name_of.name ≡ true = rw (sym c.as_slice.ensures.value) (sym c.if-not-may_follow.ensures) in
    let more : length c.push.new.self.items ≡ length names + 1 = rw c.in_ok-push.ensures.items (length-append names (c.in-Some-name_of.name ∷ [])) in
    record {
      on = goes_more c.args.count (lines_of c.args.text.now) (c.args.count - length names) (c.args.count - length c.push.new.self.items) (length names + 2) (length c.push.new.self.items + 2) names c.push.new.self.items c.in-Some-name_of.name c.in-Some.name_line.now (lines_of c.loop-names.rest.now) (lines_of c.in-Some.after.now) c.loop-names.invariant.on (omega (arith, few, more)) (omega (arith, more)) c.in_ok-push.ensures.items c.in-Some.ensures.some (sym c.in-Some-name_of.ensures) new;
      few = omega (arith, few, more);
      list = rw c.in_ok-push.ensures.items (names_more names c.in-Some-name_of.name c.loop-names.invariant.list new);
      within = omega (arith, c.in-Some.ensures.less, c.loop-names.invariant.within);
    }
