use Rattle.std.proofs.Common.{◌≡◌, false, true, arith, sym}
use Rattle.std.proofs.lemmas.Grind.{common_steps}
use Rattle.kl1_model.specs.Line.{is_blank_line, word_in, words_of}
use Rattle.kl1_model.specs.AccountName.{is_account_name}
use Rattle.kl1_script.proofs.AccountNames.{one_more, all_more, no_name, too_many, names_alone}
use Rattle.kl1_script.proofs.accounts.names_in.Goals as goal

pub returns-in_default : goal.returns-in_default
returns-in_default c =
    let h : is_blank_line c.loop-rest.rest.now ≡ false = cc in
    let k : is_account_name (word_in c.loop-rest.rest.now) ≡ false = rw (sym c.split_word.ensures.word) (sym c.in_default.ensures.variant) in
    no_name c.loop-rest.names.items (words_of c.args.line.now) c.loop-rest.rest.now c.loop-rest.invariant.same h k

pub returns-then-len-eq-MOST_ACCOUNTS : goal.returns-then-len-eq-MOST_ACCOUNTS
returns-then-len-eq-MOST_ACCOUNTS c =
    let h : is_blank_line c.loop-rest.rest.now ≡ false = cc in
    too_many c.loop-rest.names.items (words_of c.args.line.now) c.loop-rest.rest.now c.loop-rest.invariant.same h (grind (arith, common_steps))

pub loop-rest-preserved : goal.loop-rest-preserved
loop-rest-preserved c =
    let h : is_blank_line c.loop-rest.rest.now ≡ false = cc in
    let more = one_more c.loop-rest.names.items (words_of c.args.line.now) c.loop-rest.rest.now c.loop-rest.invariant.same h in
    let k : is_account_name (word_in c.loop-rest.rest.now) ≡ true = rw (sym c.split_word.ensures.word) (sym c.in-Some.ensures.variant) in
    let all = all_more c.loop-rest.names.items (word_in c.loop-rest.rest.now) c.loop-rest.invariant.all k in
    record {
      same = grind (arith, common_steps);
      all = grind (arith, common_steps);
      few = grind (arith, common_steps);
    }

pub returns : goal.returns
returns c =
    let h : is_blank_line c.loop-rest.rest.now ≡ true = cc in
    names_alone c.loop-rest.names.items (words_of c.args.line.now) c.loop-rest.rest.now c.loop-rest.invariant.same h c.loop-rest.invariant.all c.loop-rest.invariant.few
