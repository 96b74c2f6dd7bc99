use Rattle.std.proofs.Common.{◌≡◌, ◌<◌, ◌≤◌, length, ◌∙◌, ap, IsTrue, arith, append_assoc, append-nil}
use Rattle.kl1_model.specs.Text.{is_text}
use Rattle.kl1_text.specs.Words.{bytes_of}
use Rattle.kl1_text.proofs.Words.{bytes_of_none, bytes_of_step, ended_hold, name_length}
use Rattle.kl1_text.proofs.atom_text.AtomText.unpack.Goals as goal

pub loop-word-preserved : goal.loop-word-preserved
loop-word-preserved c =
    let within : c.loop-word.word-index < length c.words-word-items.result.now = omega arith in
    record {
      whole = rw (c.put_number.ensures.value, append_assoc, ← bytes_of_step c.loop-word.word-index c.words-word-items.result.now within) c.loop-word.invariant.whole;
      short = omega (arith, c.put_number.ensures.more);
    }

pub put_number-requires : goal.put_number-requires
put_number-requires c = omega (arith, c.loop-word.invariant.short, c.words-word-items.ensures.few)

-- at the end the bytes are the name's
whole_name : (c : goal.After-loop-word) → c.loop-word.out ≡ c.args.self.now
whole_name c =
    let past : length c.words-word-items.result.now ≤ c.loop-word.word-index = omega arith in
    rw (bytes_of_none c.loop-word.word-index c.words-word-items.result.now past, append-nil) at c.loop-word.invariant.whole ∙ ap bytes_of c.words-word-items.ensures.value ∙ ended_hold c.args.self.now c.words-word-items.ensures.name

-- and they are a text
is_name : (c : goal.After-loop-word) → IsTrue (is_text c.loop-word.out)
is_name c = rw (whole_name c) c.words-word-items.ensures.name

pub returns-clause-value : goal.returns-clause-value
returns-clause-value c = whole_name c

pub returns-clause-short : goal.returns-clause-short
returns-clause-short c = name_length c.loop-word.out (is_name c)

pub returns-clause-text : goal.returns-clause-text
returns-clause-text c = is_name c
