use Rattle.std.proofs.Common.{◌+◌, ◌*◌, ◌<◌, ◌≤◌, ◌^◌, length, ◌∙◌, arith}
use Rattle.std.proofs.lemmas.List.{length-set}
use Rattle.kl1_model.specs.declared.limits.TheConstants.{MOST_NAME_BYTES}
use Rattle.kl1_text.specs.Words.{word_at}
use Rattle.kl1_text.proofs.Words.{full_word, short_word, name_length}
use Rattle.kl1_atoms.proofs.Comparing.{known_name, known_word, words_put, zeros_left, whole_name}
use Rattle.kl1_atoms.proofs.atom_table.AtomTable.read_text.Goals as goal

pub loop-word-preserved : goal.loop-word-preserved
loop-word-preserved c =
    let w = c.loop-word.word in
    let before = c.args.seat.now.me in
    let now = c.loop-word.seat.me in
    let same = c.loop-word.invariant.same in
    let inside : w < length c.loop-word.words = omega (arith, c.loop-word.invariant.size) in
    record {
      of = c.read-value.ensures.of ∙ c.loop-word.invariant.of;
      same = c.read-value.ensures.same ∙ same;
      size = length-set c.loop-word.words w c.read-value.result ∙ c.loop-word.invariant.size;
      name = λ t e some. known_name before now t c.args.entry _ c.read-value.result same c.read-value.ensures.tells e;
      words = λ t e.
          let name = known_name before now t c.args.entry _ c.read-value.result same c.read-value.ensures.tells e in
          let words = c.loop-word.invariant.words t e in
          let read = known_word before now t c.args.self.now.entries c.args.entry w c.read-value.result same c.requires.entries c.read-value.ensures.tells e words.0 in
          let full : 256 ^ 7 ≤ word_at t w = omega arith in
          ((let l = full_word t w name full in omega arith), words_put c.loop-word.words t w c.read-value.result inside read words.1);
      left = zeros_left c.loop-word.words w c.read-value.result c.loop-word.invariant.left;
    }

-- the name ends in the word that was read
pub returns-then-value-lt-FULL_WORD-clause-words : goal.returns-then-value-lt-FULL_WORD-clause-words
returns-then-value-lt-FULL_WORD-clause-words c = λ t e.
    let w = c.loop-word.word in
    let before = c.args.seat.now.me in
    let now = c.loop-word.seat.me in
    let same = c.loop-word.invariant.same in
    let inside : w < length c.loop-word.words = omega (arith, c.loop-word.invariant.size) in
    let name = known_name before now t c.args.entry _ c.read-value.result same c.read-value.ensures.tells e in
    let words = c.loop-word.invariant.words t e in
    let read = known_word before now t c.args.self.now.entries c.args.entry w c.read-value.result same c.requires.entries c.read-value.ensures.tells e words.0 in
    let less : word_at t w < 256 ^ 7 = omega arith in
    let short : length t < 8 * w + 8 = short_word t w name less in
    whole_name _ t (w + 1) (length-set c.loop-word.words w c.read-value.result ∙ c.loop-word.invariant.size) (omega arith)
    (words_put c.loop-word.words t w c.read-value.result inside read words.1) (zeros_left c.loop-word.words w c.read-value.result c.loop-word.invariant.left)

-- a name ends before
pub returns-clause-words : goal.returns-clause-words
returns-clause-words c = λ t e.
    let more : 8 * c.loop-word.word ≤ length t = (c.loop-word.invariant.words t e).0 in
    let few : length t ≤ MOST_NAME_BYTES = name_length t (c.loop-word.invariant.name t e (omega arith)) in
    absurd (omega arith)
