use Rattle.std.proofs.Common.{◌≡◌, ◌∷◌, length, ap}
use Rattle.kl1_model.specs.Token.{word_of}
use Rattle.std.proofs.lemmas.Bool.{and_from}
use Rattle.kl1_read.proofs.WordLemmas.{word_taken, word_named}
use Rattle.kl1_read.proofs.words.word_of.Goals as goal

taken : (c : goal.After-front_part) → c.front_part.result.now ≡ c.args.first ∷ word_of c.args.rest.now
taken c =
    let is_part = word_taken c.args.first c.args.rest.now in
    let behind = ap length c.behind_word.ensures in
    cc

pub returns-clause-value : goal.returns-clause-value
returns-clause-value c = taken c

pub returns-clause-names : goal.returns-clause-names
returns-clause-names c = rw (taken c) (and_from _ _ c.requires.name (word_named c.args.rest.now))
