use Rattle.std.proofs.Common.{sym, ◌∙◌, ap, Some, arith}
use Rattle.kl1_atoms.proofs.Rounding.{read_name}
use Rattle.kl1_atoms.proofs.atom_table.AtomTable.text_of.Goals as goal

pub of_words-requires-clause-held : goal.of_words-requires-clause-held
of_words-requires-clause-held c =
    (read_name c.args.seat.now.badge.views c.replace.result.views c.into_seat-own.result.me.0 c.args.number.number c.from-entry.result c.read_text-words.result
    (ap (λ b. b.views) c.replace.ensures.value) c.into_seat-own.ensures.2 c.requires.known (sym c.built_in_at.ensures ∙ c.in_default.is) c.args.seat.now.names (omega arith) c.read_text-words.ensures.words).held

pub of_words-requires-clause-name : goal.of_words-requires-clause-name
of_words-requires-clause-name c =
    (read_name c.args.seat.now.badge.views c.replace.result.views c.into_seat-own.result.me.0 c.args.number.number c.from-entry.result c.read_text-words.result
    (ap (λ b. b.views) c.replace.ensures.value) c.into_seat-own.ensures.2 c.requires.known (sym c.built_in_at.ensures ∙ c.in_default.is) c.args.seat.now.names (omega arith) c.read_text-words.ensures.words).name

pub returns-clause-text : goal.returns-clause-text
returns-clause-text c =
    (read_name c.args.seat.now.badge.views c.replace.result.views c.into_seat-own.result.me.0 c.args.number.number c.from-entry.result c.read_text-words.result
    (ap (λ b. b.views) c.replace.ensures.value) c.into_seat-own.ensures.2 c.requires.known (sym c.built_in_at.ensures ∙ c.in_default.is) c.args.seat.now.names (omega arith) c.read_text-words.ensures.words).text ∙ ap (λ t. Some t) (sym c.of_words.ensures)
