use Rattle.std.proofs.Common.{◌≡◌, ◌∷◌, [], ◌++◌, subst, sym, IfOk, option_to_list, arith, ap, ◌∙◌}
use Rattle.kl1_model.specs.Term.{structure, terms_of}
use Rattle.kl1_read.specs.Pieces.{writable}
use Rattle.kl1_read.proofs.Arguments.{none_unwritable, many_unwritable, two_of}
use Rattle.kl1_read.proofs.piece.Piece.structure.Goals as goal

pub returns-then-len-eq0 : goal.returns-then-len-eq0
returns-then-len-eq0 c = none_unwritable c.args.name c.args.arguments.items (omega (arith, c.args.arguments.ok.0))

pub returns-then-are_too_many : goal.returns-then-are_too_many
returns-then-are_too_many c = many_unwritable c.args.name c.args.arguments.items (omega (arith, c.are_too_many.ensures.many c.if-are_too_many.true, c.args.arguments.ok.0))

pub returns-then-len-eq2 : goal.returns-then-len-eq2
returns-then-len-eq2 c =
    let two : c.args.arguments.items ≡ c.unwrap-first.result ∷ c.unwrap-second.result ∷ [] = two_of c.args.arguments.items c.pop.new.self.items c.pop-then-len-eq2.new.self.items c.unwrap-first.result c.unwrap-second.result (c.pop.ensures.items ∙ ap (λ o. c.pop.new.self.items ++ option_to_list o) c.unwrap-second.ensures) (c.pop-then-len-eq2.ensures.items ∙ ap (λ o. c.pop-then-len-eq2.new.self.items ++ option_to_list o) c.unwrap-first.ensures) (omega (arith, c.args.arguments.ok.0)) in
    subst (λ es. IfOk c.pair.result (λ piece. piece ≡ writable (structure c.args.name (terms_of es)))) (sym two) c.pair.ensures
