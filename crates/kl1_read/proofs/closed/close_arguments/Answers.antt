use Rattle.std.proofs.Common.{◌≡◌, ◌∷◌, [], ◌++◌, map, Some, None}
use Rattle.kl1_model.specs.Term.{structure, terms_of}
use Rattle.kl1_read.specs.Pieces.{writable}
use Rattle.kl1_read.specs.Views.{numbered_token}
use Rattle.kl1_read.proofs.PartSteps.{arguments_follow, arguments_end, arguments_doomed}
use Rattle.kl1_read.proofs.closed.close_arguments.Goals as goal

pub returns-in-Some-clause-value : goal.returns-in-Some-clause-value
returns-in-Some-clause-value c =
    arguments_follow c.args.name c.args.arguments.items c.args.piece c.push.new.self (map numbered_token c.args.tokens.now) (map numbered_token c.in-Some.behind.now) c.in_ok-push.ensures.items c.in-Some.ensures.value

pub returns-in-None-2-clause-value : goal.returns-in-None-2-clause-value
returns-in-None-2-clause-value c =
    let gone : None ≡ writable (structure c.args.name.now (terms_of c.push.new.self.items)) = cc c.in_ok-structure-in-Some-behind_mark.ensures in
    λ k dooms. arguments_doomed c.args.name.now (c.args.arguments.items ++ c.args.piece ∷ []) c.push.new.self.items (map numbered_token c.args.tokens.now) (map numbered_token c.in-Some-behind_mark.behind.now) k _ dooms c.in_ok-push.ensures.items gone c.in-None.ensures.value c.in-Some-behind_mark.ensures.value

pub returns-clause-value : goal.returns-clause-value
returns-clause-value c =
    let made : Some c.in-Some-2.whole ≡ writable (structure c.args.name.now (terms_of c.push.new.self.items)) = cc c.in_ok-structure-in-Some-behind_mark.ensures in
    λ k dooms. arguments_end c.args.name.now (c.args.arguments.items ++ c.args.piece ∷ []) c.push.new.self.items c.in-Some-2.whole (map numbered_token c.args.tokens.now) (map numbered_token c.in-Some-behind_mark.behind.now) k _ c.in_ok-push.ensures.items made c.in-None.ensures.value c.in-Some-behind_mark.ensures.value
