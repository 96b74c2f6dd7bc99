use Rattle.std.proofs.Common.{◌≡◌, map, codes, Some, None, sym, ◌∙◌}
use Rattle.kl1_model.specs.Meaning.{pair}
use Rattle.kl1_read.specs.Pieces.{writable}
use Rattle.kl1_read.specs.Views.{numbered_token}
use Rattle.kl1_read.proofs.Steps.{ok_along}
use Rattle.kl1_read.proofs.PartSteps.{colon_ends, colon_doomed}
use Rattle.kl1_read.proofs.joined.join.Goals as goal

pub returns-in-None-2-clause-value : goal.returns-in-None-2-clause-value
returns-in-None-2-clause-value c =
    let gone : None ≡ writable (pair (codes ":") c.in-Some.module c.args.piece) = cc (c.in-None-2.is, c.in_ok-pair-in-Some.ensures, c.of.ensures) in
    λ k dooms. colon_doomed c.args.left.now c.in-Some.module c.args.piece (map numbered_token c.args.tokens.now) (sym c.in-Some.ensures.value) k dooms gone

pub returns-in-Some-2-clause-value : goal.returns-in-Some-2-clause-value
returns-in-Some-2-clause-value c =
    let made : Some c.in-Some-2.part ≡ writable (pair (codes ":") c.in-Some.module c.args.piece) = cc (c.in-Some-2.is, c.in_ok-pair-in-Some.ensures, c.of.ensures) in
    ok_along _ _ c.join_part.result c.join_part.ensures.value (λ j h k dooms. h k dooms ∙ colon_ends c.args.left.now c.in-Some.module c.args.piece (map numbered_token c.args.tokens.now) (sym c.in-Some.ensures.value) k dooms c.in-Some-2.part made)
