use Rattle.std.proofs.Common.{ap, subst, List}
use mathlib.Core.List.{IsPrefix}
use Rattle.kl1_host_journals.specs.declared.edition.Edition.{Edition}
use Rattle.kl1_host_journals.proofs.Chains.{same_text}
use Rattle.kl1_host_journals.proofs.place.Place.shows_same.Goals as goal

pub returns : goal.returns
returns g c =
    let both = c.learn.new.self.log in
    let this : IsPrefix c.args.self.now.seen.log both = subst (λ (l : List Edition). IsPrefix l both) (ap (λ s. s.log) c.again-both.ensures) c.learn.ensures.2 in
    same_text c.args.self.now.seen.log c.args.other.now.seen.log both c.learn.ensures.4.1.chain this c.learn.ensures.3 c.args.self.now.some c.args.other.now.some c.requires.number
