use Rattle.std.proofs.Common.{◌∙◌, ap, sym, map}
use Rattle.kl1_read.specs.Sources.{clause_of_parts}
use Rattle.kl1_read.specs.Followings.{section_for}
use Rattle.kl1_read.proofs.Follows.{put_few}
use Rattle.kl1_read.proofs.modules.put_clause.Goals as goal

pub returns-in_ok-push-in-Some-clause-few : goal.returns-in_ok-push-in-Some-clause-few
returns-in_ok-push-in-Some-clause-few c =
    put_few c.args.clauses.now.items c.push.new.self.items c.args.behind c.read_clause.new.parts c.in-Some.section
    (sym c.in-Some.is ∙ c.section_for.ensures ∙ ap (λ ps. section_for (map clause_of_parts ps) c.args.behind (clause_of_parts c.read_clause.new.parts)) c.as_slice.ensures.value)
    c.in_ok-push-in-Some.ensures.items c.requires.few
