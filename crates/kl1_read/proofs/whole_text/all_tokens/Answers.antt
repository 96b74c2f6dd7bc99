use Rattle.std.proofs.Common.{add-one, map, arith, ◌∙◌}
use Rattle.std.proofs.lemmas.List.{map-append}
use Rattle.kl1_model.specs.Token.{finished, broken, line_end, blank, token}
use Rattle.kl1_read.specs.Views.{spelled_token, kept_token}
use Rattle.kl1_read.proofs.WholeSteps.{whole_is, finished_whole, token_whole}
use Rattle.kl1_read.proofs.whole_text.all_tokens.Goals as goal

pub returns-in-Finished : goal.returns-in-Finished
returns-in-Finished c =
    rw c.unwrap_or.ensures (finished_whole c.tokens.began (map kept_token c.tokens.tokens.items) c.tokens.line ∙ whole_is finished c.tokens.began (map kept_token c.tokens.tokens.items) c.tokens.line c.tokens.rest.now c.in-Finished.ensures.value ∙ c.tokens.invariant.same)

pub returns-in-Broken : goal.returns-in-Broken
returns-in-Broken c =
    rw c.unwrap_or-in-Broken.ensures (whole_is broken c.tokens.began (map kept_token c.tokens.tokens.items) c.tokens.line c.tokens.rest.now c.in-Broken.ensures.value ∙ c.tokens.invariant.same)

pub tokens-preserved-in-LineEnd : goal.tokens-preserved-in-LineEnd
tokens-preserved-in-LineEnd c =
    record {
      same = rw add-one (whole_is (line_end c.in-LineEnd.behind.now) c.tokens.began (map kept_token c.tokens.tokens.items) c.tokens.line c.tokens.rest.now c.in-LineEnd.ensures.value ∙ c.tokens.invariant.same);
      lines = omega (arith, c.in-LineEnd.ensures.less);
    }

pub tokens-preserved-in-Blank : goal.tokens-preserved-in-Blank
tokens-preserved-in-Blank c =
    record {
      same = whole_is (blank c.in-Blank.behind.now) c.tokens.began (map kept_token c.tokens.tokens.items) c.tokens.line c.tokens.rest.now c.in-Blank.ensures.value ∙ c.tokens.invariant.same;
      lines = omega (arith, c.in-Blank.ensures.less);
    }

pub tokens-preserved : goal.tokens-preserved
tokens-preserved c =
    record {
      same = rw (c.in_ok-push-in-Token.ensures.items, map-append, c.in_ok-kept-in-Token.ensures, c.unwrap_or-in-Token.ensures) (token_whole c.tokens.began (map kept_token c.tokens.tokens.items) c.tokens.line (spelled_token c.in-Token.token) c.in-Token.behind.now ∙ whole_is (token (spelled_token c.in-Token.token) c.in-Token.behind.now) c.tokens.began (map kept_token c.tokens.tokens.items) c.tokens.line c.tokens.rest.now c.in-Token.ensures.value ∙ c.tokens.invariant.same);
      lines = omega (arith, c.in-Token.ensures.less);
    }
