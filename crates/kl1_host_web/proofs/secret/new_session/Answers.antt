use Rattle.std.proofs.Common.{ap, ◌∙◌}
use Rattle.base64.specs.GeneralPurpose.{encode_of}
use Rattle.base64.specs.Engines.{url_safe_no_pad}
use Rattle.kl1_host_web.proofs.secret.new_session.Goals as goal

pub returns-clause-drawn : goal.returns-clause-drawn
returns-clause-drawn g c = record {
  bytes = c.fill.new.bytes;
  given = c.fill.ensures c.if-not-fill.false;
  id = c.in_ok-id.ensures ∙ ap (encode_of url_safe_no_pad) c.split_at.ensures.front;
  token = c.in_ok-token.ensures ∙ ap (encode_of url_safe_no_pad) c.split_at.ensures.back;
  told = c.seconds-last.ensures;
}
