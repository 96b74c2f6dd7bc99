use Rattle.std.proofs.Common.{ap₂, ◌∙◌}
use Rattle.httparse.specs.Spans.{IsHeaderWithin}
use Rattle.kl1_host_door.proofs.Copies.{copied_more, all_rest}
use Rattle.kl1_host_door.proofs.head.fields_in.Goals as goal

pub loop-rest-preserved : goal.loop-rest-preserved
loop-rest-preserved c = record {
  fields = copied_more c.args.bytes.now c.loop-rest.fields.items c.push.new.self.items _ _ c.loop-rest.rest.now c.args.spans.now c.in-len1-up.len_at_least c.in_ok-push.ensures.items (ap₂ (λ x y. (x, y)) (c.in_ok-from_slice.ensures.items ∙ c.of.ensures) (c.in_ok-from_slice-2.ensures.items ∙ c.of-in-len1-up.ensures)) c.loop-rest.invariant.fields;
  within = all_rest (IsHeaderWithin c.args.len) c.loop-rest.rest.now c.in-len1-up.len_at_least c.loop-rest.invariant.within;
}
