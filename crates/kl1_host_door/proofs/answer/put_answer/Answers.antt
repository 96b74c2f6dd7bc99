use Rattle.std.proofs.Common.{◌++◌, ap, ◌∙◌}
use Rattle.kl1_host_door.specs.Answers.{connection_of, head_text}
use Rattle.kl1_host_door.proofs.Texts.{part}
use Rattle.kl1_host_door.proofs.answer.put_answer.Goals as goal

pub returns : goal.returns
returns c =
    let out = c.args.out.now.items in
    let head = c.put_head.new.out.items in
    let told = c.extend_from_slice.new.self.items in
    let text = head_text c.args.answer.now c.args.secure in
    let connection = connection_of c.args.goes_on in
    part out told c.extend_from_slice-2.new.self.items (text ++ connection) c.args.answer.now.body.items
    (part out head told text connection c.in_ok-put_head.ensures (c.in_ok-extend_from_slice.ensures.items ∙ ap (λ t. head ++ t) c.connection_of.ensures))
    (c.in_ok-extend_from_slice-2.ensures.items ∙ ap (λ t. told ++ t) c.as_slice.ensures.value)
