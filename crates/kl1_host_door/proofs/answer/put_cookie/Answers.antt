use Rattle.std.proofs.Common.{◌++◌, ap, ◌∙◌}
use Rattle.kl1_host_door.specs.Answers.{cookie_front, cookie_end}
use Rattle.kl1_host_door.proofs.Texts.{part}
use Rattle.kl1_host_door.proofs.answer.put_cookie.Goals as goal

pub returns-in_ok-extend_from_slice-in-Set-3 : goal.returns-in_ok-extend_from_slice-in-Set-3
returns-in_ok-extend_from_slice-in-Set-3 c =
    let out = c.args.out.now.items in
    let begun = c.extend_from_slice.new.self.items in
    let named = c.extend_from_slice-in-Set.new.self.items in
    let front = cookie_front c.args.secure in
    let first = c.in_ok-extend_from_slice-in-Set.ensures.items ∙ ap (λ t. out ++ t) c.cookie_front.ensures in
    let name = part out begun named front c.in-Set.id first (c.in_ok-extend_from_slice-in-Set-2.ensures.items ∙ ap (λ t. begun ++ t) c.as_slice.ensures) in
    rw c.in-Set.is (part out named c.extend_from_slice-in-Set-2.new.self.items (front ++ c.in-Set.id) (cookie_end c.args.secure) name (c.in_ok-extend_from_slice-in-Set-3.ensures.items ∙ ap (λ t. named ++ t) c.cookie_end.ensures))
