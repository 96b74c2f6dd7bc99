use Rattle.std.proofs.Common.{ℕ, List, ◌++◌, length, codes, decimal, ap, ◌∙◌}
use Rattle.kl1_host_door.specs.Statuses.{text_of}
use Rattle.kl1_host_door.specs.Answers.{line_end, kind_of, guards, cookie_text}
use Rattle.kl1_host_door.proofs.Texts.{part}
use Rattle.kl1_host_door.proofs.answer.put_head.Goals as goal

pub returns : goal.returns
returns c =
    let out = c.args.out.now.items in
    let a = c.args.answer.now in
    let m1 = c.extend_from_slice.new.self.items in
    let m2 = c.extend_from_slice-2.new.self.items in
    let m3 = c.extend_from_slice-3.new.self.items in
    let m4 = c.extend_from_slice-4.new.self.items in
    let m5 = c.extend_from_slice-5.new.self.items in
    let m6 = c.put_decimal.new.out.items in
    let m7 = c.extend_from_slice-6.new.self.items in
    let t1 : List ℕ = codes "HTTP/1.1 " in
    let t2 : List ℕ = t1 ++ text_of a.status in
    let t3 : List ℕ = t2 ++ (line_end ++ codes "content-type: ") in
    let t4 : List ℕ = t3 ++ kind_of a.content in
    let t5 : List ℕ = t4 ++ (line_end ++ codes "content-length: ") in
    let t6 : List ℕ = t5 ++ decimal (length a.body.items) in
    let p2 = part out m1 m2 t1 (text_of a.status) c.in_ok-extend_from_slice.ensures.items (c.in_ok-extend_from_slice-2.ensures.items ∙ ap (λ t. m1 ++ t) c.text_of.ensures) in
    let p3 = part out m2 m3 t2 (line_end ++ codes "content-type: ") p2 c.in_ok-extend_from_slice-3.ensures.items in
    let p4 = part out m3 m4 t3 (kind_of a.content) p3 (c.in_ok-extend_from_slice-4.ensures.items ∙ ap (λ t. m3 ++ t) c.kind_of.ensures) in
    let p5 = part out m4 m5 t4 (line_end ++ codes "content-length: ") p4 c.in_ok-extend_from_slice-5.ensures.items in
    let p6 = part out m5 m6 t5 (decimal (length a.body.items)) p5 (c.in_ok-put_decimal.ensures.ok ∙ ap (λ n. m5 ++ decimal n) (ap length c.as_slice.ensures.value)) in
    let p7 = part out m6 m7 t6 guards p6 c.in_ok-extend_from_slice-6.ensures.items in
    part out m7 c.put_cookie.new.out.items (t6 ++ guards) (cookie_text c.args.secure a.cookie) p7 c.in_ok-put_cookie.ensures
