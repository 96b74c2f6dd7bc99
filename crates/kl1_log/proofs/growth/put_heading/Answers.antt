use Rattle.std.proofs.Common.{List, ℕ, ◌++◌, ap, ◌∙◌}
use Rattle.std.proofs.lemmas.Result.{on_ok_weaker}
use Rattle.kl1_log.proofs.LinesPut.{heading_put}
use Rattle.kl1_log.proofs.growth.put_heading.Goals as goal

pub returns : goal.returns
returns c =
    let front = c.extend_from_slice.new.self.items in
    on_ok_weaker c.put_line.result
    (heading_put c.args.rules c.args.names c.args.out.now.items front c.extend_from_slice-2.new.self.items c.extend_from_slice-3.new.self.items c.put_line.new.out.items c.as_bytes.result.now c.in_ok-extend_from_slice.ensures.items (c.in_ok-extend_from_slice-2.ensures.items ∙ ap (λ (x : List ℕ). front ++ x) c.version.ensures) c.in_ok-extend_from_slice-3.ensures.items (c.as_bytes.ensures.value ∙ c.format.ensures.text))
    c.put_line.ensures
