use Rattle.std.proofs.Common.{◌≡◌, false, map, ap, ◌∙◌, rules}
use Rattle.serde_json.specs.Data.{array}
use Rattle.serde_json.specs.View.{items_of}
use Rattle.serde_json.proofs.Views.{view-Array}
use Rattle.kl1_lines.specs.Places.{has_byte, IsSplit}
use Rattle.kl1_model_server.specs.JournalText.{lines_of}
use Rattle.kl1_host_web.specs.Telling.{text_data}
use Rattle.kl1_host_web.proofs.Answering.{one_line, all_lines}
use Rattle.kl1_host_web.proofs.json.lines_value.Goals as goal

pub lines-preserved : goal.lines-preserved
lines-preserved c =
    let split : IsSplit c.lines.rest.now c.in-Some.line.now c.in-Some.others.now = first_of (assumption (c.in-Some.ensures.some), search (rules, c.in-Some.ensures.some), search rules) in
    one_line c.lines.lines.items c.push.new.list.items c.in_ok-text_value.field-0 c.lines.rest.now c.in-Some.line.now c.in-Some.others.now (map text_data (lines_of c.args.text.now).whole) c.in_ok-push.ensures.ok c.in_ok-text_value.ensures split c.lines.invariant

pub returns : goal.returns
returns c =
    let none : has_byte 10 c.lines.rest.now ≡ false = first_of (search rules, search (rules, c.in_default.ensures.none)) in
    view-Array c.lines.lines ∙ ap (λ l. array (items_of l)) (all_lines c.lines.lines.items c.lines.rest.now c.args.text.now none c.lines.invariant)
