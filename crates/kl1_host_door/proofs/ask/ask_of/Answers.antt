use Rattle.std.proofs.Common.{length, ap, sym, ◌∙◌}
use Rattle.kl1_host_door.specs.Asks.{shoens_from, page_by}
use Rattle.kl1_host_door.proofs.Texts.{rest_of, shoens_page}
use Rattle.kl1_host_door.proofs.ask.ask_of.Goals as goal

pub returns-then-starts_with : goal.returns-then-starts_with
returns-then-starts_with c =
    c.page_by.ensures ∙ ap (page_by c.args.method) (rest_of (length shoens_from) c.args.target.now)
    ∙ shoens_page c.args.method c.args.target.now (sym c.starts_with.ensures.value ∙ c.if-starts_with.true)
