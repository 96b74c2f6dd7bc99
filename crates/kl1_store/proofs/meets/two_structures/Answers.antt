use Rattle.std.proofs.Common.{sym, ◌∙◌}
use Rattle.std.proofs.lemmas.Bool.{false≢true}
use Rattle.kl1_store.proofs.Meetings.{counts_clash, names_clash, structures_open}
use Rattle.kl1_store.proofs.meets.two_structures.Goals as goal

pub returns-then-first-second : goal.returns-then-first-second
returns-then-first-second g c =
    counts_clash g.N.NameValue.built c.args.cells.now.held c.args.left c.args.right c.head-first.result.name c.head-second.result.name c.head-first.ensures.formed
    (record { left = c.head-first.ensures.name; right = c.head-second.ensures.name })
    (λ e. c.if-first-second.true (c.head-first.ensures.count ∙ e ∙ sym c.head-second.ensures.count))

pub returns-then-same : goal.returns-then-same
returns-then-same g c =
    structures_open c.args.cells.now.held c.args.left c.args.right c.head-first.result.count c.head-first.result.name c.head-second.result.name c.head-first.ensures.formed
    (record { left = c.head-first.ensures.name; right = c.head-second.ensures.name }) c.requires.left_in c.requires.right_in
    c.head-first.ensures.count (c.if-first-second.false ∙ c.head-second.ensures.count) (c.same.ensures.0 c.if-same.true)

pub returns : goal.returns
returns g c =
    names_clash g.N.NameValue.built c.args.cells.now.held c.args.left c.args.right c.head-first.result.name c.head-second.result.name c.head-first.ensures.formed
    (record { left = c.head-first.ensures.name; right = c.head-second.ensures.name })
    (λ e. false≢true (sym c.if-same.false ∙ c.same.ensures.1 e))
