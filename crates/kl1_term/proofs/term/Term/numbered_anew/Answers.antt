use Rattle.std.proofs.Common.{◌≡◌, [], None, map, ap, ◌∙◌}
use Rattle.kl1_model.specs.Telling.{new_among, place_among}
use Rattle.kl1_term.specs.Nodes.{code_of}
use Rattle.kl1_term.specs.Telling.{anew}
use Rattle.kl1_model.specs.Meaning.{is_numbered, highest}
use Rattle.kl1_term.proofs.Renumbering.{renumbered_is, variables_are}
use Rattle.kl1_term.proofs.Anew.{numbered_anew, highest_anew}
use Rattle.kl1_term.proofs.term.Term.numbered_anew.Goals as goal

pub of_nodes-requires : goal.of_nodes-requires
of_nodes-requires c = (anew c.anew_nodes.new.seen.items c.args.self.now, renumbered_is (place_among c.anew_nodes.new.seen.items) (map code_of c.nodes.result.now) (map code_of c.in_ok-nodes.nodes.items) c.args.self.now c.nodes.ensures c.in_ok-nodes.ensures.nodes)

pub returns-clause-term : goal.returns-clause-term
returns-clause-term c =
    c.of_nodes.ensures (anew c.anew_nodes.new.seen.items c.args.self.now)
    (renumbered_is (place_among c.anew_nodes.new.seen.items) (map code_of c.nodes.result.now) (map code_of c.in_ok-nodes.nodes.items) c.args.self.now c.nodes.ensures c.in_ok-nodes.ensures.nodes)

pub returns-clause-seen : goal.returns-clause-seen
returns-clause-seen c = c.in_ok-nodes.ensures.seen ∙ ap (λ vs. new_among None [] vs) (variables_are (map code_of c.nodes.result.now) c.args.self.now c.nodes.ensures)

pub returns-clause-numbered : goal.returns-clause-numbered
returns-clause-numbered c =
    let t : c.of_nodes.result ≡ anew c.anew_nodes.new.seen.items c.args.self.now = c.of_nodes.ensures (anew c.anew_nodes.new.seen.items c.args.self.now)
    (renumbered_is (place_among c.anew_nodes.new.seen.items) (map code_of c.nodes.result.now) (map code_of c.in_ok-nodes.nodes.items) c.args.self.now c.nodes.ensures c.in_ok-nodes.ensures.nodes) in
    ap is_numbered t ∙ numbered_anew c.anew_nodes.new.seen.items c.args.self.now (c.in_ok-nodes.ensures.seen ∙ ap (λ vs. new_among None [] vs) (variables_are (map code_of c.nodes.result.now) c.args.self.now c.nodes.ensures))

pub returns-clause-highest : goal.returns-clause-highest
returns-clause-highest c =
    let t : c.of_nodes.result ≡ anew c.anew_nodes.new.seen.items c.args.self.now = c.of_nodes.ensures (anew c.anew_nodes.new.seen.items c.args.self.now)
    (renumbered_is (place_among c.anew_nodes.new.seen.items) (map code_of c.nodes.result.now) (map code_of c.in_ok-nodes.nodes.items) c.args.self.now c.nodes.ensures c.in_ok-nodes.ensures.nodes) in
    ap highest t ∙ highest_anew c.anew_nodes.new.seen.items c.args.self.now (c.in_ok-nodes.ensures.seen ∙ ap (λ vs. new_among None [] vs) (variables_are (map code_of c.nodes.result.now) c.args.self.now c.nodes.ensures))
