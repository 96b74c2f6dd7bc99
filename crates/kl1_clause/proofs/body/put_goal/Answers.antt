use Rattle.std.proofs.Common.{ℕ, List, subst, ap, ◌≡◌, ◌∙◌, map}
use Rattle.std.specs.Prelude.{Option}
use Rattle.std.proofs.lemmas.Result.{on_ok_weaker}
use Rattle.kl1_model.specs.code.TermCode.{NodeCode, nodes_of}
use Rattle.kl1_term.specs.Nodes.{code_of}
use Rattle.kl1_clause.specs.BareGoals.{module_of, bare, module_in, bare_nodes}
use Rattle.kl1_clause.specs.Bodies.{PutsModule}
use Rattle.kl1_clause.specs.Putting.{Puts}
use Rattle.kl1_clause.proofs.BareGoals.{module_found, bare_found}
use Rattle.kl1_clause.proofs.Bodies.{row_named, goal_put}
use Rattle.kl1_clause.proofs.body.put_goal.Goals as goal

pub put_nodes-requires : goal.put_nodes-requires
put_nodes-requires c = row_named c.args.names.now c.placed_module.new.names c.args.row.now.items c.module_in.result c.in_ok-name.name c.requires.row c.in_ok-name.ensures

pub returns : goal.returns
returns c =
    let t = c.args.goal.now in
    let module_is : c.module_in.result ≡ module_of t = c.module_in.ensures ∙ ap module_in c.nodes-nodes.ensures ∙ module_found t in
    let bare_is : map code_of c.bare_nodes.result.now ≡ nodes_of (bare t) = c.bare_nodes.ensures ∙ ap bare_nodes c.nodes-nodes.ensures ∙ bare_found t in
    let named = subst (λ (m : Option (List ℕ)). PutsModule c.args.names.now c.placed_module.new.names m c.in_ok-name.name) module_is c.in_ok-name.ensures in
    on_ok_weaker c.put_nodes.result (λ p.
    goal_put c.args.names.now c.placed_module.new.names c.put_nodes.new.names c.args.row.now.items c.put_nodes.new.row.items c.args.modules.now.items c.push.new.self.items c.in_ok-name.name t
    c.requires.modules c.requires.row c.in_ok-push.ensures.items named
    (subst (λ (cs : List NodeCode). Puts c.placed_module.new.names c.put_nodes.new.names c.args.row.now.items c.put_nodes.new.row.items cs) bare_is p)) c.put_nodes.ensures
