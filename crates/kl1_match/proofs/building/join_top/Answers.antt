use Rattle.std.proofs.Common.{[], ◌∷◌, ap, arith, refl, length, length-append, reverse, rules}
use Rattle.std.specs.Prelude.{IsOk}
use Rattle.kl1_store.specs.declared.cell.Cell.TheVariants.{Structure}
use Rattle.kl1_store.specs.Tops.{firsts}
use Rattle.kl1_match.proofs.Rows.{joins_are}
use Rattle.kl1_match.proofs.building.join_top.Goals as goal

pub returns-clause-joins : goal.returns-clause-joins
returns-clause-joins g c =
    joins_are c.args.store.now.held c.build_top.new.self.held c.args.missing c.args.name c.args.count c.in_ok-structure.structure
    c.args.stack.now.items c.build_top.new.stack.items c.push_reserved.new.self.items (firsts c.args.missing c.args.count (reverse c.args.stack.now.items))
    (search rules) c.requires.stack c.requires.missing refl c.in_ok-structure.ensures.left (search rules) (search rules) c.push_reserved.ensures.items

pub returns-in_err-structure-clause-room : goal.returns-in_err-structure-clause-room
returns-in_err-structure-clause-room g c h =
    let done : IsOk c.build_top.result = c.build_top.ensures.room (omega (arith, h.structures_fit)) (omega (arith, h.arguments_fit)) in
    search rules

pub returns-clause-uses : goal.returns-clause-uses
returns-clause-uses g c = record {
  spends = c.build_top.ensures.spends;
  height = omega (arith, ap length c.push_reserved.ensures.items, length-append c.build_top.new.stack.items (Structure c.in_ok-structure.structure ∷ []), c.build_top.ensures.height);
  capacity = search rules;
}
