use Rattle.std.proofs.Common.{◌≡◌, ◌/◌, ◌%◌, ℤ, sym, ◌∙◌, ap, arith}
use Rattle.std.proofs.lemmas.Int.{ints}
use Rattle.kl1_store.specs.declared.cell.Cell.{Cell}
use Rattle.kl1_store.specs.declared.cell.Cell.TheVariants.{Variable, Integer}
use Rattle.std.proofs.lemmas.List.{get_or_default}
use Rattle.kl1_store.proofs.Packing.{unpacked_variable, unpacked_structure, unpacked_small, unpacked_wide}
use Rattle.kl1_store.proofs.word.unpack.Goals as goal

pub returns-then-kind-eq0 : goal.returns-then-kind-eq0
returns-then-kind-eq0 g c = sym (unpacked_variable c.args.wide.now.items c.args.word c.if-kind-eq0.true)

pub returns-then-kind-eq1 : goal.returns-then-kind-eq1
returns-then-kind-eq1 g c = sym (unpacked_structure c.args.wide.now.items c.args.word c.if-kind-eq1.true)

pub returns-then-kind-eq3 : goal.returns-then-kind-eq3
returns-then-kind-eq3 g c =
    let f : ℤ → Cell g.row.N.Denot = λ x. Integer x in
    ap f (omega (arith, ints)) ∙ sym (unpacked_small c.args.wide.now.items c.args.word c.if-kind-eq3.true)

pub returns : goal.returns
returns g c =
    let two : c.args.word % 4 ≡ 2 = omega arith in
    let V : Cell g.row.N.Denot = Variable 0 in
    c.index.ensures
    ∙ get_or_default c.args.wide.now.items (c.args.word / 4) c.index.result.now V (c.requires.wide two)
    ∙ sym (unpacked_wide c.args.wide.now.items c.args.word two)
