use Rattle.kl1_user_account.proofs.Words.{◌∙◌, sym, Numbered}
use Rattle.kl1_user_account.proofs.Loads.{load_good, same_parts, drafted_is}
use Rattle.kl1_user_account.proofs.loading.draft_new.Goals as goal

pub returns-in-Some-clause-loads : goal.returns-in-Some-clause-loads
returns-in-Some-clause-loads g c =
    λ s at. load_good c.args.source.now c.in-Ok.code c.requires.few c.in-Ok.ensures.module s ∙ c.in-Some.ensures (0, 0) s at

pub returns-in_ok-new-in-None-clause-loads : goal.returns-in_ok-new-in-None-clause-loads
returns-in_ok-new-in-None-clause-loads g c =
    let code = c.in-Ok.code in
    let row = c.deref.result.now in
    let pushed = c.in_ok-pushed-in-None.pushed in
    let place = g.C.CodeSource.place pushed in
    let d : Numbered = record { content = code; row = row; place = place } in
    let same = same_parts c.in_ok-new-in-None.field-0 (g.C.CodeSource.meaning pushed) code c.in_ok-row.row.items row place c.in_ok-new-in-None.ensures (sym c.in_ok-pushed-in-None.ensures.is) c.deref.ensures.value in
    drafted_is c.args.modules.now.loaded c.args.names.now.names c.args.most c.args.is_full c.args.source.now c.in_ok-new-in-None.field-0 d c.requires.few c.in-Ok.ensures.module same (c.in-None.ensures place)
