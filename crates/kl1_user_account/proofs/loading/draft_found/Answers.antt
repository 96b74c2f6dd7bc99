use Rattle.kl1_user_account.proofs.Words.{◌∙◌, sym, ap, good, Numbered}
use Rattle.kl1_user_account.proofs.Loads.{load_good, same_parts, drafted_is}
use Rattle.kl1_user_account.proofs.loading.draft_found.Goals as goal

pub returns-in-Some-clause-loads : goal.returns-in-Some-clause-loads
returns-in-Some-clause-loads g c =
    let code = c.code-code.result.now in
    let read = c.requires.module ∙ ap good (sym c.code-code.ensures) in
    λ s at. load_good c.args.source.now code c.requires.few read s ∙ c.in-Some.ensures (g.C.CodeSource.place c.args.found) s at

pub returns-in_ok-new-in-None-clause-loads : goal.returns-in_ok-new-in-None-clause-loads
returns-in_ok-new-in-None-clause-loads g c =
    let code = c.code-code.result.now in
    let row = c.deref.result.now in
    let place = g.C.CodeSource.place c.args.found in
    let d : Numbered = record { content = code; row = row; place = place } in
    let read = c.requires.module ∙ ap good (sym c.code-code.ensures) in
    let same = same_parts c.in_ok-new-in-None.field-0 (g.C.CodeSource.meaning c.args.found) code c.in_ok-row.row.items row place c.in_ok-new-in-None.ensures c.code-code.ensures c.deref.ensures.value in
    drafted_is c.args.modules.now.loaded c.args.names.now.names c.args.most c.args.is_full c.args.source.now c.in_ok-new-in-None.field-0 d c.requires.few read same (c.in-None.ensures place)
