use Rattle.kl1_user_account.proofs.Words.{spared_draft}
use Rattle.kl1_user_account.proofs.loading.row_of.Goals as goal

pub returns : goal.returns
returns c =
    let are = spared_draft c.args.names.now.names c.names-texts.result.now c.spare_row.new.row.items c.names-texts.ensures.names c.requires.names c.requires.small c.in_ok-spare_row.ensures in
    rw c.names-texts.ensures.value at are
