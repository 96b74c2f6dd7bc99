use Rattle.kl1_user_account.proofs.Words.{ℕ, List, ap, ◌∙◌, fresh_with, state_of}
use Rattle.kl1_user_account.proofs.GivenNames.{put_to_none}
use Rattle.kl1_user_account.proofs.account.Account.with_names.Goals as goal

pub publish-requires-clause-few : goal.publish-requires-clause-few
publish-requires-clause-few g c = rw (put_to_none c.reserve.new.self.names c.args.texts.now (c.reserve.ensures.names ∙ c.new-known.ensures) c.requires.list) c.requires.few

pub returns-clause-fresh : goal.returns-clause-fresh
returns-clause-fresh g c = λ f.
    ap (state_of f) c.blank.ensures
    ∙ ap (λ (ts : List (List ℕ)). fresh_with c.args.rules c.args.name ts c.args.sessions) (c.publish.ensures.texts ∙ put_to_none c.reserve.new.self.names c.args.texts.now (c.reserve.ensures.names ∙ c.new-known.ensures) c.requires.list)
