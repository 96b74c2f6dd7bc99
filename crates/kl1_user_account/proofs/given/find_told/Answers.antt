use Rattle.std.proofs.Common.{◌≡◌, List, [], ◌++◌, map, replicate, length, Bool, false, Option, Some, None, sym, ap, ◌∙◌, rules}
use Rattle.std.specs.Prelude.{option_map}
use Rattle.kl1_stream.specs.Askings.{asked_of}
use Rattle.kl1_user_account.specs.Giving.{occurs_at}
use Rattle.kl1_user_account.proofs.ToldAmong.{none_occur}
use Rattle.kl1_user_account.proofs.given.find_told.Goals as goal

pub returns-in_default-clause-found : goal.returns-in_default-clause-found
returns-in_default-clause-found c = λ f.
    c.in_ok-found.ensures.items_if_clones_equal (search rules) ∙ (sym (none_occur c.args.numbers.now)
    ∙ ap (λ a. map (occurs_at (option_map (asked_of f c.args.store.now.held) a)) c.args.numbers.now) (sym c.in_default.is))

pub returns-clause-found : goal.returns-clause-found
returns-clause-found c = λ f.
    c.in_ok-note_occurring.ensures.found f
    ∙ (ap (λ (xs : List Bool). xs ++ map (occurs_at (Some (asked_of f c.args.store.now.held c.in-Some.asked))) c.args.numbers.now) c.new-found.ensures.items
    ∙ ap (λ a. map (occurs_at (option_map (asked_of f c.args.store.now.held) a)) c.args.numbers.now) (sym c.in-Some.is))
