use Rattle.std.proofs.Common.{◌≡◌, List, ℕ, [], sym, subst, ap, ◌∙◌}
use Rattle.kl1_model.specs.Meaning.{variables_of}
use Rattle.kl1_model.specs.Telling.{new_among}
use Rattle.kl1_user_account.specs.Giving.{AreFromOne, AreFound, AreToldAmong}
use Rattle.kl1_user_account.proofs.ToldAmong.{told_from_one, among_from_one}
use Rattle.kl1_user_account.proofs.GivenGoals.{given_by_telling}
use Rattle.kl1_user_account.proofs.given.given_told.Goals as goal

pub numbered_anew-requires : goal.numbered_anew-requires
numbered_anew-requires c = c.new-numbers.ensures.items

pub told_among-requires-clause-inside : goal.told_among-requires-clause-inside
told_among-requires-clause-inside c = rw c.find_told.ensures.same c.requires.inside

pub told_among-requires-clause-found : goal.told_among-requires-clause-found
told_among-requires-clause-found c =
    let same : c.as_slice-2.result.now ≡ c.as_slice.result.now = c.as_slice-2.ensures.value ∙ sym c.as_slice.ensures.value in
    rw (c.find_told.ensures.same, c.as_slice-3.ensures.value, same) c.in_ok-found.ensures.found

pub told_among-requires-clause-least : goal.told_among-requires-clause-least
told_among-requires-clause-least c =
    subst AreFromOne (sym (c.as_slice-2.ensures.value ∙ c.in_ok-anew.ensures.seen))
    (among_from_one [] (variables_of c.args.goal.now) tt (told_from_one 0 (variables_of c.args.goal.now) c.requires.numbered))

pub returns-clause-given : goal.returns-clause-given
returns-clause-given c = λ rules has.
    given_by_telling rules c.args.store.now.held c.args.asked c.args.goal.now c.in_ok-anew.anew c.numbered_anew.new.seen.items _ has
    (rw (← c.find_told.ensures.same) c.mark-held.ensures.formed) c.requires.inside c.in_ok-anew.ensures.seen c.in_ok-anew.ensures.term c.in_ok-code.ensures c.in_ok-anew.ensures.numbered c.in_ok-anew.ensures.highest
    (rw (← c.find_told.ensures.same, ← c.as_slice-2.ensures.value) c.in_ok-all.ensures)
