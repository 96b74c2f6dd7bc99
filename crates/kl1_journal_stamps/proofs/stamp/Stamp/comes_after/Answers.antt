use Rattle.std.proofs.Common.{◌≤◌, length, List, ap, subst, arith}
use Rattle.std.proofs.lemmas.Bool.{leb-true}
use mathlib.Core.List.{IsPrefix}
use Rattle.kl1_journal_stamps.specs.declared.shown_journal.ShownJournal.{ShownJournal}
use Rattle.kl1_journal_stamps.specs.Histories.{last_of, Follows}
use Rattle.kl1_journal_stamps.specs.Stamps.{StampValue, IsAfter}
use Rattle.kl1_journal_stamps.proofs.Chains.{lasts_follow}
use Rattle.kl1_journal_stamps.proofs.stamp.Stamp.comes_after.Goals as goal

pub returns : goal.returns
returns c = λ yes.
    let both = c.learn.new.self.log in
    let xs = c.earlier.inside.seen.log in
    let ys = c.self.inside.seen.log in
    let this : IsPrefix ys both = subst (λ (l : List ShownJournal). IsPrefix l both) (ap (λ s. s.log) c.again-both.ensures) c.learn.ensures.2 in
    let le = leb-true c.earlier.inside.count c.self.inside.count yes in
    let some : 1 ≤ length xs = c.earlier.invariant.1 in
    let long : length xs ≤ length ys = (let one = c.earlier.invariant.0 in let two = c.self.invariant.0 in omega (arith, le, one, two)) in
    let follows : Follows (last_of xs) (last_of ys) = lasts_follow xs ys both c.learn.ensures.4.1.chain c.learn.ensures.3 this some long in
    subst (λ (s : StampValue). IsAfter s c.args.self.now) c.earlier.view_is (subst (λ (s : StampValue). IsAfter (record { history = c.earlier.inside.seen.book; generation = (last_of xs).generation; journal = (last_of xs).journal.journal }) s) c.self.view_is follows)
