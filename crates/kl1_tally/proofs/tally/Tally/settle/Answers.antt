use Rattle.std.proofs.Common.{◌≡◌, length, ap, subst, arith}
use Rattle.kl1_tally.specs.Totals.{Settled}
use Rattle.kl1_tally.proofs.Adding.{settled}
use Rattle.kl1_tally.proofs.tally.Tally.settle.Goals as goal

pub returns : goal.returns
returns c =
    let key = c.self.inside.table.shared.key in
    let books = c.args.books.items in
    let shares = c.args.shares.items in
    let accounts : key.accounts ≡ c.args.self.accounts = ap (λ p. p.accounts) c.self.view_is in
    let counts : key.shares ≡ c.args.self.shares = ap (λ p. p.shares) c.self.view_is in
    let last = c.close_with.ensures.values.2 in
    let all_books : length books ≡ key.accounts = (let o = c.args.books.ok in let r = c.requires.all_books in omega (arith, o, r)) in
    let all_shares : length shares ≡ key.shares = (let o = c.args.shares.ok in let r = c.requires.all_shares in omega (arith, o, r)) in
    subst (λ n. Settled n books shares c.take_books-told.result) accounts
    (settled key.accounts key.shares last.0 c.take_books-told.new.joint.id books shares c.take_shares.new.joint.me.0 c.take_books-told.new.joint.me.0 c.take_books-told.result c.self.invariant.2
    last.1.0 last.1.1 c.take_shares.ensures.took c.take_books-told.ensures.took all_books all_shares)
