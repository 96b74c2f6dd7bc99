use Rattle.std.proofs.Common.{◌≡◌, [], ◌∷◌, sym, subst}
use Rattle.std.specs.Prelude.{All}
use Rattle.kl1_tally.proofs.Making.{new_books_of, new_shares_of}
use Rattle.kl1_tally.proofs.Steps.{kept_first}
use Rattle.kl1_tally.proofs.tally.Tally.new.Goals as goal

pub of_words-requires : goal.of_words-requires
of_words-requires c = kept_first c.args.accounts c.args.shares (0 ∷ [])

pub returns-clause-of : goal.returns-clause-of
returns-clause-of c =
    let id = c.in_ok-table.table.shared.table_id in
    (subst (All (λ b. b.tally ≡ id)) (sym c.in_ok-books.ensures.books) (new_books_of id 0 c.args.accounts), subst (All (λ s. s.tally ≡ id)) (sym c.in_ok-shares.ensures.shares) (new_shares_of id c.args.shares))
