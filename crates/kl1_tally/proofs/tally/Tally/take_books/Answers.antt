use Rattle.std.proofs.Common.{◌≡◌, [], ◌∷◌, ◌++◌, replicate, sym, ap, ◌∙◌, subst}
use Rattle.std.specs.Prelude.{All}
use Rattle.kl1_tally.specs.declared.amounts.TheConstants.{MOST_ACCOUNTS}
use Rattle.kl1_tally.specs.Seats.{Book}
use Rattle.kl1_tally.specs.Views.{joint_view}
use Rattle.kl1_tally.specs.Totals.{TookBooks}
use Rattle.kl1_tally.specs.Keeping.{view_in}
use Rattle.kl1_tally.proofs.Adding.{took_book, took_no_book, all_front}
use Rattle.kl1_tally.proofs.tally.Tally.take_books.Goals as goal

pub loop-book-init : goal.loop-book-init
loop-book-init c =
    let v = c.args.joint.now.me.0 in
    let all = c.args.books.items in
    record {
      of = c.requires.of;
      free = c.requires.free;
      books_of = c.requires.books_of;
      took = subst (λ es. TookBooks all all v v es c.zero-told.result.steps) (sym c.zero-told.ensures.events)
          (subst (λ ss. TookBooks all all v v (replicate MOST_ACCOUNTS 0) ss) (sym c.zero-told.ensures.steps) (took_no_book all v c.requires.none.0 c.requires.none.1));
    }

pub loop-book-preserved : goal.loop-book-preserved
loop-book-preserved c =
    let book : Book = record { tally = c.book.inside.badge.table_id; account = c.book.inside.account; events = c.book.inside.events; steps = c.book.inside.steps } in
    let left = c.pop.new.self.items in
    let v = c.loop-book.joint.me.0 in
    let joint = ap (λ m. m.0) c.join.ensures.both ∙ ap (joint_view v) (sym (ap view_in c.into_seat.ensures.2)) in
    record {
      of = c.join.ensures.of;
      free = ap (λ m. m.1) c.join.ensures.both ∙ c.loop-book.invariant.free;
      books_of = all_front (λ b. b.tally ≡ c.args.self.now.id) left (c.in-Some.book ∷ []) (subst (All (λ b. b.tally ≡ c.args.self.now.id)) c.in-Some.ensures.items c.loop-book.invariant.books_of);
      took = took_book c.args.books.items c.loop-book.books.items left book c.args.joint.now.me.0 v c.join.new.seat.me.0 c.book.inside.badge.views c.loop-book.told.events c.loop-book.told.steps
          c.loop-book.invariant.took (c.in-Some.ensures.items ∙ ap (λ b. left ++ b ∷ []) (sym c.book.view_is)) c.book.invariant.1 c.book.invariant.0 joint;
    }
