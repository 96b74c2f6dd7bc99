use Rattle.std.proofs.Common.{◌<◌, [], ap, ◌∙◌, arith}
use Rattle.kl1_tally.specs.Seats.{new_book}
use Rattle.kl1_tally.specs.Views.{own_part, other_part}
use Rattle.kl1_tally.proofs.Making.{left_own, left_other, books_more}
use Rattle.kl1_tally.proofs.tally.Tally.books.Goals as goal

pub book_at_zero-requires-clause-own : goal.book_at_zero-requires-clause-own
book_at_zero-requires-clause-own c =
    let below : c.loop-account.account < c.args.self.now.accounts = (let t = c.loop-account-test.true in let a = c.requires.all in omega arith) in
    ap (λ s. s.me) c.replace-own.ensures.value ∙ c.part-others.ensures.own ∙ ap (λ me. (own_part me.0, me.1)) c.loop-account.invariant.others
    ∙ ap (λ v. (v, [])) (left_own c.args.self.now.accounts c.args.self.now.shares c.loop-account.account below)

pub loop-account-preserved : goal.loop-account-preserved
loop-account-preserved c =
    let below : c.loop-account.account < c.args.self.now.accounts = (let t = c.loop-account-test.true in let a = c.requires.all in omega arith) in
    record {
      of = ap (λ s. s.table_id) c.replace-own.ensures.after ∙ c.part-others.ensures.table;
      others = ap (λ s. s.me) c.replace-own.ensures.after ∙ c.part-others.ensures.other ∙ ap (λ me. (other_part me.0, [])) c.loop-account.invariant.others
          ∙ ap (λ v. (v, [])) (left_other c.args.self.now.accounts c.args.self.now.shares c.loop-account.account below);
      room = (let r = c.push_reserved.ensures.capacity in let o = c.loop-account.invariant.room in omega (arith, r, o));
      count = (let m = c.push_reserved.ensures.len in let n = c.loop-account.invariant.count in omega (arith, m, n));
      made = c.push_reserved.ensures.items ∙ books_more c.args.self.now.id c.loop-account.account c.loop-account.books.items c.book_at_zero.result c.loop-account.invariant.made
          (c.book_at_zero.ensures ∙ ap (λ id. new_book id c.loop-account.account) (ap (λ s. s.table_id) c.replace-own.ensures.value ∙ c.part-others.ensures.of));
    }
