use Rattle.std.proofs.Common.{◌≡◌, true, false, refl, sym, codes, bytes_eq, None, Some, ◌&&◌, nat_le, length}
use Rattle.kl1_model.specs.Line.{word_in, behind_word_in, is_blank_line, words_of}
use Rattle.kl1_model_server.specs.Script.{are_distinct}
use Rattle.kl1_script.specs.Accounts.{named}
use Rattle.kl1_script.proofs.AccountNames.{no_accounts, accounts_none, accounts_some}
use Rattle.kl1_script.proofs.accounts.accounts_in.Goals as goal

pub returns-then-not-is_same : goal.returns-then-not-is_same
returns-then-not-is_same c =
    let h : bytes_eq (word_in c.args.line.now) (codes "accounts") ≡ false = cc in
    no_accounts c.args.line.now (is_blank_line c.args.line.now) refl h

pub returns-in-None : goal.returns-in-None
returns-in-None c =
    let h : bytes_eq (word_in c.args.line.now) (codes "accounts") ≡ true = cc in
    let e : named (words_of (behind_word_in c.args.line.now)) ≡ None = rw (sym c.split_word.ensures.behind) (sym (rw c.in-None.is at c.in_ok-names_in.ensures)) in
    accounts_none c.args.line.now h e

pub returns-then-are_accounts : goal.returns-then-are_accounts
returns-then-are_accounts c =
    let h : bytes_eq (word_in c.args.line.now) (codes "accounts") ≡ true = cc in
    let e : named (words_of (behind_word_in c.args.line.now)) ≡ Some c.in-Some.names.items = rw (sym c.split_word.ensures.behind) (sym (rw c.in-Some.is at c.in_ok-names_in.ensures)) in
    let k : (nat_le 1 (length c.in-Some.names.items) && are_distinct c.in-Some.names.items) ≡ true = cc in
    accounts_some c.args.line.now c.in-Some.names.items true h e k

pub returns-else-are_accounts : goal.returns-else-are_accounts
returns-else-are_accounts c =
    let h : bytes_eq (word_in c.args.line.now) (codes "accounts") ≡ true = cc in
    let e : named (words_of (behind_word_in c.args.line.now)) ≡ Some c.in-Some.names.items = rw (sym c.split_word.ensures.behind) (sym (rw c.in-Some.is at c.in_ok-names_in.ensures)) in
    let k : (nat_le 1 (length c.in-Some.names.items) && are_distinct c.in-Some.names.items) ≡ false = cc in
    accounts_some c.args.line.now c.in-Some.names.items false h e k
