-- What is written for the entry of a line that is done, and for those after it.
use Rattle.std.proofs.Common.{◌≡◌, ℕ, suc, ◌+◌, ◌<◌, true, false, List, [], ◌∷◌, ◌++◌, length, Option, Some, None, refl, ap, sym, ◌∙◌, subst, append_assoc, arith}
use Rattle.std.proofs.lemmas.List.{append-nil}
use Rattle.std.specs.List.{concat}
use Rattle.kl1_model.specs.State.{State}
use Rattle.kl1_model.specs.Event.{Transition}
use Rattle.kl1_model_server.specs.Command.{reply_lines, written_lines}
use Rattle.kl1_model_server.specs.JournalText.{Lines}
use Rattle.kl1_model_server.specs.Replay.{written_entries, written_fault, written_rest}
use Rattle.kl1_journal_entries.specs.Reading.{with_line}
use Rattle.kl1_user.specs.Accounts.{Account, Reading, Fits, state_of}
use Rattle.kl1_lines.specs.Replies.{PutsFirst, Written, all_of}
use Rattle.kl1_script.specs.Replays.{accepted_in, end_then, entry_end, entry_replies, reply_then, written_on}
use Rattle.kl1_script.specs.Steps.{told_of, Went}
use Rattle.kl1_script.proofs.Accepted.{one_accepted, one_fault}

all_by : (k n : ℕ) (s : State) (line : List ℕ) (lines : List (List ℕ)) (rest : List ℕ) (o : Option Transition) → accepted_in s line ≡ o → ((after : State) → concat (entry_replies after lines) ++ entry_end (suc k) (suc n) after lines rest ≡ written_entries (suc k) (suc n) after lines rest) →
    concat (reply_then (λ after. entry_replies after lines) o) ++ end_then k (λ after. entry_end (suc k) (suc n) after lines rest) o ≡ written_entries k n s (line ∷ lines) rest
all_by k n s line lines rest None h others = sym (one_fault k n s line lines rest h)
all_by k n s line lines rest (Some x) h others =
    append_assoc (written_lines (reply_lines x.reply)) (concat (entry_replies x.state lines)) (entry_end (suc k) (suc n) x.state lines rest)
    ∙ ap (λ y. written_lines (reply_lines x.reply) ++ y) (others x.state) ∙ sym (one_accepted k n s line lines rest x h)

-- all replies, and what ends the replay, are what is written
entries_all : (k n : ℕ) (s : State) (lines : List (List ℕ)) (rest : List ℕ) → concat (entry_replies s lines) ++ entry_end k n s lines rest ≡ written_entries k n s lines rest
entries_all k n s [] rest = refl
entries_all k n s (line ∷ lines) rest = all_by k n s line lines rest (accepted_in s line) refl (λ after. entries_all (suc k) (suc n) after lines rest)

-- so for the lines of a text
pub on_all : (k n : ℕ) (s : State) (ls : Lines) → all_of (written_on k n s ls) ≡ written_entries k n s ls.whole ls.rest
on_all k n s ls = entries_all k n s ls.whole ls.rest

-- what is written for a line, if this became of its entry, and for the lines after it
abbrev written_by : ℕ → ℕ → List (List ℕ) → List ℕ → Option Transition → Written
written_by k n lines rest o = record { each = reply_then (λ after. entry_replies after lines) o; last = end_then k (λ after. entry_end (suc k) (suc n) after lines rest) o }

on_line : (k n : ℕ) (s : State) (line : List ℕ) (ls rest : Lines) (o : Option Transition) (w : Written) → ls ≡ with_line line rest → accepted_in s line ≡ o → w ≡ written_on k n s ls → w ≡ written_by k n rest.whole rest.rest o
on_line k n s line ls rest o w is h same = same ∙ ap (written_on k n s) is ∙ ap (written_by k n rest.whole rest.rest) h

-- the entry of a line is accepted
accepted_on : (k n j m : ℕ) (s next : State) (line : List ℕ) (ls rest : Lines) (o : Option Transition) (w : Written) → j ≡ suc k → m ≡ suc n → ls ≡ with_line line rest → accepted_in s line ≡ o → Went true o next → w ≡ written_on k n s ls → w ≡ record { each = told_of o ∷ entry_replies next rest.whole; last = entry_end j m next rest.whole rest.rest }
accepted_on k n j m s next line ls rest None w e d is h went same = absurd went
accepted_on k n j m s next line ls rest (Some x) w e d is h went same =
    on_line k n s line ls rest (Some x) w is h same ∙ rw (e, d, went) refl

tail_same : (x y : List ℕ) (xs ys : List (List ℕ)) → x ∷ xs ≡ y ∷ ys → xs ≡ ys
tail_same x y xs ys e = cc

-- an entry more is done
pub entry_put : (k n j m : ℕ) (old new : Account) (line : List ℕ) (ls rest : Lines) (out put : List ℕ) (f : Reading) → j ≡ suc k → m ≡ suc n → ls ≡ with_line line rest → Fits new.names f → ((f : Reading) → Fits new.names f → Fits old.names f) → ((f : Reading) → Fits new.names f → Went true (accepted_in (state_of f old) line) (state_of f new)) → ((f : Reading) → Fits new.names f → put ≡ out ++ told_of (accepted_in (state_of f old) line)) →
    (w : Written) → ((f : Reading) → Fits old.names f → w ≡ written_on k n (state_of f old) ls) → PutsFirst (λ v. (f : Reading) → Fits new.names f → v ≡ written_on j m (state_of f new) rest) w out put
entry_put k n j m old new line ls rest out put f e d is fits before went told w writes =
    let on = λ (g : Reading) (h : Fits new.names g). accepted_on k n j m (state_of g old) (state_of g new) line ls rest (accepted_in (state_of g old) line) w e d is refl (went g h) (writes g (before g h)) in
    record {
      reply = told_of (accepted_in (state_of f old) line);
      others = entry_replies (state_of f new) rest.whole;
      each = ap (λ (v : Written). v.each) (on f fits);
      put = told f fits;
      rest = λ g h.
          let others : entry_replies (state_of f new) rest.whole ≡ entry_replies (state_of g new) rest.whole = tail_same (told_of (accepted_in (state_of f old) line)) (told_of (accepted_in (state_of g old) line)) (entry_replies (state_of f new) rest.whole) (entry_replies (state_of g new) rest.whole) (sym (ap (λ (v : Written). v.each) (on f fits)) ∙ ap (λ (v : Written). v.each) (on g h)) in
          rw (others, ap (λ (v : Written). v.last) (on g h)) refl;
    }

-- a line is no entry's, or its entry is refused
pub entry_fault : (k n : ℕ) (s next : State) (line bytes : List ℕ) (ls rest : Lines) (o : Option Transition) (w : Written) → ls ≡ with_line line rest → accepted_in s line ≡ o → Went false o next → bytes ≡ written_fault k → w ≡ written_on k n s ls → all_of w ≡ bytes
entry_fault k n s next line bytes ls rest None w is h went e same =
    ap all_of (on_line k n s line ls rest None w is h same) ∙ sym e
entry_fault k n s next line bytes ls rest (Some x) w is h went e same = absurd went

-- for it no reply was put
pub fault_same : (o : Option Transition) (next : State) (out put : List ℕ) → Went false o next → put ≡ out ++ told_of o → put ≡ out
fault_same None next out put went told = told ∙ append-nil out
fault_same (Some x) next out put went told = absurd went

-- no line is left
pub entry_end_is : (k n : ℕ) (s : State) (ls : Lines) (rest bytes : List ℕ) (w : Written) → ls ≡ record { whole = []; rest = rest } → bytes ≡ written_rest k n rest → w ≡ written_on k n s ls → all_of w ≡ bytes
entry_end_is k n s ls rest bytes w is e same = ap all_of (same ∙ ap (written_on k n s) is) ∙ sym e

some_by : (next : State → List (List ℕ)) (o : Option Transition) → 0 < length (reply_then next o)
some_by next None = omega arith
some_by next (Some x) = omega arith

-- for a line there is a reply, or none as it isn't accepted
pub entry_some : (k n : ℕ) (s : State) (line : List ℕ) (ls rest : Lines) (w : Written) → ls ≡ with_line line rest → w ≡ written_on k n s ls → 0 < length w.each
entry_some k n s line ls rest w is same =
    let P : Written → Type 0 = λ v. 0 < length v.each in
    subst P (sym (same ∙ ap (written_on k n s) is)) (some_by (λ after. entry_replies after rest.whole) (accepted_in s line))

-- a line fewer is left
pub line_fewer : (line : List ℕ) (ls rest : Lines) → ls ≡ with_line line rest → length ls.whole ≡ length rest.whole + 1
line_fewer line ls rest is =
    let e : length ls.whole ≡ suc (length rest.whole) = ap (λ (x : Lines). length x.whole) is in
    omega (arith, e)
