-- What accounts have by the numbers of their books: names, and histories.
use Rattle.std.proofs.Common.{◌≡◌, ℕ, ◌+◌, List, [], ◌∷◌, ◌++◌, map, length, slice_get, Some, None, refl, ap, sym, ◌∙◌, subst}
use Rattle.std.proofs.lemmas.List.{append_assoc, length_push, map_push, same_from_push}
use Rattle.std.proofs.lemmas.List.Elements.{All-pop}
use Rattle.atomic_table.specs.Seated.{TableId}
use Rattle.kl1_tally.specs.Numbers.{up_from}
use Rattle.kl1_tally.specs.Seats.{Book, new_book}
use Rattle.kl1_journal_stamps.specs.Stamps.{HistoryId, ShownValue, histories_of}
use Rattle.kl1_pool.specs.Parts.{AreAt, AreUnshown}

-- the last book is of the account which has the last of these
pub at_last : {X : Type 0} (all : List X) (bs cs : List Book) (b : Book) (xs ys : List X) (x : X) → bs ≡ cs ++ b ∷ [] → xs ≡ ys ++ x ∷ [] → AreAt all bs xs → AreAt all cs ys × (slice_get all b.account ≡ Some x)
at_last {X} all bs cs b xs ys x books are h =
    let f = λ (y : Book). slice_get all y.account in
    let g = λ (y : X). Some y in
    same_from_push (map f cs) (map g ys) (f b) (g x) (sym (map_push f cs b) ∙ ap (map f) (sym books) ∙ h ∙ ap (map g) are ∙ map_push g ys x)

at_seam : {X : Type 0} (xs ys : List X) (y : X) → slice_get (xs ++ y ∷ ys) (length xs) ≡ Some y
at_seam [] ys y = refl
at_seam (x ∷ xs) ys y = at_seam xs ys y

-- books of the accounts from one on have what stands from there on
at_from : {X : Type 0} (id : TableId) (all before xs : List X) (a : ℕ) → length before ≡ a → all ≡ before ++ xs → AreAt all (map (new_book id) (up_from a (length xs))) xs
at_from id all before [] a long is = refl
at_from {X} id all before (x ∷ xs) a long is =
    let here : slice_get all a ≡ Some x = ap (λ k. slice_get all k) (sym long) ∙ ap (λ l. slice_get l (length before)) is ∙ at_seam before xs x in
    let more : length (before ++ x ∷ []) ≡ a + 1 = length_push before x ∙ ap (λ k. k + 1) long in
    let rest = at_from id all (before ++ x ∷ []) xs (a + 1) more (is ∙ sym (append_assoc before (x ∷ []) xs)) in
    ap (λ o. o ∷ map (λ (b : Book). slice_get all b.account) (map (new_book id) (up_from (a + 1) (length xs)))) here ∙ ap (λ os. Some x ∷ os) rest

-- the books of all accounts, in order, are of those with these in order
pub all_at : {X : Type 0} (id : TableId) (all xs : List X) (n : ℕ) (books : List Book) → books ≡ map (new_book id) (up_from 0 n) → length xs ≡ n → xs ≡ all → AreAt all books xs
all_at {X} id all xs n books are long is =
    let at : AreAt all (map (new_book id) (up_from 0 (length xs))) xs = at_from id all [] xs 0 refl (sym is) in
    subst (λ bs. AreAt all bs xs) (ap (λ k. map (new_book id) (up_from 0 k)) long ∙ sym are) at

-- the last history is that of the account of the last book, and no journal was shown in it
pub unshown_last : (all : List HistoryId) (bs cs : List Book) (b : Book) (xs ys : List ShownValue) (x : ShownValue) → bs ≡ cs ++ b ∷ [] → xs ≡ ys ++ x ∷ [] → AreUnshown all bs xs → AreUnshown all cs ys × ((slice_get all b.account ≡ Some x.history) × (x.last ≡ None))
unshown_last all bs cs b xs ys x books are h =
    let f = λ (s : ShownValue). s.history in
    let at = at_last all bs cs b (histories_of xs) (histories_of ys) x.history books (ap histories_of are ∙ map_push f ys x) h.0 in
    let new = All-pop (λ (s : ShownValue). s.last ≡ None) xs ys (Some x) are h.1 in
    ((at.0, new.0), (at.1, new.1))
