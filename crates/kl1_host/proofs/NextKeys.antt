-- The next edition of keys, place by place.
use Rattle.std.proofs.Common.{◌≡◌, ℕ, suc, ◌+◌, ◌-◌, ◌<◌, ◌≤◌, Bool, true, false, List, [], ◌∷◌, ◌++◌, length, map, take, get_or, ap, refl, sym, subst, ◌∙◌, arith, ltb-true, ltb-false}
use Rattle.std.specs.Prelude.{not, is_some, nat_lt, if◌then◌else◌}
use Rattle.std.proofs.lemmas.Bool.{lt-ltb, le-ltb}
use Rattle.std.proofs.lemmas.List.{append-nil, append_assoc, map-append, length-map, length-append, length_push, length-take-le, take_all, take_more, take-append-le}
use Rattle.std.proofs.lemmas.List.Elements.{filter-append}
use Rattle.kl1_session.specs.Files.{Entry}
use Rattle.kl1_session.specs.Views.{entry_view, entries_view}
use Rattle.kl1_session.specs.declared.key.Key.{Key}
use Rattle.kl1_host.specs.NextKeys.{named, next_at, is_rekeyed, is_removed, newcomers, places_where, put_if, entry_if, IsTakenOver, IsAdded, IsAddedIf, AreBrought}
use Rattle.kl1_host.specs.declared.next_keys.NextKeys.{NextKeys}

-- the entries up to the next key, and that of the key
pub view_more : (ks : List Key) (i : ℕ) (k : Key) → i < length ks → k ≡ get_or ks i k → entries_view (take (i + 1) ks) ≡ entries_view (take i ks) ++ entry_view k ∷ []
view_more ks i k within is =
    ap entries_view (take_more ks i k within ∙ ap (λ (x : Key). take i ks ++ x ∷ []) (sym is))
    ∙ map-append entry_view (take i ks) (k ∷ [])

abbrev cons_if : Bool → ℕ → List ℕ → List ℕ
cons_if b n ns = if b then n ∷ ns else ns

cons_one : (b : Bool) (n m : ℕ) → n ≡ m → cons_if b n [] ≡ put_if b m []
cons_one true n m same = ap (λ (k : ℕ). k ∷ []) same
cons_one false n m same = refl

cons_put : (b c : Bool) (m n : ℕ) (ns : List ℕ) → cons_if b m (put_if c n ns) ≡ put_if c n (cons_if b m ns)
cons_put true true m n ns = refl
cons_put true false m n ns = refl
cons_put false true m n ns = refl
cons_put false false m n ns = refl

-- the numbers of places, with one place more
where_more : (test : Entry → Bool) (n : ℕ) (es : List Entry) (e : Entry) → places_where test n (es ++ e ∷ []) ≡ put_if (test e) (n + length es) (places_where test n es)
where_more test n [] e = cons_one (test e) n (n + 0) (omega arith)
where_more test n (x ∷ es) e =
    let one : (n + 1) + length es ≡ n + suc (length es) = omega arith in
    let later = where_more test (n + 1) es e ∙ ap (λ (k : ℕ). put_if (test e) k (places_where test (n + 1) es)) one in
    ap (cons_if (test x) n) later ∙ cons_put (test x) (test e) n (n + suc (length es)) (places_where test (n + 1) es)

module _ (now wanted : List Entry) where
  count_of : (come : List Entry) (n : NextKeys) → AreBrought now wanted come n → length n.keys.items ≡ length now + length come
  count_of come n so =
      sym (length-map n.keys.items entry_view) ∙ ap length so.keys ∙ length-append (map (next_at wanted) now) come
      ∙ ap (λ (k : ℕ). k + length come) (length-map now (next_at wanted))

  -- one place more
  pub one_place : (e : Entry) (after : List Entry) (old new : NextKeys) → after ≡ now ++ e ∷ [] → AreBrought now wanted [] old → IsTakenOver wanted e old new → AreBrought after wanted [] new
  one_place e after old new is so taken =
      let count : length old.keys.items ≡ 0 + length now = omega (arith, count_of [] old so) in
      let rekeyed = taken.rekeyed ∙ ap (λ (k : ℕ). put_if (is_rekeyed wanted e) k old.rekeyed.items) count ∙ ap (put_if (is_rekeyed wanted e) (0 + length now)) so.rekeyed ∙ sym (where_more (is_rekeyed wanted) 0 now e) in
      let removed = taken.removed ∙ ap (λ (k : ℕ). put_if (is_removed wanted e) k old.removed.items) count ∙ ap (put_if (is_removed wanted e) (0 + length now)) so.removed ∙ sym (where_more (is_removed wanted) 0 now e) in
      let f = next_at wanted in
      let keys = taken.keys ∙ ap (λ (x : List Entry). x ++ f e ∷ []) (so.keys ∙ append-nil (map f now)) ∙ sym (map-append f now (e ∷ [])) ∙ sym (append-nil (map f (now ++ e ∷ []))) in
      let P : List Entry → Type 0 = λ (x : List Entry). AreBrought x wanted [] new in
      subst P (sym is) (record { keys = keys; rekeyed = rekeyed; removed = removed; added = taken.added ∙ so.added })

  -- one that comes, for which there is a place
  come_more : (places : ℕ) (come : List Entry) (e : Entry) (old new : NextKeys) → length come < places - length now → AreBrought now wanted come old → IsAdded places e old new → AreBrought now wanted (come ++ e ∷ []) new
  come_more places come e old new few so added =
      let count = count_of come old so in
      let there = lt-ltb (length old.keys.items) places (omega (arith, count, few)) in
      record {
        keys = added.keys ∙ ap (λ (b : Bool). entry_if b e (entries_view old.keys.items)) there ∙ ap (λ (x : List Entry). x ++ e ∷ []) so.keys ∙ append_assoc (map (next_at wanted) now) come (e ∷ []);
        rekeyed = added.rekeyed ∙ so.rekeyed;
        removed = added.removed ∙ so.removed;
        added = added.added ∙ ap (λ (b : Bool). put_if b (length old.keys.items) old.added.items) there ∙ ap (λ (k : ℕ). put_if true k old.added.items) count ∙ ap (put_if true (length now + length come)) so.added ∙ sym (where_more (λ x. true) (length now) come e);
      }

  -- one for which there is none
  come_none : (places : ℕ) (come : List Entry) (e : Entry) (old new : NextKeys) → places - length now ≤ length come → AreBrought now wanted come old → IsAdded places e old new → AreBrought now wanted come new
  come_none places come e old new all so added =
      let count = count_of come old so in
      let none = le-ltb (length old.keys.items) places (omega (arith, count, all)) in
      record {
        keys = added.keys ∙ ap (λ (b : Bool). entry_if b e (entries_view old.keys.items)) none ∙ so.keys;
        rekeyed = added.rekeyed ∙ so.rekeyed;
        removed = added.removed ∙ so.removed;
        added = added.added ∙ ap (λ (b : Bool). put_if b (length old.keys.items) old.added.items) none ∙ so.added;
      }

  come_by : (places : ℕ) (new_ones : List Entry) (e : Entry) (old new : NextKeys) (b : Bool) → nat_lt (length new_ones) (places - length now) ≡ b → AreBrought now wanted (take (places - length now) new_ones) old → IsAdded places e old new → AreBrought now wanted (take (places - length now) (new_ones ++ e ∷ [])) new
  come_by places new_ones e old new true less so added =
      let m = places - length now in
      let few : length new_ones < m = ltb-true (length new_ones) m less in
      let all : take m new_ones ≡ new_ones = take_all m new_ones (omega (arith, few)) in
      let more : take m (new_ones ++ e ∷ []) ≡ new_ones ++ e ∷ [] = take_all m (new_ones ++ e ∷ []) (omega (arith, few, length_push new_ones e)) in
      let P : List Entry → Type 0 = λ (x : List Entry). AreBrought now wanted x old in
      let Q : List Entry → Type 0 = λ (x : List Entry). AreBrought now wanted x new in
      subst Q (sym more) (come_more places new_ones e old new few (subst P all so) added)
  come_by places new_ones e old new false less so added =
      let m = places - length now in
      let full : m ≤ length new_ones = ltb-false (length new_ones) m less in
      let same : take m (new_ones ++ e ∷ []) ≡ take m new_ones = take-append-le m new_ones (e ∷ []) full in
      let Q : List Entry → Type 0 = λ (x : List Entry). AreBrought now wanted x new in
      let long : length (take m new_ones) ≡ m = length-take-le m new_ones full in
      subst Q (sym same) (come_none places (take m new_ones) e old new (omega (arith, long)) so added)

  comers_more : (ws : List Entry) (w : Entry) (b : Bool) → not (is_some (named now w.name)) ≡ b → newcomers now (ws ++ w ∷ []) ≡ newcomers now ws ++ (if b then w ∷ [] else [])
  comers_more ws w b is =
      filter-append (λ (x : Entry). not (is_some (named now x.name))) ws (w ∷ [])
      ∙ ap (λ (c : Bool). newcomers now ws ++ (if c then w ∷ [] else [])) is

  -- one that is wanted and has no place
  one_comes : (places : ℕ) (ws after : List Entry) (w : Entry) (old new : NextKeys) → after ≡ ws ++ w ∷ [] → not (is_some (named now w.name)) ≡ true → AreBrought now wanted (take (places - length now) (newcomers now ws)) old → IsAdded places w old new → AreBrought now wanted (take (places - length now) (newcomers now after)) new
  one_comes places ws after w old new is none so added =
      let m = places - length now in
      let more : newcomers now after ≡ newcomers now ws ++ w ∷ [] = ap (newcomers now) is ∙ comers_more ws w true none in
      let Q : List Entry → Type 0 = λ (x : List Entry). AreBrought now wanted (take m x) new in
      subst Q (sym more) (come_by places (newcomers now ws) w old new (nat_lt (length (newcomers now ws)) m) refl so added)

  -- one that is wanted and has one
  one_stays : (places : ℕ) (ws after : List Entry) (w : Entry) (n : NextKeys) → after ≡ ws ++ w ∷ [] → not (is_some (named now w.name)) ≡ false → AreBrought now wanted (take (places - length now) (newcomers now ws)) n → AreBrought now wanted (take (places - length now) (newcomers now after)) n
  one_stays places ws after w n is some so =
      let m = places - length now in
      let same : newcomers now after ≡ newcomers now ws = ap (newcomers now) is ∙ comers_more ws w false some ∙ append-nil (newcomers now ws) in
      let Q : List Entry → Type 0 = λ (x : List Entry). AreBrought now wanted (take m x) n in
      subst Q (sym same) so

  -- one that is wanted
  pub one_more : (places : ℕ) (ws after : List Entry) (w : Entry) (old new : NextKeys) (comes : Bool) → after ≡ ws ++ w ∷ [] → comes ≡ not (is_some (named now w.name)) → AreBrought now wanted (take (places - length now) (newcomers now ws)) old → IsAddedIf comes places w old new → AreBrought now wanted (take (places - length now) (newcomers now after)) new
  one_more places ws after w old new true is none so added = one_comes places ws after w old new is (sym none) so added
  one_more places ws after w old new false is some so same =
      let P : NextKeys → Type 0 = λ (x : NextKeys). AreBrought now wanted (take (places - length now) (newcomers now after)) x in
      subst P (sym same) (one_stays places ws after w old is (sym some) so)
