-- A name that is published.
use Rattle.kl1_machine.proofs.Words.{◌≡◌, ℕ, ◌+◌, ◌≤◌, ◌<◌, ◌^◌, true, List, [], ◌∷◌, length, refl, sym, ap, ◌∙◌, subst, inr, arith, leb-true, length-map, length_push, map-append, with_name, AtomNo, CellName, Known, number_by, Adds, HasRoom, still_known, Kept, Spelled, texts_of, NameShelf, AreSmall, keeps_names, added_new, fits_less, new_named, Machine, made, Patches, CanPublish, IsNamed, Publishes, all_append}
use Rattle.std.proofs.Common.{Option, Some, None}

-- there is room for a name that is new, which the account may use, in a table
pub room_for_name : (most room : ℕ) (ks : List Known) (t : List ℕ) → number_by ks t ≡ None → keeps_names most ks t ≡ true → most ≤ room → HasRoom room ks t
room_for_name most room ks t new keeps within =
    let few : length (with_name (texts_of ks) t) ≤ most = leb-true (length (with_name (texts_of ks) t)) most keeps in
    let count : length (with_name (texts_of ks) t) ≡ length ks + 1 = ap length (new_named ks t new) ∙ length_push (texts_of ks) t ∙ ap (λ (k : ℕ). k + 1) (length-map ks (λ (k : Known). k.text)) in
    inr (omega (arith, few, count, within))

-- an account has these names, if a name of it got this number, which is none of the spare ones
pub record IsNumbered (known more : List Known) (name : Option (List ℕ)) (k : CellName) : Type 0 where
  pub named : IsNamed known more name k
  pub small : AreSmall more

-- the names with one that has got its number
pub named_one : (ks more : List Known) (t : List ℕ) (a : AtomNo) (k : CellName) → number_by ks t ≡ None → AreSmall ks → a.number < 2 ^ 32 → k.number ≡ a.number → Adds ks t a more → IsNumbered ks more (Some t) k
named_one ks more t a k new small low number adds = record {
  named = record {
    texts = ap texts_of (adds.known ∙ added_new ks t a new) ∙ map-append (λ (x : Known). x.text) ks (record { text = t; number = a } ∷ []);
    fits = fits_less ks more (still_known ks t a more adds);
    reads = λ f fit. ap (λ n. f (record { number = n })) number ∙ fit.texts t a.number adds.number;
  };
  small = subst AreSmall (sym (adds.known ∙ added_new ks t a new)) (all_append (λ (x : Known). x.number.number < 2 ^ 32) ks (record { text = t; number = a } ∷ []) small (low, tt));
}

-- no name is published if there is none
pub published_none : (m : Machine) → m.name ≡ None → CanPublish m → Publishes m m
published_none m none can =
    let spelled : m.spelled ≡ None = can.has none in
    record {
      number = record { number = 0 };
      named = subst (λ (o : Option (List ℕ)). IsNamed m.names.names m.names.names o (record { number = 0 })) (sym none) (let n : IsNamed m.names.names m.names.names None (record { number = 0 }) = record { texts = refl; fits = λ f fits. fits; reads = λ f fits. tt } in n);
      small = can.small;
      patches = subst (λ (o : Option Spelled). Patches o (record { number = 0 }) m.store.held m.store.held) (sym spelled) refl;
      hooks = refl;
      rest = ap (λ (o : Option (List ℕ)). let z : Machine = record m { name = o } in z) none ∙ ap (λ (o : Option Spelled). let z : Machine = record m { name = None; spelled = o } in z) spelled;
    }

-- a name is published
pub published_one : (m : Machine) (names : NameShelf) (store : Kept CellName) (t : List ℕ) (k : CellName) → m.name ≡ Some t → IsNumbered m.names.names names.names (Some t) k → Patches m.spelled k m.store.held store.held → store.hooks ≡ m.store.hooks →
    Publishes m (record m { store = store; names = names; name = None; spelled = None })
published_one m names store t k is numbered patches hooks = record {
  number = k;
  named = subst (λ (o : Option (List ℕ)). IsNamed m.names.names names.names o k) (sym is) numbered.named;
  small = numbered.small;
  patches = patches;
  hooks = hooks;
  rest = refl;
}

-- what is made stays
pub published_made : (m n : Machine) → Publishes m n → made n ≡ made m
published_made m n p =
    ap made p.rest
    ∙ ap (λ (ns : List (List ℕ)). record (made m) { names = ns }) p.named.texts
