-- The account that a record names, and the other accounts.
use Rattle.std.proofs.Common.{◌≡◌, ℕ, zero, suc, ◌<◌, Bool, true, false, not, if◌then◌else◌, List, [], ◌∷◌, ◌++◌, length, get_or, bytes_eq, Option, refl, ap, sym, ◌∙◌, arith}
use Rattle.std.specs.List.{list_any}
use Rattle.std.specs.Prelude.{fold}
use Rattle.std.proofs.lemmas.List.{append-nil}
use Rattle.std.proofs.lemmas.List.Folds.{list_any_at}
use Rattle.std.proofs.lemmas.Slice.Eq.{bytes_eq-Decides}
use Rattle.std.proofs.lemmas.Bool.{and_parts}
use Rattle.kl1_model.specs.Record.{Record}
use Rattle.kl1_model.specs.declared.rules.Rules.TheVariants.{Three}
use Rattle.kl1_model_server.specs.Journal.{Kept, fresh_kept}
use Rattle.kl1_model_server.specs.Command.{Command, command_of}
use Rattle.kl1_model_server.specs.Script.{are_distinct, is_account, commands_of, done_by, alone_after}

-- an account after commands, done in order
abbrev after_all : Kept → List (Option Command) → Kept
after_all k cs = fold (λ k c. (done_by k c).kept) k cs

after_more : (k : Kept) (cs : List (Option Command)) (c : Option Command) → after_all k (cs ++ c ∷ []) ≡ (done_by (after_all k cs) c).kept
after_more k [] c = refl
after_more k (b ∷ cs) c = after_more (done_by k b).kept cs c

commands_by : (v : Bool) (name : List ℕ) (b r : Record) (bs : List Record) → commands_of name (bs ++ r ∷ []) ≡ commands_of name bs ++ commands_of name (r ∷ []) → (if v then command_of Three b.request ∷ commands_of name (bs ++ r ∷ []) else commands_of name (bs ++ r ∷ [])) ≡ (if v then command_of Three b.request ∷ commands_of name bs else commands_of name bs) ++ commands_of name (r ∷ [])
commands_by true name b r bs e = ap (λ x. command_of Three b.request ∷ x) e
commands_by false name b r bs e = e

commands_more : (name : List ℕ) (bs : List Record) (r : Record) → commands_of name (bs ++ r ∷ []) ≡ commands_of name bs ++ commands_of name (r ∷ [])
commands_more name [] r = refl
commands_more name (b ∷ bs) r = commands_by (bytes_eq b.name name) name b r bs (commands_more name bs r)

alone_by : (v : Bool) (k : Kept) (cs : List (Option Command)) (c : Option Command) → after_all k (cs ++ (if v then c ∷ [] else [])) ≡ (if v then (done_by (after_all k cs) c).kept else after_all k cs)
alone_by true k cs c = after_more k cs c
alone_by false k cs c = ap (after_all k) (append-nil cs)

alone_more : (name : List ℕ) (bs : List Record) (r : Record) → alone_after name (bs ++ r ∷ []) ≡ (if bytes_eq r.name name then (done_by (alone_after name bs) (command_of Three r.request)).kept else alone_after name bs)
alone_more name bs r = ap (after_all (fresh_kept Three name)) (commands_more name bs r) ∙ alone_by (bytes_eq r.name name) (fresh_kept Three name) (commands_of name bs) (command_of Three r.request)

-- an account alone after one record more, of its name
pub own_more : (name : List ℕ) (bs : List Record) (r : Record) → r.name ≡ name → alone_after name (bs ++ r ∷ []) ≡ (done_by (alone_after name bs) (command_of Three r.request)).kept
own_more name bs r e =
    alone_more name bs r ∙ ap (λ v. if v then (done_by (alone_after name bs) (command_of Three r.request)).kept else alone_after name bs) ((bytes_eq-Decides r.name name).1 e)

-- so after one of another name
pub other_more : (name : List ℕ) (bs : List Record) (r : Record) → bytes_eq r.name name ≡ false → alone_after name (bs ++ r ∷ []) ≡ alone_after name bs
other_more name bs r e =
    alone_more name bs r ∙ ap (λ v. if v then (done_by (alone_after name bs) (command_of Three r.request)).kept else alone_after name bs) e

differs : (b : Bool) (x y : List ℕ) → bytes_eq x y ≡ b → (x ≡ y → ⊥) → bytes_eq x y ≡ false
differs true x y e apart = absurd (apart ((bytes_eq-Decides x y).0 e))
differs false x y e apart = e

-- names that differ
pub are_apart : (x y : List ℕ) → (x ≡ y → ⊥) → bytes_eq x y ≡ false
are_apart x y = differs (bytes_eq x y) x y refl

-- no account has a name that is none of theirs
pub none_named : (names : List (List ℕ)) (x : List ℕ) (u : ℕ) → is_account names x ≡ false → u < length names → bytes_eq x (get_or names u []) ≡ false
none_named names x u none within =
    are_apart x (get_or names u []) (λ e. let h : is_account names x ≡ true = list_any_at (bytes_eq x) names u [] within ((bytes_eq-Decides x (get_or names u [])).1 e) in cc)

not_true : (b : Bool) → not b ≡ true → b ≡ false
not_true true e = sym e
not_true false e = refl

first_apart : (n : List ℕ) (ns : List (List ℕ)) (v : ℕ) → are_distinct (n ∷ ns) ≡ true → v < length ns → n ≡ get_or ns v [] → ⊥
first_apart n ns v distinct within e =
    let h : list_any (bytes_eq n) ns ≡ true = list_any_at (bytes_eq n) ns v [] within ((bytes_eq-Decides n (get_or ns v [])).1 e) in
    let k : list_any (bytes_eq n) ns ≡ false = not_true (list_any (bytes_eq n) ns) (and_parts (not (list_any (bytes_eq n) ns)) (are_distinct ns) distinct).0 in
    cc

-- two places of one name are one, if no name stands twice
pub one_place : (names : List (List ℕ)) (u v : ℕ) → are_distinct names ≡ true → u < length names → v < length names → get_or names u [] ≡ get_or names v [] → u ≡ v
one_place [] u v distinct in_u in_v e = absurd (omega arith)
one_place (n ∷ ns) zero zero distinct in_u in_v e = refl
one_place (n ∷ ns) zero (suc v) distinct in_u in_v e = absurd (first_apart n ns v distinct (omega arith) e)
one_place (n ∷ ns) (suc u) zero distinct in_u in_v e = absurd (first_apart n ns u distinct (omega arith) (sym e))
one_place (n ∷ ns) (suc u) (suc v) distinct in_u in_v e =
    ap suc (one_place ns u v (and_parts (not (list_any (bytes_eq n) ns)) (are_distinct ns) distinct).1 (omega arith) (omega arith) e)

-- the account at the place of a name is one
pub is_named : (names : List (List ℕ)) (x : List ℕ) (u : ℕ) → u < length names → get_or names u [] ≡ x → is_account names x ≡ true
is_named names x u within e = list_any_at (bytes_eq x) names u [] within ((bytes_eq-Decides x (get_or names u [])).1 (sym e))
