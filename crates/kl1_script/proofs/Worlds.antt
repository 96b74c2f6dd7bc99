-- The accounts of a world after a record more, and what is written for it.
use Rattle.std.proofs.Common.{◌≡◌, ℕ, ◌<◌, true, false, if◌then◌else◌, List, [], ◌∷◌, ◌++◌, length, get_or, codes, Option, Some, refl, ap, sym, ◌∙◌, subst, inl, inr}
use Rattle.std.specs.Prelude.{◌⊎◌, None, Ok, Err, OnOk, slice_get}
use Rattle.std.specs.declared.result.Result.{Result}
use Rattle.std.proofs.lemmas.Bool.{cases_eq}
use Rattle.std.proofs.lemmas.Option.{slice_get_within, get_or_from_slice_get}
use Rattle.kl1_model.specs.declared.rules.Rules.TheVariants.{Three}
use Rattle.kl1_model.specs.Record.{Record}
use Rattle.kl1_model.specs.Event.{Reply, refused, syntax}
use Rattle.kl1_model_server.specs.Journal.{Kept, Done}
use Rattle.kl1_model_server.specs.Command.{Command, command_of, act, reply_lines, written_line}
use Rattle.kl1_model_server.specs.Script.{are_distinct, is_account, done_by, alone_after, written_reply, written_for}
use Rattle.kl1_atoms.specs.Names.{AreNames}
use Rattle.kl1_journal.specs.Keeping.{Reading, Fits, Held, kept_of}
use Rattle.kl1_user.specs.Readings.{reading_of, reading_fits}
use Rattle.kl1_world.specs.Worlds.{account_in, AreFresh}
use Rattle.kl1_script.specs.Alone.{AreAlone}
use Rattle.kl1_script.proofs.Others.{own_more, other_more, are_apart, none_named, one_place, is_named}

-- in a world the command of a record was done to the account at a place, with this reply, and to no other
pub record Does (old new : List Held) (place : ℕ) (c : Option Command) (reply : Reply) : Type 0 where
  pub done : (f : Reading) → Fits (account_in new place).0.names f → done_by (kept_of f (account_in old place)) c ≡ record { kept = kept_of f (account_in new place); reply = reply }
  pub before : (f : Reading) → Fits (account_in new place).0.names f → Fits (account_in old place).0.names f
  pub others : (u : ℕ) → (u ≡ place → ⊥) → account_in new u ≡ account_in old u
  pub many : length new ≡ length old

-- there was no command
pub does_nothing : (world : List Held) (place : ℕ) (c : Option Command) → c ≡ None → Does world world place c (refused syntax)
does_nothing world place c none = record {
  done = λ f fits. ap (done_by (kept_of f (account_in world place))) none;
  before = λ f fits. fits;
  others = λ u apart. refl;
  many = refl;
}

-- a command was done, with this reply
pub does_command : (old new : List Held) (place : ℕ) (c : Option Command) (d : Command) (reply : Reply) → Some d ≡ c → ((f : Reading) → Fits (account_in new place).0.names f → act (kept_of f (account_in old place)) d ≡ record { kept = kept_of f (account_in new place); reply = reply }) →
    ((f : Reading) → Fits (account_in new place).0.names f → Fits (account_in old place).0.names f) → ((u : ℕ) → (u ≡ place → ⊥) → account_in new u ≡ account_in old u) → length new ≡ length old → Does old new place c reply
does_command old new place c d reply is done before others many = record {
  done = λ f fits. ap (done_by (kept_of f (account_in old place))) (sym is) ∙ done f fits;
  before = before;
  others = others;
  many = many;
}

-- nothing has happened in fresh accounts
pub alone_fresh : (names : List (List ℕ)) (world : List Held) → length world ≡ length names → AreFresh Three world names → AreAlone names world []
alone_fresh names world many fresh = record { many = many; kept = λ u f within fits. fresh u f within }

-- the accounts after a record of another name
pub alone_still : (names : List (List ℕ)) (world : List Held) (bs : List Record) (r : Record) → is_account names r.name ≡ false → AreAlone names world bs → AreAlone names world (bs ++ r ∷ [])
alone_still names world bs r none w = record {
  many = w.many;
  kept = λ u f within fits. w.kept u f within fits ∙ sym (other_more (get_or names u []) bs r (none_named names r.name u none within));
}

kept_at : (names : List (List ℕ)) (old new : List Held) (bs : List Record) (r : Record) (place : ℕ) (reply : Reply) (u : ℕ) (f : Reading) → are_distinct names ≡ true → slice_get names place ≡ Some r.name → Does old new place (command_of Three r.request) reply → AreAlone names old bs → u < length names → Fits (account_in new u).0.names f →
    (u ≡ place) ⊎ (u ≡ place → ⊥) → kept_of f (account_in new u) ≡ alone_after (get_or names u []) (bs ++ r ∷ [])
kept_at names old new bs r place reply u f distinct at does w within fits (inl same) =
    let P : ℕ → Type 0 = λ n. Fits (account_in new n).0.names f in
    let Q : ℕ → Type 0 = λ n. kept_of f (account_in new n) ≡ alone_after (get_or names n []) (bs ++ r ∷ []) in
    let there = subst P same fits in
    let was = w.kept place f (slice_get_within names place r.name at) (does.before f there) in
    subst Q (sym same)
    (sym (ap (λ (x : Done). x.kept) (does.done f there)) ∙ ap (λ (k : Kept). (done_by k (command_of Three r.request)).kept) was ∙ sym (own_more (get_or names place []) bs r (sym (get_or_from_slice_get names place r.name [] at))))
kept_at names old new bs r place reply u f distinct at does w within fits (inr apart) =
    let stays = does.others u apart in
    let P : Held → Type 0 = λ a. Fits a.0.names f in
    let name = get_or_from_slice_get names place r.name [] at in
    ap (kept_of f) stays ∙ w.kept u f within (subst P stays fits)
    ∙ sym (other_more (get_or names u []) bs r (are_apart r.name (get_or names u []) (λ e. apart (one_place names u place distinct within (slice_get_within names place r.name at) (sym e ∙ sym name)))))

-- the accounts after a record of the account at a place
pub alone_done : (names : List (List ℕ)) (old new : List Held) (bs : List Record) (r : Record) (place : ℕ) (reply : Reply) → are_distinct names ≡ true → slice_get names place ≡ Some r.name → Does old new place (command_of Three r.request) reply → AreAlone names old bs → AreAlone names new (bs ++ r ∷ [])
alone_done names old new bs r place reply distinct at does w = record {
  many = does.many ∙ w.many;
  kept = λ u f within fits. kept_at names old new bs r place reply u f distinct at does w within fits (cases_eq u place);
}

for_account : (names : List (List ℕ)) (bs : List Record) (r : Record) (place : ℕ) → slice_get names place ≡ Some r.name → written_for names bs r ≡ written_reply r.name (reply_lines (done_by (alone_after r.name bs) (command_of Three r.request)).reply)
for_account names bs r place at =
    ap (λ v. if v then written_reply r.name (reply_lines (done_by (alone_after r.name bs) (command_of Three r.request)).reply) else written_line (codes "! account"))
    (is_named names r.name place (slice_get_within names place r.name at) (get_or_from_slice_get names place r.name [] at))

-- what is written for a record of another name
pub written_other : (names : List (List ℕ)) (bs : List Record) (r : Record) → is_account names r.name ≡ false → written_for names bs r ≡ written_line (codes "! account")
written_other names bs r none =
    ap (λ v. if v then written_reply r.name (reply_lines (done_by (alone_after r.name bs) (command_of Three r.request)).reply) else written_line (codes "! account")) none

-- what is written for a record of an account that has no command
pub written_refused : (names : List (List ℕ)) (bs : List Record) (r : Record) (place : ℕ) → slice_get names place ≡ Some r.name → command_of Three r.request ≡ None → written_for names bs r ≡ written_reply r.name (reply_lines (refused syntax))
written_refused names bs r place at none =
    for_account names bs r place at ∙ ap (λ (c : Option Command). written_reply r.name (reply_lines (done_by (alone_after r.name bs) c).reply)) none

-- what is written for a record of an account to which its command was done; some reading fits the account's names
pub written_done : (names : List (List ℕ)) (old new : List Held) (bs : List Record) (r : Record) (place : ℕ) (reply : Reply) → slice_get names place ≡ Some r.name → AreNames (account_in new place).0.names → Does old new place (command_of Three r.request) reply → AreAlone names old bs → written_for names bs r ≡ written_reply r.name (reply_lines reply)
written_done names old new bs r place reply at known does w =
    let f = reading_of (account_in new place).0.names in
    let fits = reading_fits (account_in new place).0.names known in
    let same = w.kept place f (slice_get_within names place r.name at) (does.before f fits) ∙ ap (λ n. alone_after n bs) (get_or_from_slice_get names place r.name [] at) in
    for_account names bs r place at
    ∙ ap (λ (k : Kept). written_reply r.name (reply_lines (done_by k (command_of Three r.request)).reply)) (sym same)
    ∙ ap (λ (x : Done). written_reply r.name (reply_lines x.reply)) (does.done f fits)

-- what holds in any case holds after a success
pub always_ok : {T E P : Type 0} (r : Result T E) → P → OnOk r P
always_ok (Ok x) p = p
always_ok (Err e) p = tt
