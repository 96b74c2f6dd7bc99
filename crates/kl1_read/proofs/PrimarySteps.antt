-- The front of a primary, by its first token, and what goes on after it.
use Rattle.std.proofs.Common.{◌≡◌, ℕ, zero, suc, ◌<◌, ◌≤◌, nat_lt, Bool, true, false, if◌then◌else◌, List, [], ◌∷◌, length, map, Some, None, Vec, pos, neg_ℤ, refl, ap, sym, ◌∙◌, arith}
use Rattle.std.specs.Borrow.{Bor}
use Rattle.std.specs.declared.alloc.Global.{Global}
use Rattle.std.proofs.lemmas.Bool.{lt-ltb, le-ltb, and_left}
use Rattle.kl1_model.specs.declared.limits.TheConstants.{NUMBER_LIMIT}
use Rattle.kl1_model.specs.declared.sign.Sign.{Sign}
use Rattle.kl1_model.specs.declared.sign.Sign.TheVariants.{Open, OpenList}
use Rattle.kl1_model.specs.Token.{name_token, digits_token, minus_token, sign_token}
use Rattle.kl1_model.specs.Term.{Term, integer}
use Rattle.kl1_model.specs.Grammar as grammar
use Rattle.kl1_model.specs.Grammar.{call, list, empty_list}
use Rattle.kl1_model.specs.Meaning.{nil, primary_term, is_writable}
use Rattle.kl1_model.specs.reader.Reader.{Answer, then_read, then_skip, if_there, behind_open, behind_close, behind_close_list, series_at, rest_at}
use Rattle.kl1_read.specs.declared.numbered.Numbered.{Numbered}
use Rattle.kl1_read.specs.declared.opened.Opened.TheVariants.{Group, Arguments, Elements}
use Rattle.kl1_read.specs.Views.{numbered_token}
use Rattle.kl1_read.specs.Meanings.{reading, answer_map, primary_read, Going, Dooms, fit, open_then}
use Rattle.kl1_read.proofs.Primaries.{positive_reads, negative_reads, group_reads, call_reads, list_reads}

-- a whole primary was read
pub whole_begins : (ts us : List grammar.Numbered) (p t : Term) → p ≡ t → primary_read ts ≡ Some (t, us) → (k : Going) → Dooms k → fit (k p us) ≡ fit (then_read (primary_read ts) k)
whole_begins ts us p t e r k dooms = ap (λ x. fit (k x us)) e ∙ sym (ap (λ x. fit (then_read x k)) r)

-- no primary is there
pub bad_begins : (ts : List grammar.Numbered) → primary_read ts ≡ None → (k : Going) → Dooms k → None ≡ fit (then_read (primary_read ts) k)
bad_begins ts r k dooms = sym (ap (λ x. fit (then_read x k)) r)

-- no text can write the primary that is there
pub doomed_begins : (ts us : List grammar.Numbered) (t : Term) → primary_read ts ≡ Some (t, us) → is_writable t ≡ false → (k : Going) → Dooms k → None ≡ fit (then_read (primary_read ts) k)
doomed_begins ts us t r u k dooms = sym (ap (λ x. fit (then_read x k)) r ∙ dooms t us u)

pub empty_begins : (xs : List Numbered) → length xs < 1 → primary_read (map numbered_token xs) ≡ None
unfolding primary_read
empty_begins [] h = refl
empty_begins (x ∷ xs) h = absurd (omega arith)

pub empty_negative : (xs : List Numbered) → length xs < 1 → primary_read (minus_token true ∷ map numbered_token xs) ≡ None
unfolding primary_read
empty_negative [] h = refl
empty_negative (x ∷ xs) h = absurd (omega arith)

if_some : (b : Bool) (x : Answer Term) → b ≡ true → if◌then◌else◌ {A = Answer Term} b x None ≡ x
if_some b x h = ap (λ c. if◌then◌else◌ {A = Answer Term} c x None) h

if_none : (b : Bool) (x : Answer Term) → b ≡ false → if◌then◌else◌ {A = Answer Term} b x None ≡ None
if_none b x h = ap (λ c. if◌then◌else◌ {A = Answer Term} c x None) h

pub small_positive : (n : ℕ) (ts : List grammar.Numbered) → n < NUMBER_LIMIT → primary_read (digits_token n ∷ ts) ≡ Some (integer (pos n), ts)
small_positive n ts h = positive_reads n ts ∙ if_some (nat_lt n NUMBER_LIMIT) _ (lt-ltb n NUMBER_LIMIT h)

pub large_positive : (n : ℕ) (ts : List grammar.Numbered) → NUMBER_LIMIT ≤ n → primary_read (digits_token n ∷ ts) ≡ None
large_positive n ts h = positive_reads n ts ∙ if_none (nat_lt n NUMBER_LIMIT) (Some (integer (pos n), ts)) (le-ltb n NUMBER_LIMIT h)

pub below_zero_reads : (n : ℕ) (ts : List grammar.Numbered) → primary_read (minus_token true ∷ digits_token n ∷ ts) ≡ Some (integer (neg_ℤ (pos n)), ts)
below_zero_reads n ts = negative_reads (digits_token n ∷ ts)

-- no text can write an integer that is too low
pub too_low : (n : ℕ) → NUMBER_LIMIT < n → is_writable (integer (neg_ℤ (pos n))) ≡ false
too_low zero h = absurd (omega arith)
too_low (suc n) h = and_left _ _ (le-ltb n NUMBER_LIMIT (omega arith))

-- a name and no bracket after it
pub call_gone : (f : List ℕ) (quotes : Bool) (ts : List grammar.Numbered) → None ≡ behind_open ts → primary_read (name_token f quotes true ∷ ts) ≡ None
unfolding primary_read
call_gone f quotes ts h =
    ap (λ x. answer_map primary_term (then_read (then_skip x (λ us. then_read (series_at reading us) (λ s vs. then_skip (behind_close vs) (λ ws. Some (s, ws))))) (λ s us. Some (call f quotes s, us)))) (sym h)

pub call_begins : (f : Bor (List ℕ)) (quotes : Bool) (v : Vec Term Global) (ts us : List grammar.Numbered) → v.items ≡ [] → Some us ≡ behind_open ts → (k : Going) → Dooms k → fit (open_then (Arguments f v) k us) ≡ fit (then_read (primary_read (name_token f.now quotes true ∷ ts)) k)
call_begins f quotes v ts us e h k dooms =
    ap fit (sym (call_reads k f quotes v ts e ∙ ap (λ x. then_skip x (λ us. open_then (Arguments f v) k us)) (sym h)))

pub list_begins : (v : Vec Term Global) (ts : List grammar.Numbered) → v.items ≡ [] → None ≡ behind_close_list ts → (k : Going) → Dooms k → fit (open_then (Elements v) k ts) ≡ fit (then_read (primary_read (sign_token OpenList ∷ ts)) k)
list_begins v ts e h k dooms =
    ap fit (sym (list_reads k v ts e ∙ ap (λ x. if_there x (open_then (Elements v) k ts) (λ us. k nil us)) (sym h)))

pub no_elements : (ts us : List grammar.Numbered) → Some us ≡ behind_close_list ts → primary_read (sign_token OpenList ∷ ts) ≡ Some (nil, us)
unfolding primary_read
no_elements ts us h =
    ap (λ x. answer_map primary_term (if_there x (then_read (series_at reading ts) (λ s us. then_read (rest_at reading us) (λ r vs. Some (list s r, vs)))) (λ us. Some (empty_list, us)))) (sym h)

-- a sign as a token
abbrev pub token_of : Sign → grammar.Numbered
token_of s = sign_token s

-- a group opens
pub group_begins : (s : Sign) (ts : List grammar.Numbered) → token_of s ≡ token_of Open → (k : Going) → Dooms k → fit (open_then Group k ts) ≡ fit (then_read (primary_read (sign_token s ∷ ts)) k)
group_begins s ts h k dooms = ap fit (sym (ap (λ t. then_read (primary_read (t ∷ ts)) k) h ∙ group_reads k ts))

-- no other sign begins a primary
pub other_sign : (s : Sign) (ts : List grammar.Numbered) → (s ≡ Open → ⊥) → (s ≡ OpenList → ⊥) → primary_read (sign_token s ∷ ts) ≡ None
unfolding primary_read
other_sign Open ts h k = absurd (h refl)
other_sign OpenList ts h k = absurd (k refl)
other_sign _ ts h k = refl
