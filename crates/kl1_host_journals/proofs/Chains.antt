-- Editions one after another.
use Rattle.std.proofs.Common.{◌≡◌, ℕ, zero, suc, ◌≤◌, List, [], ◌∷◌, ◌++◌, length, refl, ap, sym, ◌∙◌, subst, arith, inl, inr, ◌⊎◌, append_assoc, length-append}
use Rattle.std.proofs.lemmas.Bool.{cases_lt}
use Rattle.std.proofs.lemmas.List.{append-nil}
use mathlib.Core.List.{IsPrefix}
use Rattle.kl1_journal_stamps.proofs.Growing.{growth_goes_on}
use Rattle.kl1_host_journals.specs.declared.edition.Edition.{Edition}
use Rattle.kl1_host_journals.specs.Editions.{last_of, StandsIn, Follows, MayFollow, AllFollow, IsChain}

-- each list begins with itself
pub prefix_self : {A : Type 0} (xs : List A) → IsPrefix xs xs
prefix_self xs = ([], append-nil xs)

pub prefix_trans : {A : Type 0} (xs ys zs : List A) → IsPrefix xs ys → IsPrefix ys zs → IsPrefix xs zs
prefix_trans xs ys zs p q = (p.0 ++ q.0, sym (append_assoc xs p.0 q.0) ∙ (ap (λ w. w ++ q.0) p.1 ∙ q.1))

-- of two beginnings of one list the shorter begins the longer
pub prefix_shorter : {A : Type 0} (xs ys zs : List A) → IsPrefix xs zs → IsPrefix ys zs → length xs ≤ length ys → IsPrefix xs ys
prefix_shorter [] ys zs p q le = (ys, refl)
prefix_shorter (x ∷ xs) [] zs p q le = absurd (omega arith)
prefix_shorter (x ∷ xs) (y ∷ ys) [] p q le = absurd (cc (p.1))
prefix_shorter (x ∷ xs) (y ∷ ys) (z ∷ zs) p q le =
    let heads : x ≡ y = cc (p.1, q.1) in
    let rest = prefix_shorter xs ys zs (p.0, cc (p.1)) (q.0, cc (q.1)) (omega arith) in
    (rest.0, cc (heads, rest.1))

-- a beginning as long as the whole is the whole
pub prefix_whole : {A : Type 0} (xs ys : List A) → IsPrefix xs ys → length ys ≤ length xs → xs ≡ ys
prefix_whole [] [] p le = refl
prefix_whole [] (y ∷ ys) p le = absurd (omega arith)
prefix_whole (x ∷ xs) [] p le = absurd (cc (p.1))
prefix_whole (x ∷ xs) (y ∷ ys) p le =
    let rest = prefix_whole xs ys (p.0, cc (p.1)) (omega arith) in cc (p.1, rest)

-- a beginning of a list with one more is a beginning of the list, or all
pub prefix_snoc : {A : Type 0} (xs ys : List A) (e : A) → IsPrefix xs (ys ++ e ∷ []) → IsPrefix xs ys ⊎ (xs ≡ ys ++ e ∷ [])
prefix_snoc xs ys e p = elim (cases_lt (length ys) (length xs)) [
  | inl less ↦ inr (prefix_whole xs (ys ++ e ∷ []) p (omega (arith, less, length-append ys (e ∷ []))))
  | inr le ↦ inl (prefix_shorter xs ys (ys ++ e ∷ []) p (e ∷ [], refl) le)
]

-- a text stands in itself, and in what a later one does
pub stands_same : (d e : Edition) → d.generation ≡ e.generation → d.text ≡ e.text → StandsIn d e
stands_same d e g t = inr (g, ([], append-nil d.text ∙ t))

pub stands_on : (d e f : Edition) → StandsIn d e → StandsIn e f → StandsIn d f
stands_on d e f (inl a) (inl b) = inl (omega (arith, a, b))
stands_on d e f (inl a) (inr b) = inl (let same = b.0 in omega (arith, a, same))
stands_on d e f (inr a) (inl b) = inl (let same = a.0 in omega (arith, b, same))
stands_on d e f (inr a) (inr b) = inr (a.0 ∙ b.0, prefix_trans d.text e.text f.text a.1 b.1)

later_than : (d e : Edition) → StandsIn d e → d.generation ≤ e.generation
later_than d e (inl less) = omega (arith, less)
later_than d e (inr stands) = let same = stands.0 in omega (arith, same)

pub follows_on : (d e f : Edition) → Follows d e → Follows e f → Follows d f
follows_on d e f a b = record {
  number = (let p = a.number in let q = b.number in omega (arith, p, q));
  same = λ is.
      let p = a.number in
      let q = b.number in
      let one = a.same (omega (arith, p, q, is)) in
      let two = b.same (omega (arith, p, q, is)) in
      (one.0 ∙ two.0, one.1 ∙ two.1);
  text = stands_on d e f a.text b.text;
  grown = λ is.
      let p = later_than d e a.text in
      let q = later_than e f b.text in
      growth_goes_on d.journal.journal e.journal.journal f.journal.journal (a.grown (omega (arith, p, q, is))) (b.grown (omega (arith, p, q, is)));
}

-- the last of editions with one more
pub last_snoc : (es : List Edition) (e : Edition) → last_of (es ++ e ∷ []) ≡ e
last_snoc [] e = refl
last_snoc (d ∷ []) e = refl
last_snoc (d ∷ f ∷ fs) e = last_snoc (f ∷ fs) e

-- an edition before others, of which the last follows it
pub follows_last : (d e : Edition) (es : List Edition) → AllFollow d (e ∷ es) → Follows d (last_of (e ∷ es))
follows_last d e [] a = a.0
follows_last d e (f ∷ fs) a = follows_last d f fs a.1

all_snoc : (d e : Edition) (es : List Edition) → AllFollow d es → Follows d e → AllFollow d (es ++ e ∷ [])
all_snoc d e [] a f = (f, tt)
all_snoc d e (g ∷ gs) a f = (a.0, all_snoc d e gs a.1 f)

-- one edition more
pub chain_snoc : (es : List Edition) (e : Edition) → IsChain es → MayFollow es e → IsChain (es ++ e ∷ [])
chain_snoc [] e c f = (tt, tt)
chain_snoc (d ∷ []) e c f = ((f, tt), (tt, tt))
chain_snoc (d ∷ g ∷ gs) e c f = (
  all_snoc d e (g ∷ gs) c.0 (follows_on d (last_of (g ∷ gs)) e (follows_last d g gs c.0) f),
  chain_snoc (g ∷ gs) e c.1 f,
)

-- the last of the first editions, and the last of all
pub chain_lasts : (d : Edition) (ds : List Edition) (e : Edition) (es : List Edition) → IsChain ((d ∷ ds) ++ e ∷ es) → Follows (last_of (d ∷ ds)) (last_of ((d ∷ ds) ++ e ∷ es))
chain_lasts d [] e es c = follows_last d e es c.0
chain_lasts d (f ∷ fs) e es c = chain_lasts f fs e es c.1

-- a longer beginning of a chain: the last of the shorter one, if it isn't the same, has the last of the longer one after it
pub later_last : (d : Edition) (ds ys : List Edition) → IsChain ys → IsPrefix (d ∷ ds) ys → (last_of (d ∷ ds) ≡ last_of ys) ⊎ Follows (last_of (d ∷ ds)) (last_of ys)
later_last d ds ys c ([], is) = inl (ap last_of (sym (append-nil (d ∷ ds)) ∙ is))
later_last d ds ys c (e ∷ es, is) =
    inr (subst (λ (x : List Edition). Follows (last_of (d ∷ ds)) (last_of x)) is (chain_lasts d ds e es (subst IsChain (sym is) c)))

all_front : (d : Edition) (xs ys : List Edition) → AllFollow d (xs ++ ys) → AllFollow d xs
all_front d [] ys a = tt
all_front d (x ∷ xs) ys a = (a.0, all_front d xs ys a.1)

chain_front : (xs ys : List Edition) → IsChain (xs ++ ys) → IsChain xs
chain_front [] ys c = tt
chain_front (x ∷ xs) ys c = (all_front x xs ys c.0, chain_front xs ys c.1)

pub chain_prefix : (xs zs : List Edition) → IsChain zs → IsPrefix xs zs → IsChain xs
chain_prefix xs zs c p = chain_front xs p.0 (subst IsChain (sym p.1) c)

stands_by : (d e : Edition) → (d ≡ e) ⊎ Follows d e → StandsIn d e
stands_by d e (inl is) = stands_same d e (ap (λ (x : Edition). x.generation) is) (ap (λ (x : Edition). x.text) is)
stands_by d e (inr f) = f.text

stands_back : (d e : Edition) → d.number ≤ e.number → (e ≡ d) ⊎ Follows e d → StandsIn d e
stands_back d e le (inl is) = stands_same d e (sym (ap (λ (x : Edition). x.generation) is)) (sym (ap (λ (x : Edition). x.text) is))
stands_back d e le (inr f) =
    let up = f.number in
    let both = f.same (omega (arith, le, up)) in
    stands_same d e (sym both.0) (sym both.1)

stands_cases : (c : Edition) (cs : List Edition) (d : Edition) (ds zs : List Edition) → IsChain zs → IsPrefix (c ∷ cs) zs → IsPrefix (d ∷ ds) zs
    → (last_of (c ∷ cs)).number ≤ (last_of (d ∷ ds)).number → (length (c ∷ cs) ≤ length (d ∷ ds)) ⊎ (length (d ∷ ds) ≤ length (c ∷ cs))
    → StandsIn (last_of (c ∷ cs)) (last_of (d ∷ ds))
stands_cases c cs d ds zs chain p q le (inl short) =
    stands_by (last_of (c ∷ cs)) (last_of (d ∷ ds)) (later_last c cs (d ∷ ds) (chain_prefix (d ∷ ds) zs chain q) (prefix_shorter (c ∷ cs) (d ∷ ds) zs p q short))
stands_cases c cs d ds zs chain p q le (inr short) =
    stands_back (last_of (c ∷ cs)) (last_of (d ∷ ds)) le (later_last d ds (c ∷ cs) (chain_prefix (c ∷ cs) zs chain p) (prefix_shorter (d ∷ ds) (c ∷ cs) zs q p short))

shorter : (m n : ℕ) → (m ≤ n) ⊎ (n ≤ m)
shorter zero n = inl (omega arith)
shorter (suc m) zero = inr (omega arith)
shorter (suc m) (suc n) = elim (shorter m n) [
  | inl le ↦ inl (omega (arith, le))
  | inr le ↦ inr (omega (arith, le))
]

-- Of two beginnings of one history: the text of the one of which fewer changes were noted stands in that of the other.
pub stands : (xs ys zs : List Edition) → IsChain zs → IsPrefix xs zs → IsPrefix ys zs → 1 ≤ length xs → 1 ≤ length ys → (last_of xs).number ≤ (last_of ys).number → StandsIn (last_of xs) (last_of ys)
stands [] ys zs chain p q one two le = absurd (omega (arith, one))
stands (c ∷ cs) [] zs chain p q one two le = absurd (omega (arith, two))
stands (c ∷ cs) (d ∷ ds) zs chain p q one two le = stands_cases c cs d ds zs chain p q le (shorter (length (c ∷ cs)) (length (d ∷ ds)))

same_by : (d e : Edition) → d.number ≡ e.number → (d ≡ e) ⊎ Follows d e → d.text ≡ e.text
same_by d e n (inl is) = ap (λ (x : Edition). x.text) is
same_by d e n (inr f) = (f.same n).1

same_cases : (c : Edition) (cs : List Edition) (d : Edition) (ds zs : List Edition) → IsChain zs → IsPrefix (c ∷ cs) zs → IsPrefix (d ∷ ds) zs
    → (last_of (c ∷ cs)).number ≡ (last_of (d ∷ ds)).number → (length (c ∷ cs) ≤ length (d ∷ ds)) ⊎ (length (d ∷ ds) ≤ length (c ∷ cs))
    → (last_of (c ∷ cs)).text ≡ (last_of (d ∷ ds)).text
same_cases c cs d ds zs chain p q n (inl short) =
    same_by (last_of (c ∷ cs)) (last_of (d ∷ ds)) n (later_last c cs (d ∷ ds) (chain_prefix (d ∷ ds) zs chain q) (prefix_shorter (c ∷ cs) (d ∷ ds) zs p q short))
same_cases c cs d ds zs chain p q n (inr short) =
    sym (same_by (last_of (d ∷ ds)) (last_of (c ∷ cs)) (sym n) (later_last d ds (c ∷ cs) (chain_prefix (c ∷ cs) zs chain p) (prefix_shorter (d ∷ ds) (c ∷ cs) zs q p short)))

-- If as many changes were noted, the text is the same.
pub same_text : (xs ys zs : List Edition) → IsChain zs → IsPrefix xs zs → IsPrefix ys zs → 1 ≤ length xs → 1 ≤ length ys → (last_of xs).number ≡ (last_of ys).number → (last_of xs).text ≡ (last_of ys).text
same_text [] ys zs chain p q one two n = absurd (omega (arith, one))
same_text (c ∷ cs) [] zs chain p q one two n = absurd (omega (arith, two))
same_text (c ∷ cs) (d ∷ ds) zs chain p q one two n = same_cases c cs d ds zs chain p q n (shorter (length (c ∷ cs)) (length (d ∷ ds)))

number_by : (d e : Edition) → (d ≡ e) ⊎ Follows d e → d.number ≤ e.number
number_by d e (inl is) = omega (arith, ap (λ (x : Edition). x.number) is)
number_by d e (inr f) = f.number

-- Of a history that has no more editions than were added: no more changes were noted at a beginning of it than are noted now.
pub no_later : (front all log : List Edition) (found count : ℕ) → 1 ≤ length front → IsChain log → IsPrefix front log → IsPrefix all log → length log ≡ found → count ≡ length all → found ≡ count → (last_of front).number ≤ (last_of all).number
no_later [] all log found count some chain p q long counted is = absurd (omega (arith, some))
no_later (d ∷ ds) all log found count some chain p q long counted is =
    let same : all ≡ log = prefix_whole all log q (omega (arith, long, counted, is)) in
    subst (λ (x : List Edition). (last_of (d ∷ ds)).number ≤ (last_of x).number) (sym same) (number_by (last_of (d ∷ ds)) (last_of log) (later_last d ds log chain p))
