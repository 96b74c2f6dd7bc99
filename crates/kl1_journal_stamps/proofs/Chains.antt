-- Journals that were shown one after another.
use Rattle.std.proofs.Common.{◌≡◌, ℕ, ◌≤◌, List, [], ◌∷◌, ◌++◌, length, refl, ap, sym, ◌∙◌, subst, arith, inl, inr, Some, None}
use Rattle.std.specs.Prelude.{Option}
use Rattle.std.proofs.lemmas.List.{append-nil}
use mathlib.Core.List.{IsPrefix}
use Rattle.kl1_model_server.specs.Journal.{Journal}
use Rattle.kl1_journal_stamps.specs.declared.shown_journal.ShownJournal.{ShownJournal}
use Rattle.kl1_journal_stamps.specs.Stamps.{ComesAfter, MayFollow}
use Rattle.kl1_journal_stamps.specs.Histories.{last_of, last_shown, Follows, AllFollow, IsChain}
use Rattle.kl1_journal_stamps.proofs.Growing.{growth_begins, growth_goes_on}
use Rattle.kl1_journal_stamps.proofs.Prefixes.{prefix_shorter}

-- a journal comes after itself
pub after_itself : (g : ℕ) (j : Journal) → ComesAfter g j g j
after_itself g j = inr (refl, growth_begins j)

-- and after each that another comes after
pub after_more : (g h i : ℕ) (j k l : Journal) → ComesAfter g j h k → ComesAfter h k i l → ComesAfter g j i l
after_more g h i j k l (inl a) (inl b) = inl (omega (arith, a, b))
after_more g h i j k l (inl a) (inr b) = inl (let same = b.0 in omega (arith, a, same))
after_more g h i j k l (inr a) (inl b) = inl (let same = a.0 in omega (arith, b, same))
after_more g h i j k l (inr a) (inr b) = inr (a.0 ∙ b.0, growth_goes_on j k l a.1 b.1)

-- what may follow the last one is followed by what comes after it
pub may_follow_on : (last : Option (ℕ × Journal)) (g h : ℕ) (j k : Journal) → MayFollow last g j → ComesAfter g j h k → MayFollow last h k
may_follow_on None g h j k was then = tt
may_follow_on (Some l) g h j k was then = after_more l.0 g h l.1 j k was then

-- a journal before others, of which the last comes after it
follows_last : (d e : ShownJournal) (es : List ShownJournal) → AllFollow d (e ∷ es) → Follows d (last_of (e ∷ es))
follows_last d e [] a = a.0
follows_last d e (f ∷ fs) a = follows_last d f fs a.1

all_snoc : (d e : ShownJournal) (es : List ShownJournal) → AllFollow d es → Follows d e → AllFollow d (es ++ e ∷ [])
all_snoc d e [] a f = (f, tt)
all_snoc d e (g ∷ gs) a f = (a.0, all_snoc d e gs a.1 f)

-- one journal more
pub chain_snoc : (es : List ShownJournal) (e : ShownJournal) → IsChain es → MayFollow (last_shown es) e.generation e.journal.journal → IsChain (es ++ e ∷ [])
chain_snoc [] e c f = (tt, tt)
chain_snoc (d ∷ []) e c f = ((f, tt), (tt, tt))
chain_snoc (d ∷ g ∷ gs) e c f =
    let last = last_of (g ∷ gs) in (
      all_snoc d e (g ∷ gs) c.0 (after_more d.generation last.generation e.generation d.journal.journal last.journal.journal e.journal.journal (follows_last d g gs c.0) f),
      chain_snoc (g ∷ gs) e c.1 f,
    )

-- the last of journals with one more
pub last_snoc : (es : List ShownJournal) (e : ShownJournal) → last_of (es ++ e ∷ []) ≡ e
last_snoc [] e = refl
last_snoc (d ∷ []) e = refl
last_snoc (d ∷ f ∷ fs) e = last_snoc (f ∷ fs) e

pub shown_snoc : (es : List ShownJournal) (e : ShownJournal) → last_shown (es ++ e ∷ []) ≡ Some (e.generation, e.journal.journal)
shown_snoc [] e = refl
shown_snoc (d ∷ ds) e = ap (λ (x : ShownJournal). let o : Option (ℕ × Journal) = Some (x.generation, x.journal.journal) in o) (last_snoc (d ∷ ds) e)

-- the last of the first journals, and the last of all
chain_lasts : (d : ShownJournal) (ds : List ShownJournal) (e : ShownJournal) (es : List ShownJournal) → IsChain ((d ∷ ds) ++ e ∷ es) → Follows (last_of (d ∷ ds)) (last_of ((d ∷ ds) ++ e ∷ es))
chain_lasts d [] e es c = follows_last d e es c.0
chain_lasts d (f ∷ fs) e es c = chain_lasts f fs e es c.1

all_front : (d : ShownJournal) (xs ys : List ShownJournal) → AllFollow d (xs ++ ys) → AllFollow d xs
all_front d [] ys a = tt
all_front d (x ∷ xs) ys a = (a.0, all_front d xs ys a.1)

chain_front : (xs ys : List ShownJournal) → IsChain (xs ++ ys) → IsChain xs
chain_front [] ys c = tt
chain_front (x ∷ xs) ys c = (all_front x xs ys c.0, chain_front xs ys c.1)

chain_prefix : (xs zs : List ShownJournal) → IsChain zs → IsPrefix xs zs → IsChain xs
chain_prefix xs zs c p = chain_front xs p.0 (subst IsChain (sym p.1) c)

-- a longer beginning of a chain: its last comes after that of the shorter one
later_last : (d : ShownJournal) (ds ys : List ShownJournal) → IsChain ys → IsPrefix (d ∷ ds) ys → Follows (last_of (d ∷ ds)) (last_of ys)
later_last d ds ys c ([], is) =
    let last = last_of (d ∷ ds) in
    subst (Follows last) (ap last_of (sym (append-nil (d ∷ ds)) ∙ is)) (after_itself last.generation last.journal.journal)
later_last d ds ys c (e ∷ es, is) = subst (λ (x : List ShownJournal). Follows (last_of (d ∷ ds)) (last_of x)) is (chain_lasts d ds e es (subst IsChain (sym is) c))

-- of two beginnings of one chain, the last of the longer one comes after that of the shorter one
pub lasts_follow : (xs ys zs : List ShownJournal) → IsChain zs → IsPrefix xs zs → IsPrefix ys zs → 1 ≤ length xs → length xs ≤ length ys → Follows (last_of xs) (last_of ys)
lasts_follow [] ys zs chain p q some le = absurd (omega (arith, some))
lasts_follow (x ∷ xs) ys zs chain p q some le = later_last x xs ys (chain_prefix ys zs chain q) (prefix_shorter (x ∷ xs) ys zs p q le)
