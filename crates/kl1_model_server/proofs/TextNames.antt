-- The lines of names and the first lines of journals read back.
use Rattle.std.specs.Prelude.{◌≡◌, ℕ, ◌≤◌, ◌<◌, ◌==◌, nat_le, ◌&&◌, Bool, true, false, if◌then◌else◌, List, [], ◌∷◌, ◌++◌, codes, bytes_eq, decimal, Option, Some, None, option_map, option_and_then}
use Rattle.std.proofs.Common.{refl, sym, ap, ◌∙◌, subst, arith}
use Rattle.std.proofs.lemmas.Bool.{and_parts, and_from, leb-true, le-leb, ne_eqb, eqb-true}
use Rattle.std.proofs.lemmas.List.{append_assoc}
use Rattle.std.specs.List.{list_all}
use Rattle.std.proofs.lemmas.Option.{none-some, same_Some}
use Rattle.std.proofs.lemmas.Slice.Eq.{bytes_eq-Decides}
use Rattle.kl1_model.specs.declared.rules.Rules.{Rules}
use Rattle.kl1_model.specs.declared.rules.Rules.TheVariants.{One, Two, Three, Four, Five}
use Rattle.kl1_model.specs.declared.limits.TheConstants.{NUMBER_LIMIT, MOST_NAMES, MOST_SESSIONS}
use Rattle.kl1_model.specs.Text.{is_text}
use Rattle.kl1_model.specs.Name.{is_small_letter, is_word_byte, is_bare, doubled, quoted, name_text}
use Rattle.kl1_model.specs.Line.{before_space, behind_space, number_in}
use Rattle.kl1_model.specs.State.{limits_of}
use Rattle.kl1_model.proofs.LimitFacts.{limits_are_low}
use Rattle.kl1_model_server.specs.JournalText.{name_line, unquoted, name_by, if_text, version, heading_line, Heading, rules_of, heading_by, if_allowed}
use Rattle.kl1_model_server.specs.laws.TextLaws.{NamesReadBack, StrictLinesAreNames, HeadingsReadBack, StrictLinesAreHeadings}
use Rattle.kl1_model_server.proofs.Exactly.{exactly_back, exactly_strict}
use Rattle.kl1_model_server.proofs.Words.{number_back, before_front, behind_front, decimal_no_space}

plain_byte : (b : ℕ) (bs : List ℕ) → (b == 39) ≡ false → unquoted (b ∷ (doubled bs ++ 39 ∷ [])) ≡ b ∷ unquoted (doubled bs ++ 39 ∷ [])
plain_byte b bs is = by_text (doubled bs)
  where
    by_text : (ds : List ℕ) → unquoted (b ∷ (ds ++ 39 ∷ [])) ≡ b ∷ unquoted (ds ++ 39 ∷ [])
    by_text [] = rw (is, unquoted)
    by_text (d ∷ ds) = rw (is, unquoted)

-- one byte of the text between quotes
byte_back : (x : Bool) (b : ℕ) (bs : List ℕ) → (b == 39) ≡ x → unquoted (doubled (b ∷ bs) ++ 39 ∷ []) ≡ b ∷ unquoted (doubled bs ++ 39 ∷ [])
byte_back true b bs is = let same : b ≡ 39 = eqb-true b 39 is in rw same
byte_back false b bs is = rw is (plain_byte b bs is)

-- the text between quotes, in which each quote stands twice
unquoted_back : (bs : List ℕ) → unquoted (doubled bs ++ 39 ∷ []) ≡ bs
unquoted_back [] = refl
unquoted_back (b ∷ bs) = byte_back (b == 39) b bs refl ∙ ap (λ x. b ∷ x) (unquoted_back bs)

letter_no_quote : (b : ℕ) → is_small_letter b ≡ true → (b == 39) ≡ false
letter_no_quote b h = ne_eqb b 39 (λ e. omega (arith, e, leb-true 97 b (and_parts (nat_le 97 b) (nat_le b 122) h).0))

bare_back : (t : List ℕ) → is_bare t ≡ true → name_by t ≡ t
bare_back [] h = cc
bare_back (b ∷ bs) h = ap (λ x. if x then unquoted bs else b ∷ bs) (letter_no_quote b (and_parts (is_small_letter b) (list_all is_word_byte bs) h).0)

name_back : (x : Bool) (t : List ℕ) → is_bare t ≡ x → name_by (if x then t else quoted t) ≡ t
name_back true t is = bare_back t is
name_back false t is = unquoted_back t

atom_back : (x : Bool) (t : List ℕ) → bytes_eq t (codes "[]") ≡ x → name_by (if x then t else name_text t) ≡ t
atom_back true t is = let same = (bytes_eq-Decides t (codes "[]")).0 is in ap name_by same ∙ sym same
atom_back false t is = name_back (is_bare t) t refl

-- the name that a line may have
abbrev named : List ℕ → Option (List ℕ)
named line = if_text (name_by (behind_space line))

pub names_read_back : NamesReadBack
names_read_back t h =
    exactly_back name_line named t (ap if_text (atom_back (bytes_eq t (codes "[]")) t refl) ∙ ap (λ x. if◌then◌else◌ {A = Option (List ℕ)} x (Some t) None) h)

text_read : (b : Bool) (t u : List ℕ) → is_text t ≡ b → if◌then◌else◌ {A = Option (List ℕ)} b (Some t) None ≡ Some u → is_text u ≡ true
text_read true t u is h = ap is_text (sym (same_Some t u h)) ∙ is
text_read false t u is h = absurd (none-some u h)

pub strict_lines_are_names : StrictLinesAreNames
strict_lines_are_names line t h =
    let u = name_by (behind_space line) in
    let both = exactly_strict name_line named line t h in
    (text_read (is_text u) u t refl both.0, both.1)

-- a heading
abbrev heading : Rules → ℕ → ℕ → Heading
heading rules sessions names = record { rules = rules; sessions = sessions; names = names }

-- what a heading's line is
abbrev line_of : Heading → List ℕ
line_of h = heading_line h.rules h.sessions h.names

-- the heading that a line may be
abbrev headed : List ℕ → Option Heading
headed line = option_and_then if_allowed (heading_by (behind_space line))

by_parts : (o : Option Rules) (x y : Option ℕ) (rules : Rules) (m n : ℕ) → o ≡ Some rules → x ≡ Some m → y ≡ Some n → option_and_then (λ rules. option_and_then (λ sessions. option_map (heading rules sessions) y) x) o ≡ Some (heading rules m n)
by_parts o x y rules m n p q u = rw (p, q, u) refl

-- a heading whose numbers are small
heading_allowed : (rules : Rules) (m n : ℕ) → m ≤ MOST_SESSIONS → n ≤ (limits_of rules).names → if_allowed (heading rules m n) ≡ Some (heading rules m n)
heading_allowed rules m n p q =
    ap (λ x. if◌then◌else◌ {A = Option Heading} x (Some (heading rules m n)) None)
    (and_from (nat_le m MOST_SESSIONS) (nat_le n (limits_of rules).names) (le-leb m MOST_SESSIONS p) (le-leb n (limits_of rules).names q))

-- the version of a journal, and what stands after it in the first line
version_back : (rules : Rules) (rest : List ℕ) → (line : List ℕ) → line ≡ codes "journal " ++ version rules ++ 32 ∷ rest → (rules_of (before_space (behind_space line)) ≡ Some rules) × (behind_space (behind_space line) ≡ rest)
version_back One rest line is = (ap (λ x. rules_of (before_space (behind_space x))) is, ap (λ x. behind_space (behind_space x)) is)
version_back Two rest line is = (ap (λ x. rules_of (before_space (behind_space x))) is, ap (λ x. behind_space (behind_space x)) is)
version_back Four rest line is = (ap (λ x. rules_of (before_space (behind_space x))) is, ap (λ x. behind_space (behind_space x)) is)
version_back Five rest line is = (ap (λ x. rules_of (before_space (behind_space x))) is, ap (λ x. behind_space (behind_space x)) is)
version_back Three rest line is = (ap (λ x. rules_of (before_space (behind_space x))) is, ap (λ x. behind_space (behind_space x)) is)

first_parts : (v m n : List ℕ) → codes "journal " ++ v ++ 32 ∷ [] ++ m ++ 32 ∷ [] ++ n ≡ codes "journal " ++ v ++ 32 ∷ (m ++ 32 ∷ n)
first_parts v m n = simp append_assoc refl

pub headings_read_back : HeadingsReadBack
headings_read_back rules m n p q =
    let few : m < NUMBER_LIMIT = omega arith in
    let low = (limits_are_low rules).names in
    let less : n < NUMBER_LIMIT = omega arith in
    let rest = decimal m ++ 32 ∷ decimal n in
    let line = heading_line rules m n in
    let both = version_back rules rest line (first_parts (version rules) (decimal m) (decimal n)) in
    let is_rest : behind_space (behind_space line) ≡ rest = both.1 in
    exactly_back line_of headed (heading rules m n)
    (ap (option_and_then if_allowed)
    (by_parts (rules_of (before_space (behind_space line))) (number_in (before_space (behind_space (behind_space line)))) (number_in (behind_space (behind_space (behind_space line)))) rules m n
    both.0
    (ap (λ x. number_in (before_space x)) is_rest ∙ ap number_in (before_front (decimal m) (decimal n) (decimal_no_space m few)) ∙ number_back m few)
    (ap (λ x. number_in (behind_space x)) is_rest ∙ ap number_in (behind_front (decimal m) (decimal n) (decimal_no_space m few)) ∙ number_back n less))
    ∙ heading_allowed rules m n p q)

allowed_read : (b : Bool) (g h : Heading) → nat_le g.sessions MOST_SESSIONS && nat_le g.names (limits_of g.rules).names ≡ b → if◌then◌else◌ {A = Option Heading} b (Some g) None ≡ Some h → (h.sessions ≤ MOST_SESSIONS) × (h.names ≤ (limits_of h.rules).names)
allowed_read true g h is e =
    let both = and_parts (nat_le g.sessions MOST_SESSIONS) (nat_le g.names (limits_of g.rules).names) is in
    subst (λ (h : Heading). (h.sessions ≤ MOST_SESSIONS) × (h.names ≤ (limits_of h.rules).names)) (same_Some g h e) (leb-true g.sessions MOST_SESSIONS both.0, leb-true g.names (limits_of g.rules).names both.1)
allowed_read false g h is e = absurd (none-some h e)

few_in : (o : Option Heading) (h : Heading) → option_and_then if_allowed o ≡ Some h → (h.sessions ≤ MOST_SESSIONS) × (h.names ≤ (limits_of h.rules).names)
few_in None h e = absurd (none-some h e)
few_in (Some g) h e = allowed_read (nat_le g.sessions MOST_SESSIONS && nat_le g.names (limits_of g.rules).names) g h refl e

pub strict_lines_are_headings : StrictLinesAreHeadings
strict_lines_are_headings line h e =
    let both = exactly_strict line_of headed line h e in
    let few = few_in (heading_by (behind_space line)) h both.0 in
    (few.0, few.1, both.1)
