-- The text of an image: its lines, and the image that a text is.
use Rattle.std.specs.Prelude.{ℕ, zero, suc, ◌+◌, ◌==◌, nat_le, nat_lt, not, ◌&&◌, ◌||◌, Bool, true, false, if◌then◌else◌, ℤ, pos, neg_ℤ, List, [], ◌∷◌, ◌++◌, length, take, drop, map, codes, bytes_eq, decimal, Option, Some, None, option_map, option_and_then}
use Rattle.std.specs.Fmt.{signed_decimal}
use Rattle.std.specs.List.{list_all}
use Rattle.kl1_model.specs.declared.life.Life.{Life}
use Rattle.kl1_model.specs.declared.rules.Rules.{Rules}
use Rattle.kl1_model.specs.declared.life.Life.TheVariants.{Living, Terminated, Aborted, Forgotten}
use Rattle.kl1_model.specs.declared.limits.TheConstants.{MOST_DIGITS, NUMBER_LIMIT}
use Rattle.kl1_model.specs.Token.{is_digit, number_of}
use Rattle.kl1_model.specs.Line.{before_space, behind_space, number_in}
use Rattle.kl1_model.specs.State.{State}
use Rattle.kl1_model_server.specs.TextParts.{hex_text, hex_bytes, is_hex_digit, name_line, name_in, version, rules_of, exactly, lines_of, written_lines}
use Rattle.kl1_model_server.specs.Image.{Cell, variable, integer, word, back, Shape, Work, hears, does, calls, waits, Goal, Origin, Shoen, Counts, Image, each, both, if_there, state_in}

-- ---- the lines of an image

-- a cell as it is written
abbrev pub cell_text : Cell → List ℕ
cell_text (variable v) = codes "_" ++ decimal v
cell_text (integer i) = signed_decimal i
cell_text (word k) = codes "=" ++ decimal k
cell_text (back k) = codes "^" ++ decimal k

-- words, each after a space
abbrev pub spaced : List (List ℕ) → List ℕ
spaced [] = []
spaced (w ∷ ws) = codes " " ++ w ++ spaced ws

-- a word, and others after it, each after a space
abbrev pub line_of : List ℕ → List (List ℕ) → List ℕ
line_of w ws = w ++ spaced ws

-- the line of a structure
abbrev pub shape_line : Shape → List ℕ
shape_line s = line_of (decimal s.name) (map cell_text s.arguments)

-- the word of a life
abbrev pub life_word : Life → List ℕ
life_word Living = codes "living"
life_word Terminated = codes "terminated"
life_word Aborted = codes "aborted"
life_word Forgotten = codes "forgotten"

-- the word of whether something holds
abbrev pub flag_word : Bool → List ℕ
flag_word true = codes "1"
flag_word false = codes "0"

-- what the console keeps, as words
abbrev pub origin_words : Option Origin → List (List ℕ)
origin_words None = []
origin_words (Some o) = cell_text o.goal ∷ decimal o.forgotten ∷ cell_text o.reports ∷ cell_text o.control ∷ []

-- the line of a shoen
abbrev pub shoen_line : Shoen → List ℕ
shoen_line h =
    line_of (codes "shoen") (decimal h.parent ∷ life_word h.life ∷ flag_word h.is_stopped ∷ flag_word h.is_broken ∷ decimal h.allowance ∷ decimal h.low ∷ decimal h.high ∷ decimal h.worked ∷ cell_text h.control ∷ cell_text h.tail ∷ origin_words h.origin)

-- the first word of a goal's line, and its last words
abbrev pub work_word : Work → List ℕ
work_word hears = codes "monitor"
work_word (does x) = codes "goal"
work_word (calls m x) = codes "goal"
work_word (waits x) = codes "substitute"

abbrev pub work_words : Work → List (List ℕ)
work_words hears = []
work_words (does x) = cell_text x ∷ []
work_words (calls m x) = cell_text m ∷ cell_text x ∷ []
work_words (waits x) = cell_text x ∷ []

-- the line of a goal
abbrev pub goal_line : Goal → List ℕ
goal_line g = line_of (work_word g.work) (decimal g.number ∷ decimal g.shoen ∷ decimal g.priority ∷ work_words g.work)

-- the line of a module's source
abbrev pub source_line : List ℕ → List ℕ
source_line source = codes "load " ++ hex_text source

-- the first line of an image: its version, which is that of its rules, and how many of each follow
abbrev pub heading_line : Image → List ℕ
heading_line i =
    line_of (codes "image") (version i.rules ∷ map decimal (i.names ∷ length i.words ∷ length i.sources ∷ length i.shapes ∷ length i.shoens ∷ length i.goals ∷ []))

-- the second line: what is counted
abbrev pub counts_line : Counts → List ℕ
counts_line c = line_of (codes "counts") (map decimal (c.last_variable ∷ c.last_goal ∷ c.variables ∷ c.nodes ∷ c.reports ∷ c.entries ∷ c.run ∷ []))

-- the lines of an image
abbrev pub image_lines : Image → List (List ℕ)
image_lines i =
    heading_line i ∷ counts_line i.counts ∷ (map name_line i.words ++ (map source_line i.sources ++ (map shape_line i.shapes ++ (map shoen_line i.shoens ++ map goal_line i.goals))))

-- the text of an image
abbrev pub image_text : Image → List ℕ
image_text i = written_lines (image_lines i)

-- ---- the image that a text is

-- words with one byte more in front of the first
abbrev pub onto : ℕ → List (List ℕ) → List (List ℕ)
onto b [] = (b ∷ []) ∷ []
onto b (w ∷ ws) = (b ∷ w) ∷ ws

-- the words of a line, which single spaces part
abbrev pub parts_of : List ℕ → List (List ℕ)
parts_of [] = [] ∷ []
parts_of (b ∷ bs) = elim (b == 32) [ true ↦ [] ∷ parts_of bs | false ↦ onto b (parts_of bs) ]

-- the number that digits are, if it is at most 2 ^ 63: the least integer is - 2 ^ 63
abbrev pub size_in : List ℕ → Option ℕ
size_in w =
    if nat_le 1 (length w) && nat_le (length w) MOST_DIGITS && list_all is_digit w && nat_le (number_of w) NUMBER_LIMIT
    then Some (number_of w)
    else None

-- the cell that a word may be, by its first byte and what is after that
abbrev pub cell_by : List ℕ → Option Cell
cell_by [] = None
cell_by (b ∷ bs) =
    if b == 95 then option_map variable (number_in bs)
    else if b == 61 then option_map word (number_in bs)
    else if b == 94 then option_map back (number_in bs)
    else if b == 45 then option_map (λ n. integer (neg_ℤ (pos n))) (size_in bs)
    else option_map (λ n. integer (pos n)) (number_in (b ∷ bs))

-- the shape that a line may be, by its words
abbrev pub shape_by : List (List ℕ) → Option Shape
shape_by [] = None
shape_by (w ∷ ws) = both (λ name arguments. record { name = name; arguments = arguments }) (number_in w) (each cell_by ws)

-- the structure whose line this is, if there is one with 1 to 8 arguments
abbrev pub shape_in : List ℕ → Option Shape
shape_in line =
    option_and_then
    (λ s. if nat_le 1 (length s.arguments) && nat_le (length s.arguments) 8 then Some s else None)
    (exactly shape_line (λ l. shape_by (parts_of l)) line)

-- the life of a word
abbrev pub life_in : List ℕ → Option Life
life_in w =
    if bytes_eq w (codes "living") then Some Living
    else if bytes_eq w (codes "terminated") then Some Terminated
    else if bytes_eq w (codes "aborted") then Some Aborted
    else if bytes_eq w (codes "forgotten") then Some Forgotten
    else None

-- what a word says of whether something holds
abbrev pub flag_in : List ℕ → Option Bool
flag_in w = if bytes_eq w (codes "1") then Some true else if bytes_eq w (codes "0") then Some false else None

-- what the console keeps, by words
abbrev pub origin_by : List (List ℕ) → Option (Option Origin)
origin_by [] = Some None
origin_by (g ∷ f ∷ r ∷ c ∷ []) =
    option_and_then
    (λ goal. option_and_then
    (λ forgotten. both (λ reports control. Some (record { goal = goal; forgotten = forgotten; reports = reports; control = control })) (cell_by r) (cell_by c))
    (number_in f))
    (cell_by g)
origin_by _ = None

-- the shoen that a line may be, by its words
abbrev pub shoen_by : List (List ℕ) → Option Shoen
shoen_by (first ∷ p ∷ l ∷ s ∷ b ∷ a ∷ lo ∷ hi ∷ w ∷ c ∷ t ∷ rest) =
    option_and_then
    (λ parent. option_and_then
    (λ life. option_and_then
    (λ stopped. option_and_then
    (λ broken. option_and_then
    (λ allowance. option_and_then
    (λ low. option_and_then
    (λ high. option_and_then
    (λ worked. option_and_then
    (λ control. both
    (λ tail origin. record { parent = parent; life = life; is_stopped = stopped; is_broken = broken; allowance = allowance; low = low; high = high; worked = worked; control = control; tail = tail; origin = origin })
    (cell_by t)
    (origin_by rest))
    (cell_by c))
    (number_in w))
    (number_in hi))
    (number_in lo))
    (number_in a))
    (flag_in b))
    (flag_in s))
    (life_in l))
    (number_in p)
shoen_by _ = None

-- the shoen whose line this is, if there is one
abbrev pub shoen_line_in : List ℕ → Option Shoen
shoen_line_in line = exactly shoen_line (λ l. shoen_by (parts_of l)) line

-- what a goal does, by the first word of its line and the last ones
abbrev pub work_by : List ℕ → List (List ℕ) → Option Work
work_by w [] = if bytes_eq w (codes "monitor") then Some hears else None
work_by w (x ∷ []) =
    if bytes_eq w (codes "goal") then option_map does (cell_by x)
    else if bytes_eq w (codes "substitute") then option_map waits (cell_by x)
    else None
work_by w (m ∷ x ∷ []) = if bytes_eq w (codes "goal") then both calls (cell_by m) (cell_by x) else None
work_by w _ = None

-- the goal that a line may be, by its words
abbrev pub goal_by : List (List ℕ) → Option Goal
goal_by (w ∷ n ∷ s ∷ p ∷ rest) =
    option_and_then
    (λ number. option_and_then
    (λ shoen. both (λ priority work. record { number = number; shoen = shoen; priority = priority; work = work }) (number_in p) (work_by w rest))
    (number_in s))
    (number_in n)
goal_by _ = None

-- the goal whose line this is, if there is one
abbrev pub goal_line_in : List ℕ → Option Goal
goal_line_in line = exactly goal_line (λ l. goal_by (parts_of l)) line

-- the source that a line may be of
abbrev pub source_by : List ℕ → Option (List ℕ)
source_by line = if list_all is_hex_digit (behind_space line) then Some (hex_bytes (behind_space line)) else None

-- the source whose line this is, if there is one
abbrev pub source_line_in : List ℕ → Option (List ℕ)
source_line_in line = exactly source_line source_by line

-- what is counted, by numbers
abbrev pub counts_by : List ℕ → Option Counts
counts_by (v ∷ g ∷ vs ∷ ns ∷ rs ∷ es ∷ r ∷ []) =
    Some (record { last_variable = v; last_goal = g; variables = vs; nodes = ns; reports = rs; entries = es; run = r })
counts_by _ = None

-- what is counted by a line, if that is its line
abbrev pub counts_in : List ℕ → Option Counts
counts_in line = exactly counts_line (λ l. option_and_then counts_by (each number_in (drop 1 (parts_of l)))) line

-- the rules and the numbers that the first line has, by its words
abbrev pub heading_by : List (List ℕ) → Option (Rules × List ℕ)
heading_by (w ∷ v ∷ ns) = both (λ rules numbers. (rules, numbers)) (rules_of v) (each number_in ns)
heading_by _ = None

-- what the first `n` lines are read as, and the lines after them
abbrev pub section : {A : Type 0} → (List ℕ → Option A) → ℕ → List (List ℕ) → Option (List A × List (List ℕ))
section read zero lines = Some ([], lines)
section read (suc n) [] = None
section read (suc n) (line ∷ lines) = option_and_then (λ a. option_map (λ r. (a ∷ r.0, r.1)) (section read n lines)) (read line)

-- the image of these parts, if no line is left
abbrev pub image_from : Rules → ℕ → Counts → List (List ℕ) → List (List ℕ) → List Shape → List Shoen → List Goal × List (List ℕ) → Option Image
image_from rules names c ws so sh hs gs =
    if length gs.1 == 0 then Some (record { rules = rules; counts = c; names = names; words = ws; sources = so; shapes = sh; shoens = hs; goals = gs.0 }) else None

-- the image that lines after the first are, which has these rules and these numbers
abbrev pub image_by : Rules → List ℕ → List (List ℕ) → Option Image
image_by rules (names ∷ words ∷ sources ∷ shapes ∷ shoens ∷ goals ∷ []) (counts ∷ lines) =
    option_and_then
    (λ c. option_and_then
    (λ ws. option_and_then
    (λ so. option_and_then
    (λ sh. option_and_then
    (λ hs. option_and_then (image_from rules names c ws.0 so.0 sh.0 hs.0) (section goal_line_in goals hs.1))
    (section shoen_line_in shoens sh.1))
    (section shape_in shapes so.1))
    (section source_line_in sources ws.1))
    (section name_in words lines))
    (counts_in counts)
image_by rules _ _ = None

-- an image, if its first line is this
abbrev pub if_first : List ℕ → Image → Option Image
if_first first i = if bytes_eq (heading_line i) first then Some i else None

-- the image whose lines these are, if there is one
abbrev pub image_of : List (List ℕ) → Option Image
image_of [] = None
image_of (first ∷ lines) =
    option_and_then (if_first first) (option_and_then (λ h. image_by h.0 h.1 lines) (heading_by (parts_of first)))

-- the image that a text is, if it is one: each line ends with a line feed
abbrev pub image_in : List ℕ → Option Image
image_in text = if length (lines_of text).rest == 0 then image_of (lines_of text).whole else None

-- the state of the account of this name whose image a text is, if it is one
abbrev pub state_of_text : List ℕ → List ℕ → Option State
state_of_text own_name text = option_and_then (state_in own_name) (image_in text)
