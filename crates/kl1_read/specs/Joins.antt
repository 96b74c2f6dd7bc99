-- What follows a primary in its expression, and an expression in what was opened.
use Rattle.std.specs.Prelude.{◌≡◌, ℕ, ◌<◌, ◌≤◌, List, length, None, map}
use Rattle.kl1_model.specs.Term.{Term}
use Rattle.kl1_model.specs.Grammar as grammar
use Rattle.kl1_model.specs.reader.Reader.{Answer}
use Rattle.kl1_read.specs.declared.joined.Joined.{Joined}
use Rattle.kl1_read.specs.declared.joined.Joined.TheVariants as joined
use Rattle.kl1_read.specs.declared.closed.Closed.{Closed}
use Rattle.kl1_read.specs.declared.closed.Closed.TheVariants as closed
use Rattle.kl1_read.specs.declared.left.Left.{Left}
use Rattle.kl1_read.specs.declared.opened.Opened.{Opened}
use Rattle.kl1_read.specs.Views.{numbered_token}
use Rattle.kl1_read.specs.Waits.{no_left}
use Rattle.kl1_read.specs.Meanings.{Going, Dooms, fit, open_then, primary_then, after_primary, after_opened}

-- goes on after a primary that was joined with what stands to its left
abbrev pub joined_then : Left → Joined → Going → Answer (List Term)
joined_then left joined.Bad k = None
joined_then left (joined.More rest) k = primary_then left k (map numbered_token rest.now)
joined_then left (joined.Whole p rest) k = k p (map numbered_token rest.now)

-- going on after the join is going on after the primary
abbrev pub Joins : Left → Term → List grammar.Numbered → Left → Joined → Type 0
Joins left p ts now j = (k : Going) → Dooms k → fit (joined_then now j k) ≡ fit (after_primary left k p ts)

-- nothing stands to the left of a whole expression
abbrev pub LeavesNone : Left → Joined → Type 0
LeavesNone now joined.Bad = Unit {0}
LeavesNone now (joined.More rest) = Unit {0}
LeavesNone now (joined.Whole p rest) = now ≡ no_left

-- more tokens are read, or none
abbrev pub JoinedLess : ℕ → Joined → Type 0
JoinedLess n joined.Bad = Unit {0}
JoinedLess n (joined.More rest) = length rest.now < n
JoinedLess n (joined.Whole p rest) = length rest.now ≤ n

-- goes on after an expression in what was opened
abbrev pub closed_then : Closed → Going → Answer (List Term)
closed_then closed.Bad k = None
closed_then (closed.More opened rest) k = open_then opened k (map numbered_token rest.now)
closed_then (closed.Whole p rest) k = k p (map numbered_token rest.now)

-- going on after what is closed, or still open, is going on after the expression
abbrev pub Closes : Opened → Term → List grammar.Numbered → Closed → Type 0
Closes opened e ts c = (k : Going) → Dooms k → fit (closed_then c k) ≡ fit (after_opened opened k e ts)

-- fewer tokens than this are left, or what was opened is bad
abbrev pub ClosedLess : ℕ → Closed → Type 0
ClosedLess n closed.Bad = Unit {0}
ClosedLess n (closed.More opened rest) = length rest.now < n
ClosedLess n (closed.Whole p rest) = length rest.now < n
