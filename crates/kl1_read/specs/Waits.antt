-- What waits for an expression.
use Rattle.std.specs.Prelude.{None}
use Rattle.kl1_read.specs.declared.opened.Opened.{Opened}
use Rattle.kl1_read.specs.declared.opened.Opened.TheVariants as opened
use Rattle.kl1_read.specs.declared.left.Left.{Left}
use Rattle.kl1_read.specs.declared.frame.Frame.{Frame}
use Rattle.kl1_read.specs.declared.frame.Frame.TheVariants.{Group, First, Behind}

-- nothing stands to the left
abbrev pub no_left : Left
no_left = record { relation = None; sum = None; product = None; colon = None }

-- what was opened
abbrev pub opened_of : Frame → Opened
opened_of Group = opened.Group
opened_of (First b) = b.value
opened_of (Behind b) = b.value.opened

-- what stands to its left
abbrev pub left_of : Frame → Left
left_of Group = no_left
left_of (First b) = no_left
left_of (Behind b) = b.value.left
