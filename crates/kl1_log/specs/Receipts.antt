-- Which replies a receipt covers.
use Rattle.std.specs.Prelude.{◌≡◌, ◌≤◌, ℕ}
use Rattle.kl1_log.specs.declared.receipt.Receipt.{Receipt}
use Rattle.kl1_log.specs.declared.receipt.Unsent.{Unsent}

-- whose changes are on disk
abbrev pub account_of : Receipt → ℕ
account_of r = r.account

-- how many of them
abbrev pub changes_of : Receipt → ℕ
changes_of r = r.changes

module _ {T : Type 0} where
  -- for which changes a reply waits: those of this account, up to this number
  abbrev pub waits_for : Unsent T → ℕ × ℕ
  waits_for u = (u.account, u.changes)

  -- the reply
  abbrev pub reply_of : Unsent T → T
  reply_of u = u.reply

  -- all that a reply tells is on disk
  abbrev pub Covers : Receipt → Unsent T → Type 0
  Covers r u = (u.account ≡ r.account) × (u.changes ≤ r.changes)
