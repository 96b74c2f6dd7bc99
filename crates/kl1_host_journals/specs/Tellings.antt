-- What was told to those who wait for the disk.
use Rattle.std.specs.Prelude.{Bool, false, Option, Some, None}
use Rattle.kl1_log.specs.declared.receipt.Receipt.{Receipt}
use Rattle.kl1_host_journals.specs.declared.written.Told.{Told}

-- the receipt
abbrev pub receipt_told : Told → Receipt
receipt_told t = t.receipt

-- whether no other will come
abbrev pub is_last : Told → Bool
is_last t = t.is_last

-- they were told that no other receipt will come
abbrev pub is_end : Option Told → Bool
is_end None = false
is_end (Some t) = t.is_last
