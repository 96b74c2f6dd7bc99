use Rattle.std.proofs.Common.{length}
use Rattle.kl1_text.proofs.short_bytes.ShortBytes.+put_doubled.Given as goal

abbrev pub decreases-put_doubled : goal.decreases-put_doubled
decreases-put_doubled l = length l.bytes.now
