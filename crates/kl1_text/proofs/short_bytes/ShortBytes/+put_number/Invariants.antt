use Rattle.kl1_text.proofs.short_bytes.ShortBytes.+put_number.Given as goal

abbrev pub decreases-put_number : goal.decreases-put_number
decreases-put_number l = l.count
