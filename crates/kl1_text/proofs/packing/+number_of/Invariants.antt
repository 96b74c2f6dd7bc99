use Rattle.kl1_text.proofs.packing.+number_of.Given as goal

abbrev pub decreases-number_of : goal.decreases-number_of
decreases-number_of l = l.count
