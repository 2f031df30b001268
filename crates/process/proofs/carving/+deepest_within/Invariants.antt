use Rattle.process.proofs.carving.+deepest_within.Given as goal

abbrev pub decreases-deepest_within : goal.decreases-deepest_within
decreases-deepest_within l = l.depth
