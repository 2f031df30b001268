use Rattle.process.proofs.carving.+is_leaf_at.Given as goal

abbrev pub decreases-is_leaf_at : goal.decreases-is_leaf_at
decreases-is_leaf_at l = l.depth
