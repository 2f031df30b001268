use Rattle.event_tree.proofs.Bounds.{below_restricted, exceeds_restricted}
use Rattle.event_tree.proofs.a_restricted_tree_bounds_what_exceeds_nowhere.Goals as goal

pub returns : goal.returns
returns c = record { below = below_restricted; exceeding = exceeds_restricted }
