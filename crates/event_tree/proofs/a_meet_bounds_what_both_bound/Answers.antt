use Rattle.event_tree.proofs.Bounds.{below_meet, exceeds_meet, below_both}
use Rattle.event_tree.proofs.a_meet_bounds_what_both_bound.Goals as goal

pub returns : goal.returns
returns c = record { below = below_meet; exceeding = exceeds_meet; restricted = below_both }
