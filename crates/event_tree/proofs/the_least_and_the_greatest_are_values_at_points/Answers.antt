use Rattle.event_tree.proofs.Trees.{some_greatest, greatest_ge, some_least, least_le}
use Rattle.event_tree.proofs.the_least_and_the_greatest_are_values_at_points.Goals as goal

pub returns : goal.returns
returns c = record { some_greatest = some_greatest; none_above = greatest_ge; some_least = some_least; none_below = least_le }
