use Rattle.std.proofs.Common.{◌≡◌, ◌++◌, ◌<◌, ◌≤◌, length}
use Rattle.std.specs.Fmt.{decimal}
use Rattle.event_tree.specs.NormalForm.{value_limit}
use Rattle.event_tree.proofs.reading.into_entries.take_number.Given as goal

abbrev pub invariant-loop-digit : goal.invariant-loop-digit
invariant-loop-digit l = (l.text ≡ decimal l.number ++ l.rest) × (0 < l.number) × (l.number ≤ value_limit)

abbrev pub decreases-loop-digit : goal.decreases-loop-digit
decreases-loop-digit l = length l.rest
