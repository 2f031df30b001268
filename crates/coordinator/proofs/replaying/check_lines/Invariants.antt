use Rattle.chains.specs.Held.{held_of}
use Rattle.coordinator.specs.working.Checks.{AreCheckedTo, AreRight}
use Rattle.coordinator.proofs.Checked.{IsReplayed}
use Rattle.coordinator.proofs.replaying.check_lines.Given as goal

abbrev pub invariant-loop-i : goal.invariant-loop-i
invariant-loop-i g l = IsReplayed (held_of l.opening) l.turns l.chains l.i × AreCheckedTo (held_of l.opening) l.turns l.passes l.owners l.i × AreRight l.passes (held_of l.chains) l.found.items
