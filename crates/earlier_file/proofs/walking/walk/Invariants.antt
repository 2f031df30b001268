use Rattle.std.proofs.Common.{◌≤◌, ◌-◌}
use Rattle.earlier_file.specs.working.Walks.{IsWalked}
use Rattle.earlier_file.proofs.walking.walk.Given as goal

abbrev pub invariant-loop-count : goal.invariant-loop-count
invariant-loop-count l = record {
  few : l.count ≤ l.most;
  walked : IsWalked l.version l.count l.at l.bytes;
}

abbrev pub decreases-loop-count : goal.decreases-loop-count
decreases-loop-count l = l.most - l.count
