use Rattle.std.proofs.Common.{◌≡◌}
use Rattle.event_tree.specs.working.Pieces.{closing, turned, IsPutBut}
use Rattle.event_tree.proofs.writing.put_closing.Given as goal

abbrev pub invariant-loop-left : goal.invariant-loop-left
invariant-loop-left l = record {
  put : IsPutBut l.initial.out l.out l.at l.next (closing l.halves) (closing l.left);
  turned : turned l.left ≡ turned l.halves;
}

abbrev pub decreases-loop-left : goal.decreases-loop-left
decreases-loop-left l = l.left
