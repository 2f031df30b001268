use Rattle.std.proofs.Common.{drop}
use Rattle.event_tree.specs.working.Pieces.{pieces, AreKept, IsPutBut}
use Rattle.event_tree.proofs.writing.put_pieces.Given as goal

abbrev pub invariant-loop-entry : goal.invariant-loop-entry
invariant-loop-entry l = record {
  put : IsPutBut l.fn.out l.out l.start l.at (pieces 0 l.entries) (pieces l.halves (drop l.entry-index l.entries));
  kept : AreKept l.halves (drop l.entry-index l.entries);
}
