use Rattle.id_tree.proofs.Runs.{Reads}
use Rattle.id_tree.proofs.reading.first_fault.read.Given as goal

abbrev pub invariant-loop-byte : goal.invariant-loop-byte
invariant-loop-byte l = Reads l.halves.items l.last l.byte-index l.bytes
