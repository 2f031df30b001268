use Rattle.std.proofs.Common.{◌≡◌, drop}
use Rattle.event_tree.specs.working.Reading.{run, start, state_shown}
use Rattle.event_tree.proofs.reading.first_fault.read.Given as goal

-- what is left leads from this state to where the whole leads
abbrev pub invariant-loop-byte : goal.invariant-loop-byte
invariant-loop-byte l = run (state_shown l.stack.items l.last) (drop l.byte-index l.bytes) ≡ run start l.bytes
