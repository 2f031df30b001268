use Rattle.std.proofs.Common.{◌≡◌, ◌≤◌, ◌*◌, ◌+◌, take}
use Rattle.std.specs.List.{sum_by}
use Rattle.event_tree.proofs.Lengths.{digits_of}
use Rattle.event_tree.proofs.writing.text_length.Given as goal

abbrev pub invariant-loop-entry : goal.invariant-loop-entry
invariant-loop-entry l = record {
  counted : l.sum + l.entry-index ≡ sum_by digits_of (take l.entry-index l.entries);
  small : l.sum ≤ 9 * l.entry-index;
}
