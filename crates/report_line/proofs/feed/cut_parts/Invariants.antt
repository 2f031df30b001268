use Rattle.std.proofs.Common.{◌≡◌, ◌≤◌, ◌-◌, drop, map, length}
use Rattle.report_line.specs.Cutting.{onto, cut_of}
use Rattle.report_line.specs.working.Parts.{part_of, ArePartsOf}
use Rattle.report_line.proofs.feed.cut_parts.Given as goal

abbrev pub invariant-loop-line : goal.invariant-loop-line
invariant-loop-line l = record {
  cut : cut_of l.bytes ≡ onto (map (part_of l.bytes) l.parts.items) (cut_of (drop l.at l.bytes));
  parts : ArePartsOf l.bytes l.parts.items;
  within : l.at ≤ length l.bytes;
}

abbrev pub decreases-loop-line : goal.decreases-loop-line
decreases-loop-line l = length l.bytes - l.at
