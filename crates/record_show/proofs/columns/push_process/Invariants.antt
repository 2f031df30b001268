use Rattle.std.proofs.Common.{◌≡◌, ◌++◌, take}
use Rattle.std.specs.List.{flat_map}
use Rattle.record_show.specs.Tables.{in_width, cell}
use Rattle.record_show.proofs.columns.push_process.Given as goal

abbrev pub invariant-loop-padded : goal.invariant-loop-padded
invariant-loop-padded l = l.out.items ≡ l.fn.out.items ++ flat_map (λ c. in_width c.width (cell l.process c.column)) (take l.padded-index l.columns)
