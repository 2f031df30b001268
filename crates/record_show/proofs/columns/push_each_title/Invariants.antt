use Rattle.std.proofs.Common.{◌≡◌, ◌++◌, take}
use Rattle.std.specs.List.{flat_map}
use Rattle.record_show.specs.Tables.{in_width, title}
use Rattle.record_show.proofs.columns.push_each_title.Given as goal

abbrev pub invariant-loop-padded : goal.invariant-loop-padded
invariant-loop-padded l = l.out.items ≡ l.fn.out.items ++ flat_map (λ c. in_width c.width (title c.column)) (take l.padded-index l.columns)
