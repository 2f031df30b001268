-- `go_on_to_end`: behind the generations so far a desk was opened.
use Rattle.std.specs.Prelude.{◌≡◌, []}
use Rattle.recline.specs.Lasting.{IsNextDesk}
use Rattle.recline.proofs.lasting.go_on_to_end.Given as goal

abbrev pub invariant-loop : goal.invariant-loop
invariant-loop g l =
    (l.desk.turns ≡ []) ×
    ((first : _) → IsNextDesk g.D.Disk.keeps g.D.Disk.view g.K.Link.told first l.fn.desk → IsNextDesk g.D.Disk.keeps g.D.Disk.view g.K.Link.told first l.desk) ×
    (goal.iterator-loop g).can_next l.iterator' ×
    (goal.iterator-loop g).is_finite l.iterator'
