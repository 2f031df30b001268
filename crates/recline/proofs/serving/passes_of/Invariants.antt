-- `passes_of`: the passes so far, and how many clients were dropped.
use Rattle.std.specs.Prelude.{◌≡◌, map}
use Rattle.std.specs.List.{flat_map}
use Rattle.recline.specs.Serving.{AreServed, dropped_in}
use Rattle.recline.proofs.serving.passes_of.Given as goal

abbrev pub invariant-loop-served : goal.invariant-loop-served
invariant-loop-served g l =
    AreServed g.D.Disk.keeps g.D.Disk.view g.K.Link.told l.passes.items l.dropped ×
    (l.passes.items ≡ flat_map (λ q. map (λ s. s.pass) q.items) l.yielded) ×
    (l.dropped ≡ dropped_in (flat_map (λ q. map (λ s. s.end.kind) q.items) l.yielded)) ×
    (goal.iterator-loop-served g).can_next l.served-iterator ×
    (goal.iterator-loop-served g).is_finite l.served-iterator
