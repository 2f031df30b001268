-- `add_passes`: the passes so far, and how many clients were dropped.
use Rattle.std.specs.Prelude.{◌≡◌, ◌+◌, ◌++◌, map}
use Rattle.recline.specs.Serving.{AreServed, dropped_in}
use Rattle.recline.proofs.serving.add_passes.Given as goal

abbrev pub invariant-loop-session : goal.invariant-loop-session
invariant-loop-session g l =
    AreServed g.D.Disk.keeps g.D.Disk.view g.K.Link.told l.passes.items l.dropped ×
    (l.passes.items ≡ l.initial.passes.items ++ map (λ s. s.pass) l.yielded) ×
    (l.dropped ≡ l.initial.dropped + dropped_in (map (λ s. s.end.kind) l.yielded)) ×
    (goal.iterator-loop-session g).can_next l.session-iterator ×
    (goal.iterator-loop-session g).is_finite l.session-iterator
