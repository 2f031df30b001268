-- `passes_of`: those of one worker more.
use Rattle.std.specs.Prelude.{map}
use Rattle.recline.proofs.Passes.{list_counted, list_taken}
use Rattle.recline.proofs.serving.passes_of.Goals as goal

pub loop-served-preserved : goal.loop-served-preserved
loop-served-preserved g c =
    let before = c.loop-served in
    let added = c.in-Ok.ensures in (
      added.served,
      list_taken (λ q. map (λ s. s.pass) q.items) before.yielded c.in-Some.served before.passes.items c.add_passes.new.passes.items before.invariant.1 added.passes,
      list_counted (λ q. map (λ s. s.end.kind) q.items) before.yielded c.in-Some.served before.dropped c.add_passes.new.dropped before.invariant.2 added.dropped,
      tt,
      tt,
    )
