-- `add_passes`: the passes so far are clients'.
use Rattle.recline.specs.Lasting.{ArePassesOfGuests}
use Rattle.recline.proofs.generation.add_passes.Given as goal

abbrev pub invariant-loop-one : goal.invariant-loop-one
invariant-loop-one g l =
    ArePassesOfGuests g.D.Disk.keeps g.D.Disk.view g.K.Link.told l.passes.items × (goal.iterator-loop-one g).can_next l.one-iterator × (goal.iterator-loop-one g).is_finite l.one-iterator
