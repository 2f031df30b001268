use Rattle.process.specs.working.Leaves.{cells}
use Rattle.process.proofs.carving.+carved.Given as goal

abbrev pub decreases-carved : goal.decreases-carved
decreases-carved l = cells l.id.now l.depth
