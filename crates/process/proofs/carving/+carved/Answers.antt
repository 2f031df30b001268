use Rattle.process.specs.Leaves.{IsLeafAt}
use Rattle.process.proofs.LeafWays.{from_itself}
use Rattle.process.proofs.carving.+carved.Goals as goal

pub returns-then-is_leaf_at : goal.returns-then-is_leaf_at
returns-then-is_leaf_at t c =
    let leaf : IsLeafAt c.args.depth c.in_ok-rest.part = rw c.view.ensures at (c.is_leaf_at.ensures.0 c.if-is_leaf_at.true) in
    record { split = c.in_ok-rest.ensures.split; leaf = leaf; deepest = c.in_ok-rest.ensures.deepest c.in_ok-rest.part (from_itself c.args.depth c.in_ok-rest.part leaf) }
