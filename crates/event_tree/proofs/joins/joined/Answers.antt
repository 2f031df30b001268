use Rattle.std.proofs.Common.{◌≡◌}
use Rattle.event_tree.specs.working.Walks.{combined_from}
use Rattle.event_tree.specs.declared.joins.Pick.TheVariants.{Greater}
use Rattle.event_tree.proofs.Picks.{joined_beside, joined_behind}
use Rattle.event_tree.proofs.joins.joined.Goals as goal

pub returns-then-is_leaf_below : goal.returns-then-is_leaf_below
returns-then-is_leaf_below c =
    let low = c.is_leaf_below.ensures c.if-is_leaf_below.true in
    let same : combined_from Greater 0 c.args.e 0 c.args.f ≡ c.args.f = joined_beside c.args.e c.args.f low.0 low.1 c.requires.f_normal in
    rw same c.copied.ensures

pub returns-then-is_leaf_below-2 : goal.returns-then-is_leaf_below-2
returns-then-is_leaf_below-2 c =
    let low = c.is_leaf_below-2.ensures c.if-is_leaf_below-2.true in
    let same : combined_from Greater 0 c.args.e 0 c.args.f ≡ c.args.e = joined_behind c.args.e c.args.f low.0 low.1 c.requires.e_normal in
    rw same c.copied-then-is_leaf_below-2.ensures
