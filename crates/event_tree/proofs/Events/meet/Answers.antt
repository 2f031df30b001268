use Rattle.std.proofs.Common.{◌≡◌, rules}
use Rattle.event_tree.specs.working.Walks.{combined_from}
use Rattle.event_tree.specs.declared.joins.Pick.TheVariants.{Lesser}
use Rattle.event_tree.proofs.Picks.{meet_is_pointwise, IsEvents_combined}
use Rattle.event_tree.proofs.Events.meet.Goals as goal

pub invariant_of-result : goal.invariant_of-result
invariant_of-result c =
    let is : c.in_ok-node.node ≡ combined_from Lesser 0 c.self.inside.node 0 c.other.inside.node = search rules in
    rw is (IsEvents_combined Lesser _ _ c.self.invariant c.other.invariant)

pub returns : goal.returns
returns c =
    let is : c.in_ok-node.node ≡ combined_from Lesser 0 c.args.self.now 0 c.args.other.now = search rules in
    rw is (meet_is_pointwise c.args.self.now c.args.other.now)
