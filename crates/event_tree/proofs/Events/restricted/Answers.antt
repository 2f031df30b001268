use Rattle.std.proofs.Common.{◌≡◌, rules}
use Rattle.event_tree.specs.working.Walks.{restricted_from}
use Rattle.event_tree.proofs.Restrictions.{is_restricted, IsEvents_restricted}
use Rattle.event_tree.proofs.Events.restricted.Goals as goal

pub invariant_of-result : goal.invariant_of-result
invariant_of-result c =
    let is : c.in_ok-node.node ≡ restricted_from c.args.id.now 0 c.self.inside.node = search rules in
    rw is (IsEvents_restricted _ _ c.recall_facts.ensures.shallow c.self.invariant)

pub returns : goal.returns
returns c =
    let is : c.in_ok-node.node ≡ restricted_from c.args.id.now 0 c.args.self.now = search rules in
    rw is (is_restricted c.args.id.now c.args.self.now)
