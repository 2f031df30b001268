use Rattle.std.proofs.Common.{◌≡◌, subst}
use Rattle.event_tree.specs.EventTree.{EventTree}
use Rattle.event_tree.specs.Event.{PassesLimit}
use Rattle.stamp.proofs.Joined.{one_join}
use Rattle.stamp.proofs.stamp.Stamp.receive.Goals as goal

pub returns-in-Ok-copy-clause-full : goal.returns-in-Ok-copy-clause-full
returns-in-Ok-copy-clause-full c = λ joined is past.
    let found = c.in-Ok.joined in
    let same : joined ≡ found = one_join c.args.self.now.events c.args.came.now joined found is (record { join = c.in-Ok.ensures; normal = c.recall_facts.ensures.normal }) in
    c.in_ok-events-in-Ok.ensures.full (subst (λ (e : EventTree). PassesLimit c.args.self.now.id e) same past)
