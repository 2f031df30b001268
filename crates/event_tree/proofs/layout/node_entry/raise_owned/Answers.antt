use Rattle.std.proofs.Common.{◌≢◌}
use Rattle.std.proofs.lemmas.Bool.{both_ways}
use Rattle.id_tree.specs.IdTree.{One}
use Rattle.event_tree.proofs.Places.{raised_at_left, raised_at_right}
use Rattle.event_tree.proofs.Closed.{raises_none}
use Rattle.event_tree.proofs.layout.node_entry.raise_owned.Goals as goal

pub returns-then-left_whole-clause-raised : goal.returns-then-left_whole-clause-raised
returns-then-left_whole-clause-raised c = λ l r front e a b stop first second h m inside within f are.
    raised_at_left c.args.out.now _ front e c.look_in-left.result c.look_in-right.result l r a b c.args.start c.args.middle stop c.max-value.result c.requires.begins inside within
    (record { begins = h; halved = m; are = are })
    c.look_in-left.ensures c.look_in-right.ensures f (first.0 c.if-left_whole.true) c.max-value.ensures c.put.ensures

pub returns-then-right_whole-clause-raised : goal.returns-then-right_whole-clause-raised
returns-then-right_whole-clause-raised c = λ l r front e a b stop first second h m inside within f are.
    let other_id : l ≢ One = λ one. both_ways _ c.if-left_whole.false (first.1 one) in
    raised_at_right c.args.out.now _ front e c.look_in-left.result c.look_in-right.result l r a b c.args.start c.args.middle stop c.max-value.result c.requires.begins inside within
    (record { begins = h; halved = m; are = are })
    c.look_in-left.ensures c.look_in-right.ensures f other_id (second.0 c.if-right_whole.true) c.max-value.ensures c.put-then-right_whole.ensures

pub returns-else-right_whole-clause-raised : goal.returns-else-right_whole-clause-raised
returns-else-right_whole-clause-raised c = λ l r front e a b stop first second h m inside within f are.
    let left_id : l ≢ One = λ one. both_ways _ c.if-left_whole.false (first.1 one) in
    let right_id : r ≢ One = λ one. both_ways _ c.if-right_whole.false (second.1 one) in
    raises_none _ front e l r a b left_id right_id are
