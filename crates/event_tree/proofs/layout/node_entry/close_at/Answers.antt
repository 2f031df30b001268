use Rattle.std.proofs.Common.{arith}
use Rattle.std.proofs.lemmas.Bool.{both_ways}
use Rattle.event_tree.proofs.Closed.{one_fits}
use Rattle.event_tree.proofs.Places.{read_within, places_within, leaf_closed, put_closed}
use Rattle.event_tree.proofs.layout.node_entry.close_at.Goals as goal

pub look_in-left-requires : goal.look_in-left-requires
look_in-left-requires c = omega (arith, places_within _ _ _ _ _ c.requires.ends c.requires.within, c.requires.within)

pub look_in-right-requires : goal.look_in-right-requires
look_in-right-requires c = omega (arith, places_within _ _ _ _ _ c.requires.ends c.requires.within, c.requires.within)

pub overflow_add-n : goal.overflow_add-n
overflow_add-n c =
    let r = read_within _ _ _ _ _ _ _ c.requires.ends c.requires.within c.look_in-left.ensures c.look_in-right.ensures in
    omega (arith, one_fits _ _ _ _ _ _ c.requires.ends r)

pub put_leaf-requires : goal.put_leaf-requires
put_leaf-requires c = omega (arith, places_within _ _ _ _ _ c.requires.ends c.requires.within, c.requires.within)

pub returns-then-are_equal_leaves-clause-closed : goal.returns-then-are_equal_leaves-clause-closed
returns-then-are_equal_leaves-clause-closed c = λ front e a b h m are.
    let r = read_within _ _ _ _ _ _ _ c.requires.ends c.requires.within c.look_in-left.ensures c.look_in-right.ensures in
    let places = places_within _ _ _ _ _ c.requires.ends c.requires.within in
    leaf_closed c.args.out.now c.put_leaf.new.out front e c.look_in-left.result c.look_in-right.result a b c.args.n c.args.start c.args.middle c.args.stop c.put_leaf.result
    (record { begins = h; halved = m; are = are }) r (c.are_equal_leaves.ensures.0 c.if-are_equal_leaves.true) (omega (arith, places)) c.put_leaf.ensures.next c.put_leaf.ensures.written

pub size_between-requires : goal.size_between-requires
size_between-requires c = omega (arith, places_within _ _ _ _ _ c.requires.ends c.requires.within)

pub overflow_add-n-2 : goal.overflow_add-n-2
overflow_add-n-2 c =
    let r = read_within _ _ _ _ _ _ _ c.requires.ends c.requires.within c.look_in-left.ensures c.look_in-right.ensures in
    omega (arith, one_fits _ _ _ _ _ _ c.requires.ends r, c.min-k.ensures)

pub put_node-requires-clause-begins : goal.put_node-requires-clause-begins
put_node-requires-clause-begins c = omega (arith, places_within _ _ _ _ _ c.requires.ends c.requires.within, c.requires.within)

pub put_node-requires-clause-within : goal.put_node-requires-clause-within
put_node-requires-clause-within c = omega (arith, places_within _ _ _ _ _ c.requires.ends c.requires.within, c.requires.within)

pub returns-clause-closed : goal.returns-clause-closed
returns-clause-closed c = λ front e a b h m are.
    let r = read_within _ _ _ _ _ _ _ c.requires.ends c.requires.within c.look_in-left.ensures c.look_in-right.ensures in
    let places = places_within _ _ _ _ _ c.requires.ends c.requires.within in
    put_closed c.args.out.now _ front e c.look_in-left.result c.look_in-right.result a b c.args.n c.min-k.result c.in_ok-size.size c.args.start c.args.middle c.args.stop
    (record { begins = h; halved = m; are = are }) r (λ t. both_ways _ c.if-are_equal_leaves.false (c.are_equal_leaves.ensures.1 t)) c.min-k.ensures c.requires.within (omega (arith, places)) (omega (arith, places)) c.in_ok-size.ensures c.put_node.ensures
