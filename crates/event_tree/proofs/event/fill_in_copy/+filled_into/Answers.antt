use Rattle.std.proofs.Common.{arith}
use Rattle.event_tree.proofs.Preorder.{some_size}
use Rattle.event_tree.proofs.Places.{if_ok}
use Rattle.event_tree.proofs.Filling.{are_made, ended_at, made_leaf, made_whole}
use Rattle.event_tree.proofs.event.fill_in_copy.+filled_into.Goals as goal

pub put_leaf-requires : goal.put_leaf-requires
put_leaf-requires t c = omega (arith, c.requires.room, some_size c.args.e.now)

pub returns-in-Leaf : goal.returns-in-Leaf
returns-in-Leaf t c = rw c.in-Leaf.ensures (made_leaf _ _ _ _ _ _ c.put_leaf.ensures.written c.put_leaf.ensures.next)

pub returns-in-Everything : goal.returns-in-Everything
returns-in-Everything t c = rw c.in-Everything.ensures (made_whole _ _ _ _ _ _ c.greatest.ensures c.put_leaf-in-Everything.ensures.written c.put_leaf-in-Everything.ensures.next)

pub close_filled-requires : goal.close_filled-requires
close_filled-requires t c =
    are_made _ _ _ _ _ _ _ c.in-Halves.l c.in-Halves.r c.in-Node.a c.in-Node.b (rw c.in-Halves.ensures at c.requires.normal) (rw c.in-Node.ensures at c.requires.tree_normal) (rw c.in-Node.ensures at c.requires.fits) (rw c.in-Node.ensures at c.requires.room)
    (ended_at _ _ _ _ _ _ _ c.end_of.ensures.stop c.end_of.ensures.whole c.in_ok-middle-in-Halves.ensures)
    (rw c.end_of.ensures.stop (ended_at _ _ _ _ _ _ _ c.end_of-in-Halves.ensures.stop c.end_of-in-Halves.ensures.whole c.in_ok-stop-in-Halves.ensures))

pub returns-in_ok-stop-in-Halves : goal.returns-in_ok-stop-in-Halves
returns-in_ok-stop-in-Halves t c =
    let made =
    are_made _ _ _ _ _ _ _ c.in-Halves.l c.in-Halves.r c.in-Node.a c.in-Node.b (rw c.in-Halves.ensures at c.requires.normal) (rw c.in-Node.ensures at c.requires.tree_normal) (rw c.in-Node.ensures at c.requires.fits) (rw c.in-Node.ensures at c.requires.room)
    (ended_at _ _ _ _ _ _ _ c.end_of.ensures.stop c.end_of.ensures.whole c.in_ok-middle-in-Halves.ensures)
    (rw c.end_of.ensures.stop (ended_at _ _ _ _ _ _ _ c.end_of-in-Halves.ensures.stop c.end_of-in-Halves.ensures.whole c.in_ok-stop-in-Halves.ensures)) in
    rw (c.in-Halves.ensures, c.in-Node.ensures) (if_ok c.close_filled.result (λ end is. is made) c.close_filled.ensures)
