use Rattle.std.proofs.Common.{◌≡◌, ◌+◌, ap, arith}
use Rattle.event_tree.specs.EventTree.{Leaf}
use Rattle.event_tree.specs.NormalForm.{greatest}
use Rattle.event_tree.specs.Size.{size}
use Rattle.event_tree.specs.working.Walks.{clipped, combined_from}
use Rattle.event_tree.specs.declared.joins.Pick.TheVariants.{Greater}
use Rattle.event_tree.proofs.Picks.{combined_leaf, greatest_combined}
use Rattle.event_tree.proofs.Closed.{ends}
use Rattle.event_tree.proofs.Places.{written_both, node_written, if_ok}
use Rattle.event_tree.proofs.joins.by_place.+joined.Goals as goal

pub joined_in_halves-close_at-requires-clause-ends : goal.joined_in_halves-close_at-requires-clause-ends
joined_in_halves-close_at-requires-clause-ends t c =
    let x = c.args.x + c.in-Node.m in
    let y = c.args.y + c.in-Node-part.n in
    let p = Greater in
    ends _ _ _ (combined_from p x c.in-Node.a y c.in-Node-part.c) (combined_from p x c.in-Node.b y c.in-Node-part.d) _ _ 0
    (written_both c.args.out.now _ _ c.args.start _ _ _ _ (omega (arith, c.requires.room, ap size c.in-Node.ensures, ap size c.in-Node-part.ensures)) c.in_ok-middle-in-Node-part.ensures.written c.in_ok-stop-in-Node-part.ensures.written)
    (omega (arith, greatest_combined p x c.in-Node.a y c.in-Node-part.c, greatest_combined p x c.in-Node.b y c.in-Node-part.d, c.requires.e_fits, c.requires.f_fits, ap greatest c.in-Node.ensures, ap greatest c.in-Node-part.ensures))

pub joined_in_halves-returns-in-Leaf-part-clause-written : goal.joined_in_halves-returns-in-Leaf-part-clause-written
joined_in_halves-returns-in-Leaf-part-clause-written t c =
    let same : combined_from Greater c.args.x c.args.e c.args.y (Leaf c.in-Leaf-part.n) ≡ clipped Greater (c.args.y + c.in-Leaf-part.n) c.args.x c.args.e = combined_leaf Greater c.args.x c.args.e c.args.y c.in-Leaf-part.n in
    rw (c.in-Leaf-part.ensures, same) c.raised_into-in-Leaf-part.ensures.written

pub joined_in_halves-returns-in_ok-stop-in-Node-part-clause-written : goal.joined_in_halves-returns-in_ok-stop-in-Node-part-clause-written
joined_in_halves-returns-in_ok-stop-in-Node-part-clause-written t c =
    rw (c.in-Node.ensures, c.in-Node-part.ensures) (if_ok c.close_at.result (λ end is. is.0)
    (node_written c.close_at.result c.args.out.now _ _ _ c.args.start _ _ _ _ (omega (arith, c.requires.room, ap size c.in-Node.ensures, ap size c.in-Node-part.ensures)) c.in_ok-middle-in-Node-part.ensures.written c.in_ok-stop-in-Node-part.ensures.written c.close_at.ensures.as_long c.close_at.ensures.closed))

pub joined_in_halves-returns-in_ok-stop-in-Node-part-clause-next : goal.joined_in_halves-returns-in_ok-stop-in-Node-part-clause-next
joined_in_halves-returns-in_ok-stop-in-Node-part-clause-next t c =
    if_ok c.close_at.result (λ end is. omega (arith, is.1, c.in_ok-middle-in-Node-part.ensures.next, c.in_ok-stop-in-Node-part.ensures.next, ap size c.in-Node.ensures, ap size c.in-Node-part.ensures))
    (node_written c.close_at.result c.args.out.now _ _ _ c.args.start _ _ _ _ (omega (arith, c.requires.room, ap size c.in-Node.ensures, ap size c.in-Node-part.ensures)) c.in_ok-middle-in-Node-part.ensures.written c.in_ok-stop-in-Node-part.ensures.written c.close_at.ensures.as_long c.close_at.ensures.closed)
