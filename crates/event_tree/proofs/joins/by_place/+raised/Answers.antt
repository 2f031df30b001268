use Rattle.std.proofs.Common.{◌≡◌, ◌+◌, ap, arith}
use Rattle.event_tree.specs.NormalForm.{greatest}
use Rattle.event_tree.specs.Norm.{lifted}
use Rattle.event_tree.specs.Size.{size}
use Rattle.event_tree.specs.working.Walks.{clipped}
use Rattle.event_tree.specs.declared.joins.Pick.TheVariants.{Greater}
use Rattle.event_tree.proofs.Picks.{raised_low, greatest_clipped}
use Rattle.event_tree.proofs.Closed.{ends}
use Rattle.event_tree.proofs.Places.{written_both, node_written, if_ok}
use Rattle.event_tree.proofs.joins.by_place.+raised.Goals as goal

pub raised_in_halves-returns-then-k-y-clause-written : goal.raised_in_halves-returns-then-k-y-clause-written
raised_in_halves-returns-then-k-y-clause-written t c =
    let low : clipped Greater c.args.k c.args.y c.args.f ≡ lifted c.args.y c.args.f = raised_low c.args.k c.args.y c.args.f c.requires.normal (omega (arith, c.if-k-y.true, c.root.ensures)) in
    rw low c.put_lifted.ensures.written

pub raised_in_halves-close_at-requires-clause-ends : goal.raised_in_halves-close_at-requires-clause-ends
raised_in_halves-close_at-requires-clause-ends t c =
    let y = c.args.y + c.in-Node.n in
    ends _ _ _ (clipped Greater c.args.k y c.in-Node.c) (clipped Greater c.args.k y c.in-Node.d) _ _ 0
    (written_both c.args.out.now _ _ c.args.start _ _ _ _ (omega (arith, c.requires.room, ap size c.in-Node.ensures)) c.in_ok-middle-in-Node.ensures.written c.in_ok-stop-in-Node.ensures.written)
    (omega (arith, greatest_clipped Greater c.args.k y c.in-Node.c, greatest_clipped Greater c.args.k y c.in-Node.d, c.ranges.k.fits, c.requires.fits, ap greatest c.in-Node.ensures))

pub raised_in_halves-returns-in_ok-stop-in-Node-clause-written : goal.raised_in_halves-returns-in_ok-stop-in-Node-clause-written
raised_in_halves-returns-in_ok-stop-in-Node-clause-written t c =
    rw c.in-Node.ensures (if_ok c.close_at.result (λ end is. is.0)
    (node_written c.close_at.result c.args.out.now _ _ _ c.args.start _ _ _ _ (omega (arith, c.requires.room, ap size c.in-Node.ensures)) c.in_ok-middle-in-Node.ensures.written c.in_ok-stop-in-Node.ensures.written c.close_at.ensures.as_long c.close_at.ensures.closed))

pub raised_in_halves-returns-in_ok-stop-in-Node-clause-next : goal.raised_in_halves-returns-in_ok-stop-in-Node-clause-next
raised_in_halves-returns-in_ok-stop-in-Node-clause-next t c =
    if_ok c.close_at.result (λ end is. omega (arith, is.1, c.in_ok-middle-in-Node.ensures.next, c.in_ok-stop-in-Node.ensures.next, ap size c.in-Node.ensures))
    (node_written c.close_at.result c.args.out.now _ _ _ c.args.start _ _ _ _ (omega (arith, c.requires.room, ap size c.in-Node.ensures)) c.in_ok-middle-in-Node.ensures.written c.in_ok-stop-in-Node.ensures.written c.close_at.ensures.as_long c.close_at.ensures.closed)
