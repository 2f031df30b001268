use Rattle.std.proofs.Common.{◌≡◌, ◌+◌, ap, eq-eqb, arith}
use Rattle.event_tree.specs.EventTree.{Leaf}
use Rattle.event_tree.specs.NormalForm.{greatest}
use Rattle.event_tree.specs.Norm.{lifted}
use Rattle.event_tree.specs.working.Walks.{clipped}
use Rattle.event_tree.specs.declared.joins.Pick.TheVariants.{Lesser}
use Rattle.event_tree.proofs.Picks.{lowered_low, lowered_high, greatest_clipped}
use Rattle.event_tree.proofs.Closed.{written_halves, ends, closes_ok}
use Rattle.event_tree.proofs.joins.meet.+lowered.Goals as goal

pub lowered_in_halves-returns-then-k-y : goal.lowered_in_halves-returns-then-k-y
lowered_in_halves-returns-then-k-y t c =
    let low : clipped Lesser c.args.k c.args.y c.args.f ≡ Leaf c.args.k = lowered_low c.args.k c.args.y c.args.f c.requires.normal (omega (arith, c.if-k-y.true, c.root.ensures)) in
    rw low c.push_leaf.ensures

pub lowered_in_halves-returns-then-k-eq4294967295 : goal.lowered_in_halves-returns-then-k-eq4294967295
lowered_in_halves-returns-then-k-eq4294967295 t c =
    let high : clipped Lesser c.args.k c.args.y c.args.f ≡ lifted c.args.y c.args.f = lowered_high c.args.k c.args.y c.args.f c.requires.normal (omega (arith, eq-eqb c.args.k 4294967295 c.if-k-eq4294967295.true, c.requires.fits)) in
    rw high c.append_lifted.ensures

pub lowered_in_halves-close-requires : goal.lowered_in_halves-close-requires
lowered_in_halves-close-requires t c =
    let y = c.args.y + c.in-Node.n in
    ends _ _ _ (clipped Lesser c.args.k y c.in-Node.c) (clipped Lesser c.args.k y c.in-Node.d) _ _ 0
    (written_halves _ _ _ _ _ _ _ _ _ c.len-start.ensures.value c.in_ok-push-in-Node.ensures c.in_ok-lowered_into-in-Node.ensures c.len-middle.ensures.value c.in_ok-lowered_into-in-Node-2.ensures)
    (omega (arith, greatest_clipped Lesser c.args.k y c.in-Node.c, greatest_clipped Lesser c.args.k y c.in-Node.d, c.ranges.k.fits, c.requires.fits, ap greatest c.in-Node.ensures))

pub lowered_in_halves-returns-in_ok-lowered_into-in-Node-2 : goal.lowered_in_halves-returns-in_ok-lowered_into-in-Node-2
lowered_in_halves-returns-in_ok-lowered_into-in-Node-2 t c =
    let y = c.args.y + c.in-Node.n in
    rw c.in-Node.ensures (closes_ok c.close.result _ _ _ _ (clipped Lesser c.args.k y c.in-Node.c) (clipped Lesser c.args.k y c.in-Node.d) 0 _ _
    (written_halves _ _ _ _ _ _ _ _ _ c.len-start.ensures.value c.in_ok-push-in-Node.ensures c.in_ok-lowered_into-in-Node.ensures c.len-middle.ensures.value c.in_ok-lowered_into-in-Node-2.ensures)
    c.close.ensures)
