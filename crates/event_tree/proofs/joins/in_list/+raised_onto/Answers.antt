use Rattle.std.proofs.Common.{◌≡◌, ◌+◌, ap, arith}
use Rattle.event_tree.specs.NormalForm.{greatest}
use Rattle.event_tree.specs.Norm.{lifted}
use Rattle.event_tree.specs.working.Walks.{clipped}
use Rattle.event_tree.specs.declared.joins.Pick.TheVariants.{Greater}
use Rattle.event_tree.proofs.Picks.{raised_low, greatest_clipped}
use Rattle.event_tree.proofs.Closed.{written_halves, ends, closes_ok}
use Rattle.event_tree.proofs.joins.in_list.+raised_onto.Goals as goal

pub returns-then-k-y : goal.returns-then-k-y
returns-then-k-y t c =
    let low : clipped Greater c.args.k c.args.y c.args.f ≡ lifted c.args.y c.args.f = raised_low c.args.k c.args.y c.args.f c.requires.normal (omega (arith, c.if-k-y.true, c.root.ensures)) in
    rw low c.append_lifted.ensures

pub close-requires : goal.close-requires
close-requires t c =
    let y = c.args.y + c.in-Node.n in
    ends _ _ _ (clipped Greater c.args.k y c.in-Node.c) (clipped Greater c.args.k y c.in-Node.d) _ _ 0
    (written_halves _ _ _ _ _ _ _ _ _ c.len-start.ensures.value c.in_ok-push-in-Node.ensures c.in_ok-raised_onto-in-Node.ensures c.len-middle.ensures.value c.in_ok-raised_onto-in-Node-2.ensures)
    (omega (arith, greatest_clipped Greater c.args.k y c.in-Node.c, greatest_clipped Greater c.args.k y c.in-Node.d, c.ranges.k.fits, c.requires.fits, ap greatest c.in-Node.ensures))

pub returns-in_ok-raised_onto-in-Node-2 : goal.returns-in_ok-raised_onto-in-Node-2
returns-in_ok-raised_onto-in-Node-2 t c =
    let y = c.args.y + c.in-Node.n in
    rw c.in-Node.ensures (closes_ok c.close.result _ _ _ _ (clipped Greater c.args.k y c.in-Node.c) (clipped Greater c.args.k y c.in-Node.d) 0 _ _
    (written_halves _ _ _ _ _ _ _ _ _ c.len-start.ensures.value c.in_ok-push-in-Node.ensures c.in_ok-raised_onto-in-Node.ensures c.len-middle.ensures.value c.in_ok-raised_onto-in-Node-2.ensures)
    c.close.ensures)
