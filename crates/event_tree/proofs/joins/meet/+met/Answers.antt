use Rattle.std.proofs.Common.{◌≡◌, ◌+◌, ap, arith}
use Rattle.event_tree.specs.EventTree.{Leaf}
use Rattle.event_tree.specs.NormalForm.{greatest}
use Rattle.event_tree.specs.working.Walks.{clipped, combined_from}
use Rattle.event_tree.specs.declared.joins.Pick.TheVariants.{Lesser}
use Rattle.event_tree.proofs.Picks.{combined_leaf, greatest_combined}
use Rattle.event_tree.proofs.Closed.{written_halves, ends, closes_ok}
use Rattle.event_tree.proofs.joins.meet.+met.Goals as goal

pub met_in_halves-close-requires : goal.met_in_halves-close-requires
met_in_halves-close-requires t c =
    let x = c.args.x + c.in-Node.m in
    let y = c.args.y + c.in-Node-part.n in
    let p = Lesser in
    ends _ _ _ (combined_from p x c.in-Node.a y c.in-Node-part.c) (combined_from p x c.in-Node.b y c.in-Node-part.d) _ _ 0
    (written_halves _ _ _ _ _ _ _ _ _ c.len-start.ensures.value c.in_ok-push-in-Node-part.ensures c.in_ok-met_into-in-Node-part.ensures c.len-middle.ensures.value c.in_ok-met_into-in-Node-part-2.ensures)
    (omega (arith, greatest_combined p x c.in-Node.a y c.in-Node-part.c, greatest_combined p x c.in-Node.b y c.in-Node-part.d, c.requires.e_fits, c.requires.f_fits, ap greatest c.in-Node.ensures, ap greatest c.in-Node-part.ensures))

pub met_in_halves-returns-in-Leaf-part : goal.met_in_halves-returns-in-Leaf-part
met_in_halves-returns-in-Leaf-part t c =
    let same : combined_from Lesser c.args.x c.args.e c.args.y (Leaf c.in-Leaf-part.n) ≡ clipped Lesser (c.args.y + c.in-Leaf-part.n) c.args.x c.args.e = combined_leaf Lesser c.args.x c.args.e c.args.y c.in-Leaf-part.n in
    rw (c.in-Leaf-part.ensures, same) c.lowered_into-in-Leaf-part.ensures

pub met_in_halves-returns-in_ok-met_into-in-Node-part-2 : goal.met_in_halves-returns-in_ok-met_into-in-Node-part-2
met_in_halves-returns-in_ok-met_into-in-Node-part-2 t c =
    let x = c.args.x + c.in-Node.m in
    let y = c.args.y + c.in-Node-part.n in
    let p = Lesser in
    rw (c.in-Node.ensures, c.in-Node-part.ensures) (closes_ok c.close.result _ _ _ _ (combined_from p x c.in-Node.a y c.in-Node-part.c) (combined_from p x c.in-Node.b y c.in-Node-part.d) 0 _ _
    (written_halves _ _ _ _ _ _ _ _ _ c.len-start.ensures.value c.in_ok-push-in-Node-part.ensures c.in_ok-met_into-in-Node-part.ensures c.len-middle.ensures.value c.in_ok-met_into-in-Node-part-2.ensures)
    c.close.ensures)
