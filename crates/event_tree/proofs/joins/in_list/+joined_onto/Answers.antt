use Rattle.std.proofs.Common.{◌≡◌, ◌+◌, ap, arith}
use Rattle.event_tree.specs.EventTree.{Leaf}
use Rattle.event_tree.specs.NormalForm.{greatest}
use Rattle.event_tree.specs.working.Walks.{clipped, combined_from}
use Rattle.event_tree.specs.declared.joins.Pick.TheVariants.{Greater}
use Rattle.event_tree.proofs.Picks.{combined_leaf, greatest_combined}
use Rattle.event_tree.proofs.Closed.{written_halves, ends, closes_ok}
use Rattle.event_tree.proofs.joins.in_list.+joined_onto.Goals as goal

pub close-requires : goal.close-requires
close-requires t c =
    let x = c.args.x + c.in-Node.m in
    let y = c.args.y + c.in-Node-part.n in
    let p = Greater in
    ends _ _ _ (combined_from p x c.in-Node.a y c.in-Node-part.c) (combined_from p x c.in-Node.b y c.in-Node-part.d) _ _ 0
    (written_halves _ _ _ _ _ _ _ _ _ c.len-start.ensures.value c.in_ok-push-in-Node-part.ensures c.in_ok-joined_onto-in-Node-part.ensures c.len-middle.ensures.value c.in_ok-joined_onto-in-Node-part-2.ensures)
    (omega (arith, greatest_combined p x c.in-Node.a y c.in-Node-part.c, greatest_combined p x c.in-Node.b y c.in-Node-part.d, c.requires.e_fits, c.requires.f_fits, ap greatest c.in-Node.ensures, ap greatest c.in-Node-part.ensures))

pub returns-in-Leaf-part : goal.returns-in-Leaf-part
returns-in-Leaf-part t c =
    let same : combined_from Greater c.args.x c.args.e c.args.y (Leaf c.in-Leaf-part.n) ≡ clipped Greater (c.args.y + c.in-Leaf-part.n) c.args.x c.args.e = combined_leaf Greater c.args.x c.args.e c.args.y c.in-Leaf-part.n in
    rw (c.in-Leaf-part.ensures, same) c.raised_onto-in-Leaf-part.ensures

pub returns-in_ok-joined_onto-in-Node-part-2 : goal.returns-in_ok-joined_onto-in-Node-part-2
returns-in_ok-joined_onto-in-Node-part-2 t c =
    let x = c.args.x + c.in-Node.m in
    let y = c.args.y + c.in-Node-part.n in
    let p = Greater in
    rw (c.in-Node.ensures, c.in-Node-part.ensures) (closes_ok c.close.result _ _ _ _ (combined_from p x c.in-Node.a y c.in-Node-part.c) (combined_from p x c.in-Node.b y c.in-Node-part.d) 0 _ _
    (written_halves _ _ _ _ _ _ _ _ _ c.len-start.ensures.value c.in_ok-push-in-Node-part.ensures c.in_ok-joined_onto-in-Node-part.ensures c.len-middle.ensures.value c.in_ok-joined_onto-in-Node-part-2.ensures)
    c.close.ensures)
