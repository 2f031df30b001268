use Rattle.std.proofs.Common.{◌∙◌}
use Rattle.event_tree.specs.working.Walks.{combined_from}
use Rattle.event_tree.specs.declared.joins.Pick.TheVariants.{Greater}
use Rattle.event_tree.proofs.Preorder.{is_preorder, tree_of_preorder}
use Rattle.event_tree.proofs.Places.{written_from_none}
use Rattle.event_tree.proofs.joins.by_place.joined_by.Goals as goal

pub of-requires : goal.of-requires
of-requires c =
    let t = combined_from Greater 0 c.args.e 0 c.args.f in
    is_preorder _ t (written_from_none c.args.room.now _ _ c.in_ok-stop.stop t c.in_ok-stop.ensures.written (c.in_ok-out.ensures.ok ∙ c.split_at.ensures.front))

pub returns : goal.returns
returns c =
    let t = combined_from Greater 0 c.args.e 0 c.args.f in
    c.of.ensures ∙ tree_of_preorder _ t (written_from_none c.args.room.now _ _ c.in_ok-stop.stop t c.in_ok-stop.ensures.written (c.in_ok-out.ensures.ok ∙ c.split_at.ensures.front))
