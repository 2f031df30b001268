use Rattle.std.proofs.Common.{ap, ◌∙◌, take, length, arith}
use Rattle.event_tree.specs.working.Walks.{combined_from}
use Rattle.event_tree.specs.declared.joins.Pick.TheVariants.{Greater}
use Rattle.event_tree.proofs.Preorder.{is_preorder, tree_of_preorder}
use Rattle.event_tree.proofs.Places.{refilled, written_from_none}
use Rattle.event_tree.proofs.joins.by_place.joined_in_block.Goals as goal

pub first_of-requires : goal.first_of-requires
first_of-requires c =
    omega (arith, c.in_ok-stop.ensures.written.within, c.in_ok-stop.ensures.written.as_long, ap length (refilled c.from_vec-out.result.items _ _ c.as_mut_slice.ensures.value c.in_ok-stop.ensures.written.as_long))

pub of-requires : goal.of-requires
of-requires c =
    let t = combined_from Greater 0 c.args.e 0 c.args.f in
    let cut = c.in_ok-made.ensures ∙ ap (take c.in_ok-stop.stop) (refilled c.from_vec-out.result.items _ _ c.as_mut_slice.ensures.value c.in_ok-stop.ensures.written.as_long) in
    is_preorder _ t (written_from_none _ _ _ _ t c.in_ok-stop.ensures.written cut)

pub returns : goal.returns
returns c =
    let t = combined_from Greater 0 c.args.e 0 c.args.f in
    let cut = c.in_ok-made.ensures ∙ ap (take c.in_ok-stop.stop) (refilled c.from_vec-out.result.items _ _ c.as_mut_slice.ensures.value c.in_ok-stop.ensures.written.as_long) in
    c.of.ensures ∙ tree_of_preorder _ t (written_from_none _ _ _ _ t c.in_ok-stop.ensures.written cut)
