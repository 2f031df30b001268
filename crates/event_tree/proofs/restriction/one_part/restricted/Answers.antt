use Rattle.std.proofs.Common.{◌+◌, ◌∙◌, sym, ap, refl}
use Rattle.std.proofs.lemmas.Bool.{both_ways}
use Rattle.id_tree.specs.OneWay.{id_of_way}
use Rattle.event_tree.specs.working.Walks.{restricted_from}
use Rattle.event_tree.proofs.Preorder.{is_preorder, tree_of_preorder}
use Rattle.event_tree.proofs.Places.{refilled}
use Rattle.event_tree.proofs.Besides.{is_place, limit_found, whole_sized, whole_written, only_leaves}
use Rattle.event_tree.proofs.restriction.one_part.restricted.Goals as goal

pub returns-then-is_limit : goal.returns-then-is_limit
returns-then-is_limit c =
    let place = is_place c.args.way _ c.args.e _ _ c.again.ensures c.walk_down-x.ensures.base c.walk_down-x.ensures.part c.walk_down-x.ensures.within in
    c.leaf.ensures ∙ sym (limit_found c.args.way c.args.e _ _ place (c.is_limit.ensures.0 c.if-is_limit.true))

pub write_down-requires-clause-sized : goal.write_down-requires-clause-sized
write_down-requires-clause-sized c = whole_sized c.args.way _ _ _ _ c.requires.size c.entries.ensures.size c.in_ok-size.ensures

pub of-requires : goal.of-requires
of-requires c =
    let place = is_place c.args.way _ c.args.e _ _ c.again.ensures c.walk_down-x.ensures.base c.walk_down-x.ensures.part c.walk_down-x.ensures.within in
    is_preorder _ (restricted_from (id_of_way c.args.way) 0 c.args.e)
    (refilled c.in_ok-out.out.items _ _ c.as_mut_slice.ensures.value c.write_down.ensures.as_long
    ∙ whole_written c.args.way c.args.e _ _ _ _ _ place
    (λ t. both_ways _ c.if-is_limit.false (c.is_limit.ensures.1 t)) (ap (λ n. c.walk_down-x.result.0 + n) c.root.ensures) refl
    (c.write_down.ensures.written _ (only_leaves _ _ _ _ c.as_mut_slice.ensures.value c.in_ok-out.ensures)))

pub returns : goal.returns
returns c =
    let place = is_place c.args.way _ c.args.e _ _ c.again.ensures c.walk_down-x.ensures.base c.walk_down-x.ensures.part c.walk_down-x.ensures.within in
    c.of.ensures ∙ tree_of_preorder _ (restricted_from (id_of_way c.args.way) 0 c.args.e)
    (refilled c.in_ok-out.out.items _ _ c.as_mut_slice.ensures.value c.write_down.ensures.as_long
    ∙ whole_written c.args.way c.args.e _ _ _ _ _ place
    (λ t. both_ways _ c.if-is_limit.false (c.is_limit.ensures.1 t)) (ap (λ n. c.walk_down-x.result.0 + n) c.root.ensures) refl
    (c.write_down.ensures.written _ (only_leaves _ _ _ _ c.as_mut_slice.ensures.value c.in_ok-out.ensures)))
