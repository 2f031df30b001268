use Rattle.std.proofs.Common.{ap, ◌∙◌, take}
use Rattle.event_tree.proofs.Places.{refilled, whole_slice, cut_at_end}
use Rattle.event_tree.proofs.layout.node_entry.close.Goals as goal

pub returns-then-end-stop : goal.returns-then-end-stop
returns-then-end-stop c = λ front e a b h m are.
    let there = c.in_ok-end.ensures.closed front e a b h m (whole_slice c.args.out.now.items _ _ _ c.as_mut_slice.ensures.value c.len-stop.ensures.value are) in
    c.truncate.ensures.items ∙ ap (take c.in_ok-end.end) (refilled c.args.out.now.items _ _ c.as_mut_slice.ensures.value c.in_ok-end.ensures.as_long) ∙ there.1

pub returns-else-end-stop : goal.returns-else-end-stop
returns-else-end-stop c = λ front e a b h m are.
    let there = c.in_ok-end.ensures.closed front e a b h m (whole_slice c.args.out.now.items _ _ _ c.as_mut_slice.ensures.value c.len-stop.ensures.value are) in
    cut_at_end c.args.out.now.items _ _ _ c.in_ok-end.end c.as_mut_slice.ensures.value c.len-stop.ensures.value c.in_ok-end.ensures.as_long c.if-end-stop.false ∙ there.1
