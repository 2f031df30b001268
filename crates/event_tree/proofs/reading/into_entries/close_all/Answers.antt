use Rattle.std.proofs.Common.{◌≤◌, subst, sym, ◌∙◌}
use Rattle.event_tree.specs.declared.layout.entries.Entry.{Entry}
use Rattle.event_tree.proofs.Takes.{can_close, node_closed, put_long}
use Rattle.event_tree.proofs.reading.into_entries.close_all.Goals as goal

pub close-requires-clause-one : goal.close-requires-clause-one
close-requires-clause-one c = (can_close c.requires.whole c.loop-left.rest.now c.loop-left.left c.loop-left.room c.args.end (c.loop-left.invariant.0 _ c.requires.read) c.loop-left-test.true).one

pub close-requires-clause-other : goal.close-requires-clause-other
close-requires-clause-other c = (can_close c.requires.whole c.loop-left.rest.now c.loop-left.left c.loop-left.room c.args.end (c.loop-left.invariant.0 _ c.requires.read) c.loop-left-test.true).other

pub close-requires-clause-size : goal.close-requires-clause-size
close-requires-clause-size c = (can_close c.requires.whole c.loop-left.rest.now c.loop-left.left c.loop-left.room c.args.end (c.loop-left.invariant.0 _ c.requires.read) c.loop-left-test.true).size

pub overflow_sub-left : goal.overflow_sub-left
overflow_sub-left c =
    let can = can_close c.requires.whole c.loop-left.rest.now c.loop-left.left c.loop-left.room c.args.end (c.loop-left.invariant.0 _ c.requires.read) c.loop-left-test.true in
    subst (λ (e : Entry). e.value ≤ c.loop-left.left.sum) (sym c.in-Some-close.ensures.mark_is) can.base

pub loop-left-preserved : goal.loop-left-preserved
loop-left-preserved c = (
  λ whole h. node_closed whole c.loop-left.rest.now c.in-Some.later.now c.loop-left.left c.in-Some-close.mark c.loop-left.room _ c.args.end (c.loop-left.invariant.0 whole h) c.loop-left-test.true c.in-Some.ensures c.in-Some-close.ensures,
  put_long _ _ _ _ c.in-Some-close.ensures.sealed ∙ c.loop-left.invariant.1,
)
