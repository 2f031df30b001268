use Rattle.std.proofs.Common.{◌+◌, ◌∙◌, sym, eqb-true}
use Rattle.event_tree.proofs.Takes.{node_begun, leaf_read, half_begun, whole, halts, put_long}
use Rattle.event_tree.proofs.reading.into_entries.take_on.Goals as goal

pub loop-end-preserved-in-40 : goal.loop-end-preserved-in-40
loop-end-preserved-in-40 c = (
  node_begun c.args.text.now c.loop-end.rest.now c.in-Some.inside.now c.loop-end.around c.in-Some.inner c.loop-end.room _ c.loop-end.end c.loop-end.invariant.0 c.in-Some.ensures c.loop-end-test.true,
  put_long _ _ _ _ c.in-Some.ensures.put ∙ c.loop-end.invariant.1,
)

pub close_all-requires : goal.close_all-requires
close_all-requires c = record {
  whole = c.args.text.now;
  read = leaf_read c.args.text.now c.loop-end.rest.now c.in-Some-take_leaf.later.now c.loop-end.around c.loop-end.room _ c.loop-end.end c.loop-end.invariant.0 c.in-Some-take_leaf.ensures c.loop-end-test.true;
}

pub returns-then-is_empty : goal.returns-then-is_empty
returns-then-is_empty c =
    let read = leaf_read c.args.text.now c.loop-end.rest.now c.in-Some-take_leaf.later.now c.loop-end.around c.loop-end.room _ c.loop-end.end c.loop-end.invariant.0 c.in-Some-take_leaf.ensures c.loop-end-test.true in
    record {
      as_long = c.in-Some-close_all.ensures.as_long ∙ put_long _ _ _ _ c.in-Some-take_leaf.ensures.put ∙ c.loop-end.invariant.1;
      is =
          whole c.args.text.now c.in-Some-close_all.ended.now c.in-Some-close_all.left _ (c.loop-end.end + 1) (c.in-Some-close_all.ensures.read c.args.text.now read)
          c.if-left-eq2.true (eqb-true _ _ (sym c.is_empty.ensures ∙ c.if-is_empty.true));
    }

pub loop-end-preserved : goal.loop-end-preserved
loop-end-preserved c =
    let read = leaf_read c.args.text.now c.loop-end.rest.now c.in-Some-take_leaf.later.now c.loop-end.around c.loop-end.room _ c.loop-end.end c.loop-end.invariant.0 c.in-Some-take_leaf.ensures c.loop-end-test.true in (
      half_begun c.args.text.now c.in-Some-close_all.ended.now c.in-Some-behind.second.now c.in-Some-close_all.left _ (c.loop-end.end + 1) (c.in-Some-close_all.ensures.read c.args.text.now read) c.in-Some-close_all.ensures.in_first c.if-left-eq2.false c.in-Some-behind.ensures,
      c.in-Some-close_all.ensures.as_long ∙ put_long _ _ _ _ c.in-Some-take_leaf.ensures.put ∙ c.loop-end.invariant.1,
    )

pub returns : goal.returns
returns c = record { as_long = c.loop-end.invariant.1; is = halts c.args.text.now c.loop-end.rest.now c.loop-end.around c.loop-end.room c.loop-end.end c.loop-end.invariant.0 }
