use Rattle.std.proofs.Common.{◌+◌, arith}
use Rattle.event_tree.proofs.Preorder.{some_size}
use Rattle.event_tree.proofs.Lengths.{all_counted}
use Rattle.event_tree.proofs.writing.text_length.Goals as goal

pub overflow_sub-result : goal.overflow_sub-result
overflow_sub-result c = omega (arith, c.entries-entries.ensures.size, some_size c.args.e.now)

pub returns : goal.returns
returns c =
    omega (
      arith,
      all_counted c.args.e.now c.entries-entries.result.now c.loop-entry.entry-index (c.loop-entry.sum + c.loop-entry.entry-index) c.entries-entries.ensures.are (omega arith) c.loop-entry.invariant.counted,
      c.entries-entries.ensures.size,
      c.loop-entry.auto.entry-index-end,
      c.loop-entry-test.false,
    )
