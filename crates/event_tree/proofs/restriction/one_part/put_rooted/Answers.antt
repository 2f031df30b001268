use Rattle.std.proofs.Common.{arith, ◌∙◌}
use Rattle.event_tree.proofs.Preorder.{some_size, first_is_length}
use Rattle.event_tree.proofs.Besides.{rooted_written}
use Rattle.event_tree.proofs.restriction.one_part.put_rooted.Goals as goal

pub bounds-entries-0 : goal.bounds-entries-0
bounds-entries-0 c = omega (arith, c.entries-entries.ensures.size, some_size c.args.part.now)

pub put-requires : goal.put-requires
put-requires c = omega (arith, c.put_all.ensures.as_long, c.requires, some_size c.args.part.now)

pub returns : goal.returns
returns c =
    rooted_written c.args.out.now c.put_all.new.out _ c.entries-entries.result.now c.args.at c.args.v _ c.args.part.now c.requires c.entries-entries.ensures.are
    (first_is_length c.args.part.now _ c.entries-entries.ensures.are ∙ c.entries-entries.ensures.size) c.put_all.ensures.are c.put.ensures
