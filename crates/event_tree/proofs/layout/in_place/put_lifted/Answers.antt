use Rattle.event_tree.proofs.Places.{part_lifted}
use Rattle.event_tree.proofs.layout.in_place.put_lifted.Goals as goal

pub returns-clause-written : goal.returns-clause-written
returns-clause-written c =
    part_lifted c.args.out.now c.put_all.new.out c.entries-entries.result.now _ c.args.start c.args.k c.args.e c.entries-entries.ensures.are c.requires.room c.split_at.ensures.front c.put_all.ensures.as_long c.put_all.ensures.are
