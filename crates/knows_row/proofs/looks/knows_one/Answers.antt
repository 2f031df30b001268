use Rattle.std.proofs.Common.{[], length, get_or}
use Rattle.knows_row.specs.Looks.{KnowsOne}
use Rattle.knows_row.specs.Thresholds.{PassesOne}
use Rattle.knows_row.proofs.Lawful.{lawful}
use Rattle.knows_row.proofs.Thresholding.{events_of, all_contained, one_known, tested}
use Rattle.knows_row.proofs.looks.knows_one.Goals as goal

pub returns-in-Some : goal.returns-in-Some
returns-in-Some c =
    let accepted = c.args.chains.now.accepted in
    let cut = c.args.cut.now in
    let among = c.args.among.now in
    let b = c.requires.bounds in
    tested c.is_passed.result (PassesOne c.in-Some.events.now (get_or c.args.thresholds.now 0 [])) (KnowsOne accepted among cut c.args.process c.args.rank) c.is_passed.ensures
    (one_known accepted cut b.before (lawful accepted c.recall_lawful.ensures.folded) c.recall_lawful.ensures.folded b.lowered c.args.process c.args.rank c.in-Some.events.now
    c.requires.process c.requires.rank (b.within c.args.process c.requires.process)
    (events_of accepted c.args.process c.args.rank c.place_at-place.result c.in-Some.events.now c.place_at-place.ensures c.in-Some.ensures)
    among (get_or c.args.thresholds.now 0 []) c.recall_facts.ensures.small b.thresholds.leaves (all_contained among (length cut) b.fallen))
