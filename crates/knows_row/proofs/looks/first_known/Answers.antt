use Rattle.std.proofs.Common.{◌<◌, [], length, get_or, arith}
use Rattle.std.proofs.lemmas.List.Elements.{All-get_or}
use Rattle.knows_row.proofs.Lawful.{lawful}
use Rattle.knows_row.proofs.Thresholding.{events_of, all_contained, none_known, first_known_of}
use Rattle.knows_row.proofs.looks.first_known.Goals as goal

pub returns-in-None-first_passed : goal.returns-in-None-first_passed
returns-in-None-first_passed c =
    let accepted = c.args.chains.now.accepted in
    let cut = c.args.cut.now in
    let among = c.args.among.now in
    let b = c.requires.bounds in
    none_known accepted cut b.before (lawful accepted c.recall_lawful.ensures.folded) c.recall_lawful.ensures.folded b.lowered c.args.process c.args.rank c.in-Some.events.now
    c.requires.process c.requires.rank (b.within c.args.process c.requires.process) (events_of accepted c.args.process c.args.rank c.place_at-place.result c.in-Some.events.now c.place_at-place.ensures c.in-Some.ensures)
    among (get_or c.args.thresholds.now 0 []) c.recall_facts.ensures.small b.thresholds.leaves (all_contained among (length cut) b.fallen) c.in-None-first_passed.ensures

pub returns-in-Some-first_passed : goal.returns-in-Some-first_passed
returns-in-Some-first_passed c =
    let accepted = c.args.chains.now.accepted in
    let cut = c.args.cut.now in
    let among = c.args.among.now in
    let b = c.requires.bounds in
    let i = c.in-Some-first_passed.i in
    let first = c.in-Some-first_passed.ensures in
    let within : i < length among = omega (arith, first.within, b.thresholds.leaves.complete) in (
      All-get_or (λ q. q < length cut) among i 0 within b.fallen,
      first_known_of accepted cut b.before (lawful accepted c.recall_lawful.ensures.folded) c.recall_lawful.ensures.folded b.lowered c.args.process c.args.rank c.in-Some.events.now
          c.requires.process c.requires.rank (b.within c.args.process c.requires.process) (events_of accepted c.args.process c.args.rank c.place_at-place.result c.in-Some.events.now c.place_at-place.ensures c.in-Some.ensures)
          among (get_or c.args.thresholds.now 0 []) c.recall_facts.ensures.small b.thresholds.leaves (λ j lt. All-get_or (λ q. q < length cut) among j 0 lt b.fallen) b.in_order i first,
    )
