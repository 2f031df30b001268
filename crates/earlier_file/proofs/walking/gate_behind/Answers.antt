use Rattle.std.proofs.Common.{◌-◌, length, take, drop, arith, length-drop}
use Rattle.std.proofs.lemmas.List.{take_all}
use Rattle.earlier_file.proofs.Walked.{placed}
use Rattle.earlier_file.proofs.walking.gate_behind.Goals as goal

pub returns-clause-placed : goal.returns-clause-placed
returns-clause-placed c =
    let file = c.args.file.now in
    placed c.args.most c.in_ok-version.version c.in_ok-count.count c.in_ok-count.at file (take (length file - 8) (drop 8 file)) c.in_ok-version.ensures.ok
    (take_all (length file - 8) (drop 8 file) (omega (arith, length-drop 8 file))) c.in_ok-count.ensures.most c.in_ok-count.ensures.walked c.in_ok-count.ensures.stops
