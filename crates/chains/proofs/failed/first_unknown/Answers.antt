use Rattle.chains.proofs.LookUps.{known_from, one_taken, all_taken}
use Rattle.chains.proofs.failed.first_unknown.Goals as goal

pub loop-name-preserved : goal.loop-name-preserved
loop-name-preserved c =
    one_taken c.args.chains.now.accepted c.args.names.now c.loop-name.left c.in-Some.name c.next.new.self c.loop-name.invariant c.in-Some.ensures.name
    (known_from c.args.chains.now.accepted _ c.in-Some.name c.in-Some-number_of.ensures)

pub returns : goal.returns
returns c = all_taken c.args.chains.now.accepted c.args.names.now c.loop-name.left c.loop-name.invariant c.in_default.ensures.name
