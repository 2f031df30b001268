use Rattle.std.proofs.Common.{arith}
use Rattle.chains.proofs.Distinct.{distinct_known}
use Rattle.chains.proofs.Failing.{flag_found, one_found, not_found, all_found}
use Rattle.chains.proofs.failed.flags_of.Goals as goal

pub returns-in_default-number_of-clause-fault : goal.returns-in_default-number_of-clause-fault
returns-in_default-number_of-clause-fault c =
    not_found c.args.chains.now.accepted c.args.names.now c.loop-name.left c.in-Some.name c.next.new.self c.loop-name.flags.items c.loop-name.invariant c.in-Some.ensures.name c.in_default-number_of.ensures

pub index_mut-requires : goal.index_mut-requires
index_mut-requires c =
    omega (arith, c.loop-name.flags.ok.0, flag_found c.args.chains.now.accepted c.args.names.now c.loop-name.left c.in-Some-number_of.number c.in-Some.name c.loop-name.flags.items c.loop-name.invariant c.in-Some-number_of.ensures)

pub loop-name-preserved : goal.loop-name-preserved
loop-name-preserved c =
    one_found c.args.chains.now.accepted c.args.names.now c.loop-name.left c.in-Some.name c.next.new.self c.in-Some-number_of.number c.loop-name.flags.items c.loop-name.invariant c.in-Some.ensures.name
    (distinct_known c.args.chains.now.accepted c.recall_lawful.ensures.folded) c.in-Some-number_of.ensures

pub returns-clause-known : goal.returns-clause-known
returns-clause-known c = (all_found c.args.chains.now.accepted c.args.names.now c.loop-name.left c.loop-name.flags.items c.in_default-next.ensures.name c.loop-name.invariant).0

pub returns-clause-marked : goal.returns-clause-marked
returns-clause-marked c = (all_found c.args.chains.now.accepted c.args.names.now c.loop-name.left c.loop-name.flags.items c.in_default-next.ensures.name c.loop-name.invariant).1
