use Rattle.std.proofs.Common.{arith}
use Rattle.chains.proofs.Distinct.{distinct_known}
use Rattle.chains.proofs.Failing.{marked_known, marked_unknown, flag_before}
use Rattle.chains.proofs.failed.which_are_named.Goals as goal

pub loop-name-preserved-in-None : goal.loop-name-preserved-in-None
loop-name-preserved-in-None c =
    marked_unknown c.args.chains.now.accepted c.args.names.now c.loop-name.left c.in-Some.name c.next.new.self c.loop-name.flags.items c.loop-name.invariant c.in-Some.ensures.name c.in-None.ensures

pub index_mut-requires : goal.index_mut-requires
index_mut-requires c =
    omega (arith, c.loop-name.flags.ok.0, flag_before c.args.chains.now.accepted c.args.names.now c.loop-name.left c.in-Some-number_of.number c.in-Some.name c.loop-name.flags.items c.loop-name.invariant c.in-Some-number_of.ensures)

pub loop-name-preserved : goal.loop-name-preserved
loop-name-preserved c =
    marked_known c.args.chains.now.accepted c.args.names.now c.loop-name.left c.in-Some.name c.next.new.self c.in-Some-number_of.number c.loop-name.flags.items c.loop-name.invariant c.in-Some.ensures.name
    (distinct_known c.args.chains.now.accepted c.recall_lawful.ensures.folded) c.in-Some-number_of.ensures
