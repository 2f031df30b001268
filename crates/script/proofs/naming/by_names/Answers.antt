use Rattle.std.proofs.Common.{arith}
use Rattle.script.proofs.ByNames.{number_within, named_more, all_names}
use Rattle.script.proofs.naming.by_names.Goals as goal

pub name_of-requires : goal.name_of-requires
name_of-requires c = number_within c.args.chains.now.accepted c.args.places.now c.loop-place.place-index _ c.requires (omega (arith, c.loop-place-test.true))

pub loop-place-preserved : goal.loop-place-preserved
loop-place-preserved c =
    rw c.in_ok-push.ensures.items
    (named_more c.args.chains.now.accepted c.args.places.now c.loop-place.place-index _ c.copy.result c.name_of.result.now c.loop-place.line.items c.requires (omega (arith, c.loop-place-test.true))
    c.copy.ensures c.name_of.ensures c.loop-place.invariant)

pub returns-clause-names : goal.returns-clause-names
returns-clause-names c =
    all_names c.args.chains.now.accepted c.args.places.now c.loop-place.place-index c.loop-place.line.items c.requires (omega (arith, c.loop-place-test.false)) c.loop-place.invariant
