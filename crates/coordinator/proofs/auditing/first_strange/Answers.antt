use Rattle.std.proofs.Common.{arith}
use Rattle.coordinator.proofs.Fitting.{passes_more, passes_whole, strange_there}
use Rattle.coordinator.proofs.auditing.first_strange.Goals as goal

pub returns-then-not-fits-clause-some : goal.returns-then-not-fits-clause-some
returns-then-not-fits-clause-some g c =
    λ opening. strange_there c.args.turns.now opening c.args.passes.now c.loop-place.place c.index-passes-place.result c.number.result (omega arith) c.index-passes-place.is c.number.ensures.number c.number.ensures.positive
    (c.fits.ensures.no c.if-not-fits.true)

pub loop-place-preserved : goal.loop-place-preserved
loop-place-preserved g c =
    passes_more c.args.turns.now c.args.passes.now c.loop-place.place c.index-passes-place.result (omega arith) c.index-passes-place.is c.loop-place.invariant (c.fits.ensures.yes c.if-not-fits.false)

pub returns-clause-none : goal.returns-clause-none
returns-clause-none g c = passes_whole c.args.turns.now c.args.passes.now c.loop-place.place (omega arith) c.loop-place.invariant
