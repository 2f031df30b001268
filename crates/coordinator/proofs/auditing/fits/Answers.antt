use Rattle.std.proofs.Common.{◌<◌, length, arith}
use Rattle.coordinator.proofs.Fitting.{fits_more, fits_whole, misfit}
use Rattle.coordinator.proofs.auditing.fits.Goals as goal

pub loop-k-preserved : goal.loop-k-preserved
loop-k-preserved g c =
    let within : c.loop-k.k < length c.entries-entries.result.now = omega arith in
    fits_more c.args.turns.now c.entries-entries.result.now c.loop-k.k c.index-entries-k.result within c.index-entries-k.is c.loop-k.invariant (c.is_at_turn.ensures.0 c.if-not-is_at_turn.false)

pub returns-then-not-is_at_turn-clause-no : goal.returns-then-not-is_at_turn-clause-no
returns-then-not-is_at_turn-clause-no g c = λ _.
    let within : c.loop-k.k < length c.entries-entries.result.now = omega arith in
    misfit c.args.turns.now c.entries-entries.result.now c.args.pass.now.entries c.loop-k.k c.index-entries-k.result c.is_at_turn.result c.entries-entries.ensures.entries within c.index-entries-k.is
    c.if-not-is_at_turn.true c.is_at_turn.ensures.1

pub returns-clause-yes : goal.returns-clause-yes
returns-clause-yes g c = λ _. fits_whole c.args.turns.now c.entries-entries.result.now c.args.pass.now.entries c.loop-k.k c.entries-entries.ensures.entries (omega arith) c.loop-k.invariant
