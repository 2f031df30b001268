use Rattle.std.proofs.Common.{◌+◌, ◌*◌, refl, arith}
use Rattle.event_tree.proofs.Takes.{taken_one, taken_more}
use Rattle.event_tree.proofs.reading.into_entries.take_number.Goals as goal

pub returns-then-first-eq0 : goal.returns-then-first-eq0
returns-then-first-eq0 c = (rw (← c.if-first-eq0.true) (taken_one c.args.text.now c.in_ok-first.rest.now c.in_ok-first.first c.in_ok-first.ensures.1 c.in_ok-first.ensures.0), omega arith)

pub loop-digit-init : goal.loop-digit-init
loop-digit-init c = (taken_one c.args.text.now c.in_ok-first.rest.now c.in_ok-first.first c.in_ok-first.ensures.1 c.in_ok-first.ensures.0, omega arith, omega (arith, c.in_ok-first.ensures.1))

pub loop-digit-preserved : goal.loop-digit-preserved
loop-digit-preserved c =
    let more = c.loop-digit.number * 10 + c.in-Some.digit in (
      taken_more c.args.text.now c.loop-digit.rest.now c.in-Some.later.now c.loop-digit.number c.in-Some.digit more c.loop-digit.invariant.0 c.in-Some.ensures.0 c.loop-digit.invariant.1 (omega (arith, c.loop-digit.invariant.2)) c.in-Some.ensures.1 refl (omega arith),
      omega (arith, c.loop-digit.invariant.1),
      omega arith,
    )
