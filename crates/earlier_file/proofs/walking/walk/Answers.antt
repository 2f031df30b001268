use Rattle.std.proofs.Common.{arith}
use Rattle.earlier_file.proofs.Walked.{one_walked, none_behind}
use Rattle.earlier_file.proofs.walking.walk.Goals as goal

pub loop-count-preserved : goal.loop-count-preserved
loop-count-preserved c = record {
  few = omega arith;
  walked = one_walked c.args.version c.loop-count.count c.loop-count.at c.in-Some.field-0-0 c.args.bytes.now c.split_at.result.1.now c.in-Some.field-0-1.now c.in-Some.behind.now
      c.loop-count.invariant.walked c.if-bytes-at-eq-OPEN.true c.split_at.ensures.back c.in-Some.ensures.some;
}

pub returns-in_default-clause-damaged : goal.returns-in_default-clause-damaged
returns-in_default-clause-damaged c = (
  none_behind c.args.version c.loop-count.count c.loop-count.at c.args.bytes.now c.split_at.result.1.now c.loop-count.invariant.walked c.if-bytes-at-eq-OPEN.true c.split_at.ensures.back c.in_default.ensures.none,
  omega arith,
)
