use Rattle.std.proofs.Common.{arith}
use Rattle.earlier_file.proofs.Walked.{cut_there, too_few}
use Rattle.earlier_file.proofs.cutting.cut_at.Goals as goal

pub returns-then-gate-front-clause-refused : goal.returns-then-gate-front-clause-refused
returns-then-gate-front-clause-refused c = too_few c.args.front c.args.file.now c.in_ok-gate.gate c.in_ok-gate.ensures.placed c.if-gate-front.true

pub returns-clause-ok : goal.returns-clause-ok
returns-clause-ok c = cut_there c.args.front c.args.file.now c.in_ok-gate.gate c.in_ok-gate.ensures.placed (omega arith)
