use Rattle.std.proofs.Common.{arith}
use Rattle.event_tree.proofs.Lengths.{one_digit}
use Rattle.event_tree.proofs.writing.with_digits.Goals as goal

pub returns-then-n-lt10-clause-are : goal.returns-then-n-lt10-clause-are
returns-then-n-lt10-clause-are c = omega (arith, one_digit c.args.n (omega arith))
