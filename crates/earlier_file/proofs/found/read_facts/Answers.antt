use Rattle.std.proofs.Common.{inr, arith}
use Rattle.earlier_file.proofs.Walked.{told_of}
use Rattle.earlier_file.proofs.found.read_facts.Goals as goal

pub returns-clause-ok : goal.returns-clause-ok
returns-clause-ok c = inr (omega arith, told_of c.args.file.now c.in_ok-gate.gate c.in_ok-gate.ensures.placed)
