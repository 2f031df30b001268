use Rattle.std.proofs.Common.{arith}
use Rattle.std.proofs.Math.Nat.{div-le_self}
use Rattle.knows_row.proofs.by_runs.fn.look_by_runs.run.Goals as goal

pub overflow_add-start : goal.overflow_add-start
overflow_add-start g c = omega (arith, div-le_self c.args.start c.captures.size, c.requires, c.recall_lawful.ensures.known_at_most)
