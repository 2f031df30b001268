use Rattle.std.proofs.Common.{rules}
use Rattle.report_line.proofs.row.Names.write_to.Goals as goal

pub returns-clause-ok : goal.returns-clause-ok
returns-clause-ok c = rw (← c.self.view_is, ← c.deref.ensures.value, ← c.word_of.ensures) (search rules)
