use Rattle.desk.proofs.Turning.{left_same}
use Rattle.desk.proofs.desk.Desk.close.Goals as goal

pub returns-clause-left : goal.returns-clause-left
returns-clause-left g c = left_same g.D.Disk.keeps g.D.Disk.view c.args.self c.recall_lawful.ensures.lawful c.close.result (rw (← c.self.view_is) c.close.ensures)
