use Rattle.desk.proofs.Reopening.{reopened}
use Rattle.desk.proofs.OwnFile.{own_refused}
use Rattle.desk.proofs.desk.Desk.reopen.Goals as goal

pub returns-in-Ok-clause-records : goal.returns-in-Ok-clause-records
returns-in-Ok-clause-records g c = λ keeps.
    let seen = g.met.D.Disk.read_is_left c.args.self.disk keeps in
    let records = rw c.close.ensures.disk at c.in-Ok.ensures.records in
    let lawful = c.recall_lawful.ensures.lawful in
    reopened c.args.self _ c.in-Ok.desk.found c.in-Ok.desk.held lawful.admitted (λ one pending. (lawful.pending one pending).1) (lawful.left keeps _ seen) (records keeps) c.in-Ok.ensures.opened

pub returns-in-Err-clause-refused : goal.returns-in-Err-clause-refused
returns-in-Err-clause-refused g c = λ keeps.
    let seen = g.met.D.Disk.read_is_left c.args.self.disk keeps in
    let refused = rw c.close.ensures.disk at c.in-Err.ensures.refused in
    let lawful = c.recall_lawful.ensures.lawful in
    own_refused _ _ c.args.self.held.epoch c.args.self.turns _ lawful.admitted (λ one pending. (lawful.pending one pending).1) (lawful.left keeps _ seen) c.in-Err.refused.0 (refused keeps)
