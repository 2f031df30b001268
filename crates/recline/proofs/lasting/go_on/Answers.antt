-- `go_on`: one coordinator more, and what comes behind it.
use Rattle.recline.proofs.Generations.{last_front, next_desk, not_renewed, stopped_after, stopped_unsettled}
use Rattle.recline.proofs.lasting.go_on.Goals as goal

pub returns-in-Err-clause-stopped : goal.returns-in-Err-clause-stopped
returns-in-Err-clause-stopped g c = λ first next.
    stopped_unsettled g.D.Disk.keeps g.D.Disk.view g.K.Link.told g.T.Door.has_failed first c.args.desk c.in-Err.unsettled.disk c.in-Err.unsettled.stop next c.in-Err.ensures.err

pub returns-in-Ok-renewed-clause-next : goal.returns-in-Ok-renewed-clause-next
returns-in-Ok-renewed-clause-next g c = λ first next.
    let is = c.in-Ok-renewed.ensures.renewed in
    next_desk g.D.Disk.keeps g.D.Disk.view g.K.Link.told first c.args.desk c.in-Ok.settled.desk c.in-Ok-renewed.renewed next c.in-Ok.ensures.ok
    (record { running = c.in-Ok-renewed.ensures.running; turned = c.in-Coordinator.ensures; held = is.0; opening = is.1; found = is.2; turns = is.3; disk = is.4 })

pub returns-in-Err-renewed-clause-stopped : goal.returns-in-Err-renewed-clause-stopped
returns-in-Err-renewed-clause-stopped g c = λ first next.
    stopped_after g.D.Disk.keeps g.D.Disk.view g.K.Link.told g.T.Door.has_failed first c.args.desk c.in-Ok.settled.desk c.in-Err-renewed.disk c.stop_for.result next c.in-Ok.ensures.ok c.in-Err-renewed.ensures.disk
    (not_renewed g.T.Door.has_failed c.in-Ok.settled.desk.held.stopped c.in-Err-renewed.fault c.stop_for.result c.in-Err-renewed.ensures.why c.stop_for.ensures.device c.stop_for.ensures.memory)

pub returns-in-End-clause-ended : goal.returns-in-End-clause-ended
returns-in-End-clause-ended g c = λ first next.
    last_front g.D.Disk.keeps g.D.Disk.view g.K.Link.told g.T.Door.is_over first c.args.desk c.in-Ok.settled.desk c.close-disk.result c.front-front.result next c.in-Ok.ensures.ok c.close-disk.ensures.disk c.front-front.ensures c.in-End.ensures

pub returns-in-Stop-clause-stopped : goal.returns-in-Stop-clause-stopped
returns-in-Stop-clause-stopped g c = λ first next.
    stopped_after g.D.Disk.keeps g.D.Disk.view g.K.Link.told g.T.Door.has_failed first c.args.desk c.in-Ok.settled.desk c.close-disk-in-Stop.result c.in-Stop.stop next c.in-Ok.ensures.ok c.close-disk-in-Stop.ensures.disk c.in-Stop.ensures
