-- `serve_over`: its sessions, and how the coordinator ended after them.
use Rattle.recline.proofs.Stopping.{ended_so, ends_served, ends_stopped}
use Rattle.recline.proofs.serving.serve_over.Goals as goal

pub returns-in-Ok-clause-ok : goal.returns-in-Ok-clause-ok
returns-in-Ok-clause-ok g c =
    let sessions = c.serve_clients-sessions.result in
    let clients = c.serve_clients-sessions.ensures in
    let ends = c.in-Ok.ensures in
    let so = ended_so _ _ c.finish_watched-finished.result c.finish_watched-finished.ensures.ok ends.ended ends.remains in
    let due = c.sessions_due-due in (
      due.result,
      due.ensures,
      ends_served g.D.Disk.keeps g.D.Disk.view _ c.args.coordinator due.result sessions.dropped sessions.passes.items so.0.turns so.0.front so.0.disk sessions.stop c.stop_behind-stop.result
          (g.O.Link.told c.args.output.now) (g.O.Link.told c.serve_clients-sessions.new.output) (g.O.Link.told c.end_service.new.output) c.in-Ok.disk
          clients.served c.stop_behind-stop.ensures clients.printed so.1 so.2,
    )

pub returns-clause-err : goal.returns-clause-err
returns-clause-err g c =
    let sessions = c.serve_clients-sessions.result in
    let clients = c.serve_clients-sessions.ensures in
    let stopped = c.in-Err.stopped in
    let due = c.sessions_due-due in (
      due.result,
      due.ensures,
      ends_stopped g.D.Disk.keeps g.D.Disk.view _ c.args.coordinator due.result sessions.dropped sessions.passes.items (λ e. e.turns) (λ e. e.front) (λ e. e.disk) (λ r. r.fault) (λ r. r.ended.turns) (λ r. r.ended.front) (λ r. r.ended.disk) c.finish_watched-finished.result sessions.stop c.stop_behind-stop.result
          (g.O.Link.told c.args.output.now) (g.O.Link.told c.serve_clients-sessions.new.output) (g.O.Link.told c.end_service.new.output) stopped.disk stopped.stop
          clients.served c.stop_behind-stop.ensures clients.printed c.finish_watched-finished.ensures.ok c.finish_watched-finished.ensures.left c.in-Err.ensures.ended c.in-Err.ensures.remains,
    )
