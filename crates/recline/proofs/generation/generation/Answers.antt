-- `generation`: what the coordinator had at its opening is what the desk had.
use Rattle.std.proofs.lemmas.Result.{IfOk-weaker, IfErr-weaker}
use Rattle.recline.proofs.Generations.{ended_so, unsettled}
use Rattle.recline.proofs.generation.generation.Goals as goal

pub returns-in-Ok-clause-ok : goal.returns-in-Ok-clause-ok
returns-in-Ok-clause-ok g c =
    IfOk-weaker c.serve_in_room.result _ _ (λ s ends. ended_so g.D.Disk.keeps g.D.Disk.view g.K.Link.told c.args.desk c.in-Ok.coordinator s.desk c.in-Ok.ensures.ok ends) c.serve_in_room.ensures.ok

pub returns-in-Ok-clause-err : goal.returns-in-Ok-clause-err
returns-in-Ok-clause-err g c =
    IfErr-weaker c.serve_in_room.result _ _
    (λ u left. unsettled g.D.Disk.keeps g.D.Disk.view g.K.Link.told c.args.desk c.in-Ok.coordinator u.disk u.stop c.in-Ok.ensures.ok left)
    c.serve_in_room.ensures.err
