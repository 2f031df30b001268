use Rattle.std.proofs.Common.{inl}
use Rattle.recline.proofs.running.run_flushing.Goals as goal

pub returns-in-Ok : goal.returns-in-Ok
returns-in-Ok g c =
    let opened = c.in-Ok.ensures in
    inl (record {
      desk = c.in-Ok.desk;
      after = c.run_over-status.new.desk;
      opened = record { records = opened.records; opened = opened.opened; any_moment = opened.any_moment; fresh = opened.fresh; premise = opened.premise };
      runs = c.run_over-status.ensures;
      lawful = c.recall_lawful.ensures.lawful;
      disk_is = c.close.ensures.disk;
    })
