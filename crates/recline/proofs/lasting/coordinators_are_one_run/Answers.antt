use Rattle.recline.proofs.Generations.{one_run}
use Rattle.recline.proofs.lasting.coordinators_are_one_run.Goals as goal

pub returns : goal.returns
returns g c = one_run g.D.Disk.keeps g.D.Disk.view g.K.Link.told
