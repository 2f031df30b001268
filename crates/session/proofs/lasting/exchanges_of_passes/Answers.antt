use Rattle.session.proofs.Resting.{another_pass, answered_more}
use Rattle.session.proofs.lasting.exchanges_of_passes.Goals as goal

pub returns-clause-renewed : goal.returns-clause-renewed
returns-clause-renewed g c = another_pass g.D.Disk.keeps g.D.Disk.view

pub returns-clause-answered : goal.returns-clause-answered
returns-clause-answered g c = answered_more g.D.Disk.keeps g.D.Disk.view
