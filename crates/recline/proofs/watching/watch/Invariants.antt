use Rattle.recline.specs.Notices.{TellsNotices}
use Rattle.recline.proofs.watching.watch.Given as goal

abbrev pub invariant-loop : goal.invariant-loop
invariant-loop g l = TellsNotices (g.W.Link.told l.initial.warnings) (g.W.Link.told l.warnings)
