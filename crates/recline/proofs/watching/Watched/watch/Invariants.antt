use Rattle.recline.specs.Notices.{TellsNotices}
use Rattle.recline.proofs.watching.Watched.watch.Given as goal

abbrev pub invariant-loop : goal.invariant-loop
invariant-loop g l = TellsNotices (g.W.Link.told l.initial.self.warnings) (g.W.Link.told l.self.warnings)
