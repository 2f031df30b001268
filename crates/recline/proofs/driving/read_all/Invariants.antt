use Rattle.std.proofs.Common.{◌≡◌}
use Rattle.client_link.specs.Links.{up, IsSound}
use Rattle.recline.specs.Driving.{OnlyReads}
use Rattle.recline.proofs.driving.read_all.Given as goal

abbrev pub invariant-loop : goal.invariant-loop
invariant-loop g l = record {
  only : OnlyReads (g.K.Link.told l.fn.link) (g.K.Link.told l.link) l.bytes.items;
  sound : IsSound (g.K.Link.told l.fn.link) (g.K.Link.told l.link);
  reads : (g.K.Link.told l.link).reads ≡ up l.counter (g.K.Link.told l.fn.link).reads;
}
