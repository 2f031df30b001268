use Rattle.session.proofs.Gaining.{pass_lawful, link_served}
use Rattle.session.proofs.over_coordinator.serve_link.Goals as goal

pub serve-end-requires-clause-laws : goal.serve-end-requires-clause-laws
serve-end-requires-clause-laws g c = pass_lawful g.D.Disk.keeps g.D.Disk.view

pub returns : goal.returns
returns g c = link_served g.D.Disk.keeps g.D.Disk.view g.K.Link.told _ _ _ _ _ _ _ c.serve-end.ensures.session c.serve-end.ensures.leaves c.end.ensures
