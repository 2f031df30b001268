use Rattle.session.proofs.OverDesk.{desk_lawful, ended_at_desk}
use Rattle.session.proofs.over_desk.run_watched.Goals as goal

pub serve-requires-clause-laws : goal.serve-requires-clause-laws
serve-requires-clause-laws g c = desk_lawful g.D.Disk.keeps

pub returns-clause-session : goal.returns-clause-session
returns-clause-session g c = ended_at_desk g.D.Disk.keeps g.K.Link.told c.args.when _ _ _ _ _ _ c.recall_lawful.ensures.reached c.serve.ensures.session
