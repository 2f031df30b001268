use Rattle.client_link.proofs.Screening.{none_held, read_past}
use Rattle.client_link.proofs.screen.ScreenedRead.read.Goals as goal

pub returns-clause-bytes : goal.returns-clause-bytes
returns-clause-bytes g c =
    let seen = c.look.new.self in
    read_past seen.look _ _ _ _ c.read.result c.read.new.buf c.in_default.not-Whole c.in_ok-look.ensures.told (none_held seen.first seen.given seen.held c.if-self.false) c.in_ok-look.ensures.kept c.read.ensures.bytes
