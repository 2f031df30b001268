use Rattle.std.proofs.Common.{◌-◌}
use Rattle.std.specs.Io.KnownBytes.{Keeps}
use Rattle.client_link.specs.Connections.{screened}
use Rattle.client_link.proofs.screen.Screened.look.Given as goal

abbrev pub invariant-loop-self : goal.invariant-loop-self
invariant-loop-self g l = Keeps (screened g.S.Read.remaining l.initial.self) (screened g.S.Read.remaining l.self)

abbrev pub decreases-loop-self : goal.decreases-loop-self
decreases-loop-self g l = 8 - l.self.held
