use Rattle.std.specs.Prelude.{◌≤◌}
use Rattle.client_link.proofs.leaving.Leaving.read_away.Given as goal

abbrev pub invariant-loop : goal.invariant-loop
invariant-loop l = l.initial.self.away ≤ l.self.away
