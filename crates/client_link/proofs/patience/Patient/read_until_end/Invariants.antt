-- `Patient::read_until_end`: nobody else requests the end.
use Rattle.std.specs.Prelude.{◌≡◌}
use Rattle.client_link.proofs.patience.Patient.read_until_end.Given as goal

abbrev pub invariant-loop : goal.invariant-loop
invariant-loop g l = l.self.end ≡ l.initial.self.end
