-- `close`: the desk under the lock is one that does not go with the passes.
use Rattle.std.proofs.Common.{rules}
use Rattle.coordinator.proofs.coordinator.Coordinator.close.Goals as goal

pub returns-in-Err-clause-cause : goal.returns-in-Err-clause-cause
returns-in-Err-clause-cause g c = record { desk = c.into_inner.result.desk; lawful = search rules; cause = search rules }
