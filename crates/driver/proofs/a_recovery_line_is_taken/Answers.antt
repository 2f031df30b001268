use Rattle.driver.proofs.Recovery.{recovery_line_is_taken}
use Rattle.driver.proofs.a_recovery_line_is_taken.Goals as goal

pub returns : goal.returns
returns c = recovery_line_is_taken
