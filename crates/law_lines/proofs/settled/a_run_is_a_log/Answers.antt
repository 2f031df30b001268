-- The law is proved in `Logs`.
use Rattle.law_lines.proofs.Logs.{runs_are_logs}
use Rattle.law_lines.proofs.settled.a_run_is_a_log.Goals as goal

pub returns : goal.returns
returns c = runs_are_logs
