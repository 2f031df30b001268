use Rattle.script.proofs.Known.{chains_hold_the_reports, known_settlement_is_closed, known_settlement_is_taken}
use Rattle.script.proofs.driving.a_settlement_for_known_processes_is_taken.Goals as goal

pub returns-clause-held : goal.returns-clause-held
returns-clause-held c = chains_hold_the_reports

pub returns-clause-closed : goal.returns-clause-closed
returns-clause-closed c = known_settlement_is_closed

pub returns-clause-taken : goal.returns-clause-taken
returns-clause-taken c = known_settlement_is_taken
