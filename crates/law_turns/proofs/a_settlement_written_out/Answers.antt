-- The clauses are proved in `Written` and `WrittenInOrder`.
use Rattle.law_turns.proofs.Written.{settled_once_is_taken, settled_once_is_right, its_run_is_once_settled}
use Rattle.law_turns.proofs.WrittenInOrder.{settled_once_is_in_order, its_last_report_can_be_next}
use Rattle.law_turns.proofs.a_settlement_written_out.Goals as goal

pub returns-clause-turns : goal.returns-clause-turns
returns-clause-turns c = settled_once_is_taken

pub returns-clause-processes : goal.returns-clause-processes
returns-clause-processes c = settled_once_is_right

pub returns-clause-run : goal.returns-clause-run
returns-clause-run c = its_run_is_once_settled

pub returns-clause-in_order : goal.returns-clause-in_order
returns-clause-in_order c = settled_once_is_in_order

pub returns-clause-can_be_next : goal.returns-clause-can_be_next
returns-clause-can_be_next c = its_last_report_can_be_next
