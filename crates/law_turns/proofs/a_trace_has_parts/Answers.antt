-- The clauses are proved in `Parted`.
use Rattle.law_turns.proofs.Parted.{turns_alone, turns_in_parts, processes_obey_in_parts}
use Rattle.law_turns.proofs.a_trace_has_parts.Goals as goal

pub returns-clause-alone : goal.returns-clause-alone
returns-clause-alone c = turns_alone

pub returns-clause-turns : goal.returns-clause-turns
returns-clause-turns c = turns_in_parts

pub returns-clause-processes : goal.returns-clause-processes
returns-clause-processes c = processes_obey_in_parts
