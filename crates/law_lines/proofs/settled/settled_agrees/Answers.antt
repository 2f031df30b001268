-- The clauses are proved in `Agreeing` and `Runs`.
use Rattle.law_lines.proofs.SettledAgreeing.{each_line_has_events}
use Rattle.law_lines.proofs.Runs.{settled_agrees}
use Rattle.law_lines.proofs.settled.settled_agrees.Goals as goal

pub returns-clause-events : goal.returns-clause-events
returns-clause-events c = each_line_has_events

pub returns-clause-kept : goal.returns-clause-kept
returns-clause-kept c = settled_agrees
