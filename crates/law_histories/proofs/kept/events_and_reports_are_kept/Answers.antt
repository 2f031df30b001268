-- The clauses are proved in `Carried`.
use Rattle.law_histories.proofs.Carried.{each_event_is_kept, each_report_is_kept}
use Rattle.law_histories.proofs.kept.events_and_reports_are_kept.Goals as goal

pub returns-clause-events : goal.returns-clause-events
returns-clause-events c = each_event_is_kept

pub returns-clause-reports : goal.returns-clause-reports
returns-clause-reports c = each_report_is_kept
