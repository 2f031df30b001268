use Rattle.script.proofs.Unsettled.{prints_reports}
use Rattle.script.proofs.driving.a_script_without_settlements_prints_the_reports.Goals as goal

pub returns : goal.returns
returns c = prints_reports
