use Rattle.driver.proofs.Recovery.{settlement_keeps_reports}
use Rattle.driver.proofs.a_settlement_keeps_reports.Goals as goal

pub returns : goal.returns
returns c = settlement_keeps_reports
