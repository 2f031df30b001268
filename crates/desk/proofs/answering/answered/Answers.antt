use Rattle.desk.proofs.Writing.{by_report, by_settlement}
use Rattle.desk.proofs.Following.{report_follows}
use Rattle.desk.proofs.answering.answered.Goals as goal

pub returns-in-Report-clause-followed : goal.returns-in-Report-clause-followed
returns-in-Report-clause-followed g c = λ runs.
    report_follows c.args.chains.now _ _ c.args.call.now c.in-Report.report c.report_placed.result c.in-Report.is runs c.report_placed.ensures.turn c.report_placed.ensures.spelled

pub returns-in-Report-clause-writes : goal.returns-in-Report-clause-writes
returns-in-Report-clause-writes g c =
    by_report g.D.Disk.keeps g.D.Disk.view g.D.Disk.failed _ _ c.args.chains.now.epoch c.args.call.now c.in-Report.report c.report_placed.result c.in-Report.is c.report_placed.ensures.writes

pub returns-in-Settle-clause-writes : goal.returns-in-Settle-clause-writes
returns-in-Settle-clause-writes g c =
    by_settlement g.D.Disk.keeps g.D.Disk.view g.D.Disk.failed _ _ c.args.chains.now.epoch c.args.call.now _ _ c.settlement_placed.result c.in-Settle.is c.settlement_placed.ensures.writes
