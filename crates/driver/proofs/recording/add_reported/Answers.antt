use Rattle.driver.proofs.Stepped.{openly_ready, openly_taken}
use Rattle.driver.proofs.recording.add_reported.Goals as goal

pub add-requires-clause-ready : goal.add-requires-clause-ready
add-requires-clause-ready c =
    openly_ready c.args.tables.now c.reserve.new.tables c.args.asked.now.process c.copy-2.result c.copy.result c.args.asked.now.request c.args.step_kind c.args.stamp c.args.other
    c.args.number c.args.reported c.args.action c.requires.makes c.know_report.ensures c.reserve.ensures.unchanged c.copy-2.ensures c.copy.ensures

pub returns : goal.returns
returns c =
    openly_taken c.args.tables.now c.reserve.new.tables c.add.new.tables c.args.asked.now c.copy-2.result c.copy.result c.args.step_kind c.args.stamp c.args.other
    c.args.number c.args.reported c.args.action c.requires.makes c.reserve.ensures.unchanged c.copy-2.ensures c.copy.ensures c.add.ensures
