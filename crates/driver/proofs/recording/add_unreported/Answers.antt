use Rattle.driver.proofs.Stepped.{silently_ready, silently_taken}
use Rattle.driver.proofs.recording.add_unreported.Goals as goal

pub add-requires-clause-ready : goal.add-requires-clause-ready
add-requires-clause-ready c =
    silently_ready c.args.tables.now c.reserve.new.tables c.args.asked.now.process c.copy.result c.args.asked.now.request c.args.step_kind c.args.stamp c.args.reports
    c.requires.makes c.reserve.ensures.unchanged c.copy.ensures

pub returns : goal.returns
returns c =
    silently_taken c.args.tables.now c.reserve.new.tables c.add.new.tables c.args.asked.now c.copy.result c.args.step_kind c.args.stamp c.args.reports
    c.requires.makes c.reserve.ensures.unchanged c.copy.ensures c.add.ensures
