use Rattle.std.proofs.Common.{◌∙◌}
use Rattle.report_line.specs.declared.call.Call.TheVariants as calls
use Rattle.script.proofs.Taking.{once_then}
use Rattle.script.proofs.printing.print_at_once.Goals as goal

pub returns-clause-ok : goal.returns-clause-ok
returns-clause-ok c =
    once_then c.add_line.result c.args.printout.now
    (record { text = c.add_line.new.text; lines = c.add_line.new.lines; pending = c.args.printout.now.pending; births = c.args.printout.now.births; chains = c.take_report.new.chains })
    (calls.Report (record { epoch = c.args.epoch; report = c.args.report.now })) c.deref.result.now (c.deref.ensures.value ∙ c.in_ok-line.ensures) c.add_line.ensures.text c.add_line.ensures.counted
    c.requires c.in_ok-take_report.ensures
