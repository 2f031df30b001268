use Rattle.std.proofs.Common.{◌∙◌, refl}
use Rattle.script.proofs.Taking.{report_then}
use Rattle.script.proofs.printing.print_waiting.Goals as goal

pub returns-clause-ok : goal.returns-clause-ok
returns-clause-ok c =
    report_then c.add_line.result c.args.printout.now
    (record { text = c.add_line.new.text; lines = c.add_line.new.lines; pending = c.put_waiting.new.pending; births = c.births_with-births.result; chains = c.args.printout.now.chains }) c.args.epoch c.in_ok-report.report
    c.args.report c.deref.result.now c.in_ok-report.ensures (c.deref.ensures.value ∙ c.in_ok-line.ensures) c.add_line.ensures.text c.add_line.ensures.counted
    c.in_ok-put_waiting.ensures refl
