use Rattle.std.proofs.Common.{subst}
use Rattle.std.specs.Prelude.{OnOk}
use Rattle.report_line.specs.declared.call.Call.TheVariants as calls
use Rattle.script.specs.working.Driving.{PrintsAtOnce}
use Rattle.script.proofs.Taking.{caught_then}
use Rattle.script.proofs.printing.print_made.Goals as goal

pub returns-clause-ok : goal.returns-clause-ok
returns-clause-ok c =
    caught_then c.print_at_once.result c.args.printout.now c.catch_up.new.printout c.print_at_once.new.printout (record { epoch = c.args.epoch; report = c.args.report }) c.in_ok-catch_up.ensures.kept
    c.in_ok-catch_up.ensures.none_waits
    (subst (λ r. OnOk c.print_at_once.result (PrintsAtOnce c.catch_up.new.printout (calls.Report (record { epoch = c.args.epoch; report = r })) c.print_at_once.new.printout)) c.of-report.ensures
    c.print_at_once.ensures.ok)
