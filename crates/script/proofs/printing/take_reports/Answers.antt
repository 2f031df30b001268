use Rattle.chains.specs.Held.{held_of}
use Rattle.script.proofs.Taking.{one_turned}
use Rattle.script.proofs.printing.take_reports.Goals as goal

pub loop-report-preserved : goal.loop-report-preserved
loop-report-preserved c = (
  one_turned (held_of c.args.chains.now) (held_of c.loop-report.chains) (held_of c.take_waiting.new.chains) c.loop-report.yielded c.in-Some.report c.in_ok-take_waiting.ensures.0 c.loop-report.invariant.0
      c.in_ok-take_waiting.ensures.1,
  tt,
  tt,
)
