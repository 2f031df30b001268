use Rattle.std.proofs.lemmas.Result.{err_from_is_err_and}
use Rattle.report_line.specs.declared.marked.MarkedReport.{MarkedReport}
use Rattle.chains.specs.Held.{held_of}
use Rattle.chains.proofs.Turning.{refused_turn}
use Rattle.chains.proofs.chains.Chains.admit_shared.Goals as goal

pub returns-in_err-prepared : goal.returns-in_err-prepared
returns-in_err-prepared c =
    let m : MarkedReport = c.args.report in
    let p = err_from_is_err_and c.from_residual.result c.from_residual.ensures.1 in
    record { turn = rw (p.1, p.2) (refused_turn (held_of c.args.self.now) (held_of c.prepare_shared.new.self) m c.in_err-prepared.field-0.0 c.in_err-prepared.ensures.answer c.in_err-prepared.ensures.unchanged) }
