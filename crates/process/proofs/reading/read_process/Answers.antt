use Rattle.std.proofs.lemmas.Result.{err_from_is_err_and}
use Rattle.process.proofs.WordLists.{no_reports}
use Rattle.process.proofs.reading.read_process.Goals as goal

pub returns-in_err-reports : goal.returns-in_err-reports
returns-in_err-reports c =
    let p = err_from_is_err_and c.from_residual-in_err-reports.result c.from_residual-in_err-reports.ensures.1 in
    rw (p.1, p.2) (no_reports c.in_err-reports.field-0.0 c.args.words.now c.take_kind.new.words c.take_name.new.words c.take_number.new.words c.take_number-2.new.words _ c.in-Some.name c.in_ok-epoch.epoch
    (c.take_kind.ensures.yes c.if-not-take_kind.false) c.in-Some.ensures.name.1 c.in_ok-epoch.ensures.1 c.in_err-reports.ensures)
