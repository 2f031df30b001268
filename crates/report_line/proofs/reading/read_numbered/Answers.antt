use Rattle.std.proofs.lemmas.Result.{err_from_is_err_and}
use Rattle.report_line.proofs.OneCall.{marked_fault}
use Rattle.report_line.proofs.reading.read_numbered.Goals as goal

pub returns-in_err-fields : goal.returns-in_err-fields
returns-in_err-fields c =
    let p = err_from_is_err_and c.from_residual.result c.from_residual.ensures.1 in
    rw (p.1, p.2) (marked_fault c.in_err-fields.field-0.0 c.args.kind.now c.in-Some.word.now c.in-Some.epoch c.args.words.now c.requires c.in-Some.ensures c.in_err-fields.ensures)
