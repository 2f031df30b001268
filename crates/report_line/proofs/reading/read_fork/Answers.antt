use Rattle.std.proofs.lemmas.Result.{err_from_is_err_and}
use Rattle.report_line.proofs.OneCall.{no_second_id}
use Rattle.report_line.proofs.reading.read_fork.Goals as goal

pub returns-in_err-given : goal.returns-in_err-given
returns-in_err-given c =
    let p = err_from_is_err_and c.from_residual-in_err-given.result c.from_residual-in_err-given.ensures.1 in
    rw (p.1, p.2) (no_second_id c.in_err-given.field-0.0 c.args.words.now c.take_id.new.words c.take_name.new.words c.take_id-2.new.words c.in_ok-kept.kept c.in-Some.child c.in_ok-kept.ensures.1 c.in-Some.ensures.name.1 c.in_err-given.ensures)
