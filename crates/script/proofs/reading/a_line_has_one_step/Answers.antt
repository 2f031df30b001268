use Rattle.script.proofs.OneStep.{one_step, root_or_step, one_settle, settle_or_step, settle_or_root}
use Rattle.script.proofs.reading.a_line_has_one_step.Goals as goal

pub returns : goal.returns
returns c = record { step = one_step; root = root_or_step; settle = one_settle; settle_or_step = settle_or_step; settle_or_root = settle_or_root }
