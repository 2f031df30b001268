use Rattle.std.proofs.Common.{List, ℕ, subst}
use Rattle.script.specs.Spelling.{FindsOne}
use Rattle.script.specs.working.Spelling.{IsStepOf}
use Rattle.script.proofs.OneStep.{found_step}
use Rattle.script.proofs.reading.read_step.Goals as goal

pub returns : goal.returns
returns c = found_step c.args.line.now c.step_of.result (subst (λ (words : List (List ℕ)). FindsOne c.step_of.result (IsStepOf words)) c.of-words.ensures c.step_of.ensures)
