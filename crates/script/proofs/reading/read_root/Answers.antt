use Rattle.std.proofs.Common.{List, ℕ, subst}
use Rattle.script.specs.Spelling.{FindsOne}
use Rattle.script.specs.working.Spelling.{IsRootOf}
use Rattle.script.proofs.OneStep.{found_root}
use Rattle.script.proofs.reading.read_root.Goals as goal

pub returns : goal.returns
returns c = found_root c.args.line.now c.root_of.result (subst (λ (words : List (List ℕ)). FindsOne c.root_of.result (IsRootOf words)) c.of-words.ensures c.root_of.ensures)
