use Rattle.std.proofs.Common.{refl}
use Rattle.line_explain.proofs.Streamed.{new_after}
use Rattle.line_explain.proofs.stream.Explanations.new.Goals as goal

pub returns : goal.returns
returns c = new_after _ c.new.ensures refl refl
