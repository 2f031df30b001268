use Rattle.std.proofs.Common.{SFits, w64, rules}
use Rattle.process_c.proofs.Exported.{exported}
use Rattle.process_c.proofs.recline_again.Goals as goal

pub returns : goal.returns
returns c =
    let fits : SFits w64 c.answer.result = search rules in
    exported c.answer.result fits c.again.result (λ v. v.items) _ _ _ _ c.again.ensures c.answer.ensures
