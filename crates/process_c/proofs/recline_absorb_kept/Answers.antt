use Rattle.std.proofs.Common.{SFits, w64, rules}
use Rattle.process_c.proofs.Exported.{exported}
use Rattle.process_c.proofs.recline_absorb_kept.Goals as goal

pub returns : goal.returns
returns c =
    let fits : SFits w64 c.answer.result = search rules in
    exported c.answer.result fits c.absorb_kept.result (λ v. v.items) _ _ _ _ c.absorb_kept.ensures c.answer.ensures
