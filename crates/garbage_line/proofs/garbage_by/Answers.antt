use Rattle.std.proofs.lemmas.Result.{IfOk-weaker}
use Rattle.chains.specs.Held.{held_of}
use Rattle.garbage_line.proofs.EveryFailed.{is_garbage_line}
use Rattle.garbage_line.proofs.garbage_by.Goals as goal

pub returns : goal.returns
returns c =
    IfOk-weaker c.certificate_by.result _ _ (λ certificate made. is_garbage_line (held_of c.args.chains.now) c.in_ok-all.all certificate c.in_ok-all.ensures made c.recall_lawful.ensures.folded)
    c.certificate_by.ensures
