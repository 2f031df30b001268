use Rattle.std.proofs.lemmas.Result.{IfOk-weaker}
use Rattle.recline.proofs.copied.store_behind.Goals as goal

pub returns : goal.returns
returns c = IfOk-weaker c.store_of.result _ _ (λ store stands. c.files_are_of_one_kind.ensures.one_list c.args.bytes.now _ _ stands c.requires.0) c.store_of.ensures
