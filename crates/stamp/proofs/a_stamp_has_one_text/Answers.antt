use Rattle.stamp.proofs.Texts.{one_text}
use Rattle.stamp.proofs.a_stamp_has_one_text.Goals as goal

pub returns : goal.returns
returns c = λ s t is are e. one_text s t e is are
