use Rattle.stamp.proofs.Texts.{plain}
use Rattle.stamp.proofs.texts_of_stamps_are_plain.Goals as goal

pub returns : goal.returns
returns c = plain
