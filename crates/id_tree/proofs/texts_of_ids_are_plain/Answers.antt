use Rattle.id_tree.proofs.Texts.{plain}
use Rattle.id_tree.proofs.texts_of_ids_are_plain.Goals as goal

pub returns : goal.returns
returns c = plain
