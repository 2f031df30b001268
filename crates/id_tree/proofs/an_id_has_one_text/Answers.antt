use Rattle.id_tree.proofs.Texts.{one_spelling}
use Rattle.id_tree.proofs.an_id_has_one_text.Goals as goal

pub returns : goal.returns
returns c = one_spelling
