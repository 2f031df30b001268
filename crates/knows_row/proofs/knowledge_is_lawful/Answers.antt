use Rattle.knows_row.proofs.Lawful.{lawful}
use Rattle.knows_row.proofs.knowledge_is_lawful.Goals as goal

pub returns : goal.returns
returns c = lawful
