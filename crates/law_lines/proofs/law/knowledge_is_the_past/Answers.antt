-- The law is proved in `Known`.
use Rattle.law_lines.proofs.Known.{the_law}
use Rattle.law_lines.proofs.law.knowledge_is_the_past.Goals as goal

pub returns : goal.returns
returns c root h accepted premise x e at q k is_known other chosen = the_law root h accepted premise x e at q k is_known other chosen
