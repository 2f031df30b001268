use Rattle.std.proofs.Common.{sym, ◌∙◌}
use Rattle.id_tree.proofs.Texts.{one_spelling}
use Rattle.id_tree.proofs.Id.parse.Goals as goal

pub returns-in-Ok-clause-only : goal.returns-in-Ok-clause-only
returns-in-Ok-clause-only c = λ t n e. one_spelling _ t (sym c.in-Ok.ensures.ok.spelled ∙ e)
