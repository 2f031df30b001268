use Rattle.session.proofs.RestReasons.{line_or_none}
use Rattle.session.proofs.lasting.has_line.Goals as goal

pub returns-in-None-clause-none : goal.returns-in-None-clause-none
returns-in-None-clause-none c = λ is line answers. line_or_none c.args.unanswered.now line c.in-None.ensures
