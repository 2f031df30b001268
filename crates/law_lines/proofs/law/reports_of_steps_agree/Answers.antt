-- Agreement is proved in `Agreement`.
use Rattle.law_lines.proofs.Agreement.{fronts_agree, reports_of_steps_agree}
use Rattle.law_lines.proofs.law.reports_of_steps_agree.Goals as goal

pub returns-clause-all : goal.returns-clause-all
returns-clause-all c = reports_of_steps_agree

pub returns-clause-front : goal.returns-clause-front
returns-clause-front c = fronts_agree
