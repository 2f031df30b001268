use Rattle.law_admission.proofs.OneByOne.{accepted_in_order}
use Rattle.law_admission.proofs.handing.hand_over.Goals as goal

pub returns-clause-lawful : goal.returns-clause-lawful
returns-clause-lawful c = accepted_in_order c.args.chains.now c.admit_each.new.chains c.args.reports.now c.admit_each.result c.admit_each.ensures
