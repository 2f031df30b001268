use Rattle.law_histories.proofs.JoinFirst.{joins_first, not_lawful}
use Rattle.law_histories.proofs.order.joining_first_is_not_lawful.Goals as goal

pub returns : goal.returns
returns c = record { joined = joins_first; unlawful = not_lawful }
