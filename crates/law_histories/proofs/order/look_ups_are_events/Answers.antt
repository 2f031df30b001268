-- The look-ups are read in `Rules`.
use Rattle.law_histories.proofs.Rules.{look_ups}
use Rattle.law_histories.proofs.order.look_ups_are_events.Goals as goal

pub returns : goal.returns
returns c = look_ups
