use Rattle.reasons.proofs.Taking.{alone}
use Rattle.reasons.proofs.reading.number_of.Goals as goal

pub returns-in_ok-from_str-in-None : goal.returns-in_ok-from_str-in-None
returns-in_ok-from_str-in-None c = alone c.args.chains.now.accepted c.args.text.now _ c.in_ok-from_str-in-None.ensures.ok c.in-None.ensures
