use Rattle.record_show.proofs.Sequences.{five}
use Rattle.record_show.proofs.json.push_file.Goals as goal

pub returns : goal.returns
returns c = five _ _ _ _ _ _ _ _ _ _ _ c.in_ok-push_number.ensures c.in_ok-push_number-2.ensures c.in_ok-push_number-3.ensures c.in_ok-push_number-4.ensures c.in_ok-push_number-5.ensures
