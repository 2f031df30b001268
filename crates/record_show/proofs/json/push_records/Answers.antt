use Rattle.record_show.proofs.Sequences.{three}
use Rattle.record_show.proofs.json.push_records.Goals as goal

pub returns : goal.returns
returns c = three _ _ _ _ _ _ _ c.in_ok-extend_from_slice.ensures.items c.in_ok-push_each_record.ensures c.in_ok-extend_from_slice-2.ensures.items
