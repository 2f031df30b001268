use Rattle.record_show.proofs.Sequences.{three}
use Rattle.record_show.proofs.columns.push_lost_in.Goals as goal

pub returns : goal.returns
returns c = three _ _ _ _ _ _ _ c.in_ok-extend_from_slice.ensures.items (rw c.as_bytes.ensures.value at c.in_ok-extend_from_slice-2.ensures.items) c.in_ok-extend_from_slice-3.ensures.items
