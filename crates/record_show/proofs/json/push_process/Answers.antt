use Rattle.record_show.proofs.Sequences.{seven}
use Rattle.record_show.proofs.json.push_process.Goals as goal

pub returns : goal.returns
returns c = seven _ _ _ _ _ _ _ _ _ _ _ _ _ _ _ c.in_ok-push_comma.ensures (rw c.as_bytes.ensures.value at c.in_ok-push_string.ensures) (rw c.state_word.ensures at c.in_ok-push_string-2.ensures) c.in_ok-push_counts.ensures (rw c.as_bytes-2.ensures at c.in_ok-push_string-3.ensures)
    c.in_ok-push_lost.ensures c.in_ok-extend_from_slice.ensures.items
