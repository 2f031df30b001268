use Rattle.std.proofs.Common.{sym}
use Rattle.event_tree.proofs.Takes.{base_seen}
use Rattle.event_tree.proofs.reading.into_entries.take_base.Goals as goal

pub returns-then-is_ascii_digit : goal.returns-then-is_ascii_digit
returns-then-is_ascii_digit c = base_seen c.args.text.now c.from.result c.if-text-ge3.true c.if-text-eq40.true c.if-text-eq44.true (sym c.if-is_ascii_digit.ensures.value) c.from.ensures
