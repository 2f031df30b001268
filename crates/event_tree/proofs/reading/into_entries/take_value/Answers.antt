use Rattle.std.proofs.Common.{sym}
use Rattle.event_tree.proofs.Takes.{value_seen}
use Rattle.event_tree.proofs.reading.into_entries.take_value.Goals as goal

pub returns-then-not-is_ascii_digit : goal.returns-then-not-is_ascii_digit
returns-then-not-is_ascii_digit c = value_seen c.args.text.now c.from.result c.if-text-ge2.true (sym c.if-is_ascii_digit.ensures.value) c.from.ensures
