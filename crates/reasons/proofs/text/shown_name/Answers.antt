use Rattle.reasons.proofs.PlainNames.{name_bytes, name_utf8}
use Rattle.reasons.proofs.text.shown_name.Goals as goal

pub unreachable-requires : goal.unreachable-requires
unreachable-requires c = c.in-Err.ensures.cases.0 (rw c.as_bytes.ensures.value (name_utf8 c.name_of.result.now c.as_bytes.ensures.name))

pub returns-clause-plain : goal.returns-clause-plain
returns-clause-plain c = rw (c.in-Ok.ensures.cases.0, c.as_bytes.ensures.value) (name_bytes c.name_of.result.now c.as_bytes.ensures.name)
