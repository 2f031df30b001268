use Rattle.report_line.proofs.Rows.{named_push_if, named_pushed}
use Rattle.report_line.proofs.row.Names.push.Goals as goal

pub invariant_of-self : goal.invariant_of-self
invariant_of-self c =
    named_push_if c.self.inside.text.items c.append_name.new.text.items c.as_bytes.result.now c.append_name.result c.append_name.ensures.ok c.append_name.ensures.err c.self.invariant (rw c.as_bytes.ensures.value c.as_bytes.ensures.name)

pub returns-clause-ok : goal.returns-clause-ok
returns-clause-ok c =
    rw (← c.self.view_is, ← c.as_bytes.ensures.value)
    (named_pushed c.self.inside.text.items c.append_name.new.text.items c.as_bytes.result.now c.append_name.result c.append_name.ensures.ok c.self.invariant (rw c.as_bytes.ensures.value c.as_bytes.ensures.name))
