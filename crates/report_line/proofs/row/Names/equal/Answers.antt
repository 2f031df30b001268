use Rattle.report_line.proofs.Rows.{same_texts}
use Rattle.report_line.proofs.row.Names.equal.Goals as goal

pub returns : goal.returns
returns c =
    same_texts c.self.inside.text.items c.other.inside.text.items c.args.self.now c.args.other.now c.are_same.result c.self.view_is c.other.view_is
    (rw (← c.deref.ensures.value, ← c.deref-2.ensures.value) c.are_same.ensures)
