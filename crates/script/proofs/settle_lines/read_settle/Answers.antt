use Rattle.std.specs.Prelude.{Some, None}
use Rattle.script.proofs.Listed.{no_list, settle_found}
use Rattle.script.proofs.settle_lines.read_settle.Goals as goal

pub returns-in_default : goal.returns-in_default
returns-in_default c = no_list c.args.line.now c.of-words.result c.of-words.ensures c.in_default.ensures

pub returns-in-Ok : goal.returns-in-Ok
returns-in-Ok c = settle_found c.args.line.now c.in-Some.list.now c.of-words.result c.of-words.ensures c.in-Some.ensures (Some c.in-Ok.names) c.in-Ok.ensures

pub returns-in-Err-Grammar : goal.returns-in-Err-Grammar
returns-in-Err-Grammar c =
    settle_found c.args.line.now c.in-Some.list.now c.of-words.result c.of-words.ensures c.in-Some.ensures None (rw c.in-Err-Grammar.field-0-is at c.in-Err-Grammar.ensures)
