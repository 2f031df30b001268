use Rattle.script.proofs.ByNames.{unknown_line}
use Rattle.script.proofs.naming.line_for.Goals as goal

pub returns-in-Err-Unknown : goal.returns-in-Err-Unknown
returns-in-Err-Unknown c =
    unknown_line c.args.chains.now.accepted c.args.names.now c.in-Err-Unknown.field-0 c.in-Err-Unknown.field-0-0 c.new.result.items c.in-Err-Unknown.ensures c.in-Err-Unknown.field-0-is c.new.ensures.items
