use Rattle.std.proofs.Common.{sym}
use Rattle.report_line.proofs.Rows.{wrong_here, wrong_behind, wrong_last, none_wrong}
use Rattle.report_line.proofs.readers.wrong_part.Goals as goal

pub returns-then-not-is_name : goal.returns-then-not-is_name
returns-then-not-is_name c =
    wrong_here c.args.word.now c.loop-part.rest.now c.in-Some.part.now c.in-Some.behind.now c.loop-part.invariant c.in-Some.ensures.0 c.in-Some.ensures.1 (sym c.if-not-is_name.ensures)

pub loop-part-preserved : goal.loop-part-preserved
loop-part-preserved c =
    wrong_behind c.args.word.now c.loop-part.rest.now c.in-Some.part.now c.in-Some.behind.now c.loop-part.invariant c.in-Some.ensures.0 c.in-Some.ensures.1 (sym c.if-not-is_name.ensures)

pub returns-then-is_name : goal.returns-then-is_name
returns-then-is_name c = none_wrong c.args.word.now c.loop-part.rest.now c.loop-part.invariant c.in_default.ensures (sym c.if-is_name.ensures)

pub returns-else-is_name : goal.returns-else-is_name
returns-else-is_name c = wrong_last c.args.word.now c.loop-part.rest.now c.loop-part.invariant c.in_default.ensures (sym c.if-is_name.ensures)
