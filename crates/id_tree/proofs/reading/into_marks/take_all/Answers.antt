use Rattle.std.proofs.Common.{sym, ◌∙◌, eqb-true}
use Rattle.id_tree.proofs.Takes.{whole, unnormal, no_whole, halt_of_whole}
use Rattle.id_tree.proofs.reading.into_marks.take_all.Goals as goal

pub returns-then-not-is_empty-clause-err : goal.returns-then-not-is_empty-clause-err
returns-then-not-is_empty-clause-err c = no_whole 40 c.args.text.now c.args.out.now.items _ c.in-Ok.taken c.in-Ok.ensures.ok (sym c.is_empty.ensures ∙ c.if-not-is_empty.true)

pub returns-then-is_normal-clause-ok : goal.returns-then-is_normal-clause-ok
returns-then-is_normal-clause-ok c = whole c.args.text.now c.args.out.now.items _ c.in-Ok.taken c.in-Ok.ensures.ok c.requires (eqb-true _ _ (sym c.is_empty.ensures ∙ c.if-not-is_empty.false)) (sym c.is_normal.ensures ∙ c.if-is_normal.true)

pub returns-else-is_normal-clause-err : goal.returns-else-is_normal-clause-err
returns-else-is_normal-clause-err c = unnormal 40 c.args.text.now c.args.out.now.items _ c.in-Ok.taken c.in-Ok.ensures.ok (eqb-true _ _ (sym c.is_empty.ensures ∙ c.if-not-is_empty.false)) (sym c.is_normal.ensures ∙ c.if-is_normal.false)

pub returns-in-Err-clause-err : goal.returns-in-Err-clause-err
returns-in-Err-clause-err c = halt_of_whole c.in-Err.halt c.args.text.now c.in-Err.ensures.err
