use Rattle.std.proofs.Common.{sym}
use Rattle.id_tree.proofs.Steps.{ended_by, reads_zero, reads_one, reads_open, reads_comma, reads_close}
use Rattle.id_tree.proofs.reading.first_fault.step.Goals as goal

pub returns-in-48-None-clause-ok : goal.returns-in-48-None-clause-ok
returns-in-48-None-clause-ok c = reads_zero _ _ _ c.in-48-None.is-0 c.in-48-None.is-1

pub returns-in-49-None-clause-ok : goal.returns-in-49-None-clause-ok
returns-in-49-None-clause-ok c = reads_one _ _ _ c.in-49-None.is-0 c.in-49-None.is-1

pub returns-in_ok-push-in-40-None-clause-ok : goal.returns-in_ok-push-in-40-None-clause-ok
returns-in_ok-push-in-40-None-clause-ok c = reads_open _ _ _ _ c.in-40-None.is-0 c.in-40-None.is-1 c.in_ok-push-in-40-None.ensures.items

pub returns-in_ok-push-in-Some-Left-clause-ok : goal.returns-in_ok-push-in-Some-Left-clause-ok
returns-in_ok-push-in-Some-Left-clause-ok c =
    reads_comma _ _ _ _ _ _ c.in-44-Some.is-0 c.in-44-Some.is-1 (ended_by _ _ _ _ c.in-Some-Left.field-0-is c.in-Some-Left.ensures.items)
    (ended_by _ _ _ _ c.right_of.ensures c.in_ok-push-in-Some-Left.ensures.items)

pub returns-in-Some-left_of-clause-ok : goal.returns-in-Some-left_of-clause-ok
returns-in-Some-left_of-clause-ok c = rw c.pair_of.ensures (reads_close _ _ _ _ _ _ _ c.in-41-Some.is-0 c.in-41-Some.is-1 c.in-Some.ensures.items (sym c.in-Some-left_of.ensures))
