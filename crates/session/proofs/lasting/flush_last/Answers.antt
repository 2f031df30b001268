use Rattle.session.proofs.Resting.{reply_failed, end_gone, end_failed}
use Rattle.session.proofs.lasting.flush_last.Goals as goal

pub returns-in-Err-clause-goes : goal.returns-in-Err-clause-goes
returns-in-Err-clause-goes g c = λ begun turned unanswered r. reply_failed g.K.Link.told begun _ _ unanswered turned _ (rw c.in-Replying.is at r) c.in-Err.ensures.flushed

pub returns-in-Ok-true-try_flush-clause-goes : goal.returns-in-Ok-true-try_flush-clause-goes
returns-in-Ok-true-try_flush-clause-goes g c = λ begun turned unanswered r. end_gone g.K.Link.told begun _ _ unanswered c.in-Ending.kind turned (rw c.in-Ending.is at r) (rw c.in-Ok-true-try_flush.field-0-test at c.in-Ok-true-try_flush.ensures.flushed)

pub returns-in-Err-try_flush-clause-goes : goal.returns-in-Err-try_flush-clause-goes
returns-in-Err-try_flush-clause-goes g c = λ begun turned unanswered r. end_failed g.K.Link.told begun _ _ unanswered c.in-Ending.kind turned _ (rw c.in-Ending.is at r) c.in-Err-try_flush.ensures.flushed
