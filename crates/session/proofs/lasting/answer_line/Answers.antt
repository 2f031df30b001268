use Rattle.std.proofs.Common.{◌∙◌, refl}
use Rattle.session.specs.declared.kind.SessionEndKind.TheVariants as kinds
use Rattle.session.specs.declared.stage.Stage.TheVariants as stages
use Rattle.session.specs.working.Resting.{standing}
use Rattle.session.proofs.Resting.{due_or_on, replied, replied_bye, reply_cut, no_memory, none_there, line_dropped}
use Rattle.session.proofs.RestReasons.{ending_line_so, ending_moved, line_moved, moved_on, without_line}
use Rattle.session.proofs.lasting.answer_line.Goals as goal

pub returns-in_default-clause-comes : goal.returns-in_default-clause-comes
returns-in_default-clause-comes g c = λ begun turned r. none_there g.D.Disk.keeps g.D.Disk.view g.K.Link.told begun _ _ turned _ _ (c.no_line.ensures.comes begun turned r)

pub returns-in-None-clause-comes : goal.returns-in-None-clause-comes
returns-in-None-clause-comes g c = λ begun turned r.
    rw (c.drop_front.ensures ∙ line_dropped c.args.unanswered.now c.in-Some.line.now c.in-Some.ensures.1.0 _ refl c.in-Some.ensures.1.1)
    (due_or_on g.D.Disk.keeps g.D.Disk.view g.K.Link.told begun _ _ turned _ _ c.due_behind.result c.due_behind.ensures
    (replied g.D.Disk.keeps g.D.Disk.view g.K.Link.told begun _ _ c.args.unanswered.now c.in-Some.line.now c.in-Some.ensures.1.0 turned _ _ c.in-Some.ensures.0 c.in-Some.ensures.1.1 (rw c.requires at r) c.in-None.ensures.served))

pub returns-in-Some-Bye-clause-comes : goal.returns-in-Some-Bye-clause-comes
returns-in-Some-Bye-clause-comes g c = λ begun turned r.
    replied_bye g.D.Disk.keeps g.D.Disk.view g.K.Link.told begun _ _ c.args.unanswered.now c.in-Some.line.now c.in-Some.ensures.1.0 turned _ _ c.in-Some.ensures.0 c.in-Some.ensures.1.1 (rw c.requires at r) c.args.unanswered.now
    (rw c.in-Some-Bye.field-0-is at c.in-Some-Bye.ensures.served)

pub returns-in-Some-WriteFailed-clause-comes : goal.returns-in-Some-WriteFailed-clause-comes
returns-in-Some-WriteFailed-clause-comes g c = λ begun turned r.
    reply_cut g.D.Disk.keeps g.D.Disk.view g.K.Link.told begun _ _ c.args.unanswered.now c.in-Some.line.now c.in-Some.ensures.1.0 turned _ _ c.in-Some.ensures.0 c.in-Some.ensures.1.1 (rw c.requires at r) (standing c.args.unanswered.now c.args.stage.now)
    (rw c.in-Some-WriteFailed.field-0-is at c.in-Some-WriteFailed.ensures.served)

pub returns-in-Some-Memory-clause-comes : goal.returns-in-Some-Memory-clause-comes
returns-in-Some-Memory-clause-comes g c = λ begun turned r.
    no_memory g.D.Disk.keeps g.D.Disk.view g.K.Link.told begun _ _ _ c.args.unanswered.now c.in-Some.line.now c.in-Some.ensures.1.0 turned _ _ _ _ c.in-Some.ensures.0 c.in-Some.ensures.1.1 (rw c.requires at r)
    (rw c.in-Some-Memory.field-0-is at c.in-Some-Memory.ensures.untouched) (rw c.in-Some-Memory.field-0-is at c.in-Some-Memory.ensures.served) c.begin_end.ensures

pub returns-in_default-clause-why : goal.returns-in_default-clause-why
returns-in_default-clause-why g c = without_line _ c.args.unanswered.now _ _ c.requires c.in_default.ensures c.no_line.ensures.why

pub returns-in-None-clause-why : goal.returns-in-None-clause-why
returns-in-None-clause-why g c =
    moved_on c.due_behind.result _ _ c.due_behind.ensures
    (line_moved c.args.unanswered.now c.in-Some.line.now c.in-Some.ensures.1.0 _ c.args.stage.now stages.Replying c.in-Some.ensures.1.1
    (c.drop_front.ensures ∙ line_dropped c.args.unanswered.now c.in-Some.line.now c.in-Some.ensures.1.0 _ refl c.in-Some.ensures.1.1))

pub returns-in-Some-Bye-clause-why : goal.returns-in-Some-Bye-clause-why
returns-in-Some-Bye-clause-why g c = ending_moved c.args.unanswered.now c.args.unanswered.now _ _ kinds.Bye c.requires refl

pub returns-in-Some-Memory-clause-why : goal.returns-in-Some-Memory-clause-why
returns-in-Some-Memory-clause-why g c = ending_line_so kinds.Memory _ _ c.args.unanswered.now c.args.unanswered.now _ _ _ c.requires c.begin_end.ensures
