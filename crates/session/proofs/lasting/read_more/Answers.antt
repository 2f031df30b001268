use Rattle.std.proofs.Common.{◌<◌, length, take, rules, arith, refl}
use Rattle.std.proofs.lemmas.List.{length-take}
use Rattle.session.specs.declared.kind.SessionEndKind.TheVariants as kinds
use Rattle.session.proofs.FirstLines.{none_is_there, none_can_come, not_long}
use Rattle.session.proofs.Resting.{read_failed, read_end, read_on, refused, too_long, too_long_end, memory_end}
use Rattle.session.proofs.RestReasons.{ending_read}
use Rattle.session.proofs.lasting.read_more.Goals as goal

pub returns-then-is_long-clause-comes : goal.returns-then-is_long-clause-comes
returns-then-is_long-clause-comes g c = λ begun turned r.
    too_long_end g.K.Link.told begun _ _ c.args.unanswered.now turned _ _
    (too_long g.K.Link.told begun _ c.args.unanswered.now turned (none_can_come c.args.unanswered.now c.requires.no_line (c.if-is_long.ensures.0 refl)) (rw c.requires.listening at r)) c.begin_end.ensures

pub returns-in-Err-clause-comes : goal.returns-in-Err-clause-comes
returns-in-Err-clause-comes g c = λ begun turned r.
    read_failed g.K.Link.told begun _ _ c.args.unanswered.now turned c.in-Err.field-0 c.try_read.new.buf
    (none_is_there c.args.unanswered.now c.requires.no_line (not_long (length c.args.unanswered.now) c.if-is_long.ensures.1)) (rw c.requires.listening at r) c.in-Err.ensures.read

pub returns-in-Ok-Some-eq0-clause-comes : goal.returns-in-Ok-Some-eq0-clause-comes
returns-in-Ok-Some-eq0-clause-comes g c = λ begun turned r.
    read_end g.K.Link.told begun _ _ c.args.unanswered.now turned c.in-Ok-Some-eq0.field-0-0 c.try_read.new.buf
    (none_is_there c.args.unanswered.now c.requires.no_line (not_long (length c.args.unanswered.now) c.if-is_long.ensures.1)) c.in-Ok-Some-eq0.field-0-0-test (search rules) (rw c.requires.listening at r)
    (rw c.in-Ok-Some-eq0.field-0-is at c.in-Ok-Some-eq0.ensures.read)

pub returns-in-Ok-clause-comes : goal.returns-in-Ok-clause-comes
returns-in-Ok-clause-comes g c = λ begun turned r.
    let some : 0 < length (take c.in-Ok-Some.n c.try_read.new.buf) = omega (arith, length-take c.in-Ok-Some.n c.try_read.new.buf, rw c.in-Ok-Some.field-0-is at c.in-Ok-Some.ensures.bound, c.in-Ok-Some.n-test.1) in
    rw c.requires.listening
    (read_on g.K.Link.told begun _ _ c.args.unanswered.now c.add.new.self turned c.in-Ok-Some.n c.try_read.new.buf
    (none_is_there c.args.unanswered.now c.requires.no_line (not_long (length c.args.unanswered.now) c.if-is_long.ensures.1)) some c.in-Ok.ensures.ok (rw c.requires.listening at r) (rw c.in-Ok-Some.field-0-is at c.in-Ok-Some.ensures.read))

pub returns-in-Err-add-clause-comes : goal.returns-in-Err-add-clause-comes
returns-in-Err-add-clause-comes g c = λ begun turned r.
    let some : 0 < length (take c.in-Ok-Some.n c.try_read.new.buf) = omega (arith, length-take c.in-Ok-Some.n c.try_read.new.buf, rw c.in-Ok-Some.field-0-is at c.in-Ok-Some.ensures.bound, c.in-Ok-Some.n-test.1) in
    memory_end g.K.Link.told begun _ _ c.add.new.self turned _ _
    (refused g.K.Link.told begun _ _ c.args.unanswered.now turned c.in-Ok-Some.n c.try_read.new.buf
    (none_is_there c.args.unanswered.now c.requires.no_line (not_long (length c.args.unanswered.now) c.if-is_long.ensures.1)) some (rw c.requires.listening at r) (rw c.in-Ok-Some.field-0-is at c.in-Ok-Some.ensures.read))
    c.begin_end-in-Err-add.ensures

pub returns-then-is_long-clause-why : goal.returns-then-is_long-clause-why
returns-then-is_long-clause-why g c = ending_read g.K.NonblockingLink.finds_nothing kinds.TooLong _ _ _ _ c.args.unanswered.now c.args.unanswered.now _ _ c.begin_end.ensures

pub returns-in-Err-add-clause-why : goal.returns-in-Err-add-clause-why
returns-in-Err-add-clause-why g c = ending_read g.K.NonblockingLink.finds_nothing kinds.Memory _ _ _ _ c.args.unanswered.now c.add.new.self _ _ c.begin_end-in-Err-add.ensures
