use Rattle.std.proofs.Common.{refl}
use Rattle.session.specs.declared.kind.SessionEndKind.TheVariants as kinds
use Rattle.session.proofs.FirstLines.{none_can_come}
use Rattle.session.proofs.Resting.{too_long, too_long_end}
use Rattle.session.proofs.RestReasons.{ending_without}
use Rattle.session.proofs.lasting.no_line.Goals as goal

pub returns-then-is_long-clause-comes : goal.returns-then-is_long-clause-comes
returns-then-is_long-clause-comes g c = λ begun turned r.
    too_long_end g.K.Link.told begun _ _ c.args.unanswered.now turned _ _
    (too_long g.K.Link.told begun _ c.args.unanswered.now turned (none_can_come c.args.unanswered.now c.requires.no_line (c.if-is_long.ensures.0 refl)) (rw c.requires.listening at r)) c.begin_end.ensures

pub returns-then-is_long-clause-why : goal.returns-then-is_long-clause-why
returns-then-is_long-clause-why g c = ending_without kinds.TooLong _ _ _ _ c.begin_end.ensures
