use Rattle.std.proofs.Common.{List, None}
use Rattle.session.specs.Exchanges.{Exchange}
use Rattle.session.specs.Lasting.{Rests, HasMoved, IsEnding}
use Rattle.session.specs.working.Resting.{standing, IsAnsweredOn}
use Rattle.session.proofs.lasting.answer.Given as goal

abbrev pub invariant-loop : goal.invariant-loop
invariant-loop g l =
    (HasMoved (standing l.fn.unanswered l.fn.stage) (standing l.unanswered l.stage) × (IsEnding l.fn.stage → ⊥))
    × ((begun : _) (turned : List Exchange) → Rests g.K.Link.told begun l.fn.link (standing l.fn.unanswered l.fn.stage) turned → IsAnsweredOn g.D.Disk.keeps g.D.Disk.view g.K.Link.told begun l.link (standing l.unanswered l.stage) turned l.fn.pass l.pass None)
