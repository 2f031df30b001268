-- A trace with a settlement among its turns, written out: so the laws of traces speak of something.
use Rattle.std.specs.Prelude.{ℕ, false, [], ◌∷◌, Some, All, drop}
use Rattle.std.specs.Fmt.{decimal}
use Rattle.id_tree.specs.IdTree.{One}
use Rattle.event_tree.specs.EventTree.{Leaf}
use Rattle.report_line.specs.declared.call.Call.{Call}
use Rattle.report_line.specs.declared.call.Call.TheVariants as calls
use Rattle.report_line.specs.declared.code.Code.TheVariants.{OtherEpoch}
use Rattle.report_line.specs.declared.reply.Reply.TheVariants.{Accepted, No, Settled, Taken}
use Rattle.report_line.specs.declared.report.ReportKind.TheVariants as reported
use Rattle.report_line.specs.declared.report.Report.{Report}
use Rattle.report_line.specs.declared.report.Report.TheVariants.{Begin}
use Rattle.report_line.specs.declared.step.StepKind.TheVariants.{Work, Check, Present, Fork}
use Rattle.chains.specs.Held.{Held, counting}
use Rattle.law_histories.specs.Example.{a, b, left, right, halves, act, told, forked}
use Rattle.law_admission.specs.HandedOver.{handed_over, IsNext, IsTargetBorn, HasLine}
use Rattle.law_lines.specs.Runs.{Run, current, accepted}
use Rattle.law_lines.specs.TwoSettlements.{once_settled}
use Rattle.law_turns.specs.Traces.{Trace, Stepped, Turned, AreTurns, Extends, ProcessesObey}
use Rattle.law_turns.specs.InOrder.{AllComeNext}

-- the call with this report and its mark
abbrev pub marked : ℕ → Report → Call
marked epoch r = calls.Report (record { epoch = epoch; report = r })

-- a makes a checkpoint and shows its present state. It fails, and its present state is undone; before it has heard of that it
-- works on, and its report of the undone state, sent once more, is refused. Then it goes on from its checkpoint and forks b, which
-- makes a checkpoint; and a line is asked for.
abbrev pub settled_once : Trace
settled_once =
    Turned (marked 0 (Begin a)) (Accepted 1)
    ∷ Stepped 0 (act a Check One (Leaf 1))
    ∷ Turned (marked 0 (told a 1 One (Leaf 1) reported.Check)) (Accepted 2)
    ∷ Stepped 0 (act a Present One (Leaf 2))
    ∷ Turned (marked 0 (told a 2 One (Leaf 2) reported.Present)) (Accepted 3)
    ∷ Turned (calls.Settle 3 (a ∷ [])) (Settled 1 4)
    ∷ Stepped 0 (act a Work One (Leaf 3))
    ∷ Turned (marked 0 (told a 2 One (Leaf 2) reported.Present)) (No OtherEpoch (Some a) (Some (decimal 1)))
    ∷ Stepped 1 (act a (Fork b right) left (Leaf 2))
    ∷ Turned (marked 1 (told a 2 One (Leaf 2) (forked b))) (Accepted 5)
    ∷ Stepped 1 (act b Check right (halves 2 0 1))
    ∷ Turned (marked 1 (told b 1 right (halves 2 0 1) reported.Check)) (Accepted 6)
    ∷ Turned (calls.Line (a ∷ [])) (Taken 6)
    ∷ []

-- what is held then: a's present state is gone, and its reports since the settlement are of epoch 1
abbrev pub held_then : Held
held_then = record {
  accepted =
      Begin a ∷ told a 1 One (Leaf 1) reported.Check ∷ told a 2 One (Leaf 2) (forked b) ∷ told b 1 right (halves 2 0 1) reported.Check ∷ [];
  epochs = 0 ∷ 0 ∷ 1 ∷ 1 ∷ [];
  front = 6;
  epoch = 1;
  stopped = false;
}

abbrev pub SettledOnceIsTaken : Type 0
SettledOnceIsTaken = AreTurns (counting []) settled_once held_then

abbrev pub SettledOnceIsRight : Type 0
SettledOnceIsRight = ProcessesObey a [] settled_once

abbrev pub ItsRunIsOnceSettled : Type 0
ItsRunIsOnceSettled = Extends a [] settled_once once_settled

-- Each of its reports comes next of the current history, also those behind the settlement.
abbrev pub SettledOnceIsInOrder : Type 0
SettledOnceIsInOrder = AllComeNext a [] settled_once

-- the run before the last report of b is accepted
abbrev pub before_last : Run
before_last = drop 1 once_settled

-- That report comes next behind the settlement, and all that is handed over has lines: so the premises are possible there.
abbrev pub ItsLastReportCanBeNext : Type 0
ItsLastReportCanBeNext =
    IsNext a (current before_last) (accepted before_last) (told b 1 right (halves 2 0 1) reported.Check)
    × IsTargetBorn a (current before_last) (told b 1 right (halves 2 0 1) reported.Check) × All HasLine (handed_over a (current before_last))
