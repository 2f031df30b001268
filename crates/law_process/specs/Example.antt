-- Accounts that are written out: so the laws of calls speak of something.
use Rattle.std.specs.Prelude.{ℕ, false, List, [], ◌∷◌, Some}
use Rattle.std.specs.Fmt.{decimal}
use Rattle.id_tree.specs.IdTree.{IdTree, One}
use Rattle.event_tree.specs.EventTree.{EventTree, Leaf}
use Rattle.report_line.specs.declared.call.Call.TheVariants as calls
use Rattle.report_line.specs.declared.code.Code.TheVariants.{OtherEpoch}
use Rattle.report_line.specs.declared.reply.Reply.TheVariants.{Accepted, No, Settled, Taken}
use Rattle.report_line.specs.declared.report.ReportKind.TheVariants as reported
use Rattle.report_line.specs.declared.report.Report.TheVariants as reports
use Rattle.report_line.specs.declared.report.Report.{Report}
use Rattle.report_line.specs.histories.History.{Name}
use Rattle.report_line.specs.Spelling.{spelling}
use Rattle.chains.specs.Held.{Held, counting}
use Rattle.law_histories.specs.Example.{a, b, left, right, halves, told, forked}
use Rattle.law_turns.specs.Traces.{AreTurns}
use Rattle.law_turns.specs.Example.{marked, held_then}
use Rattle.process.specs.declared.process.Process.{Process}
use Rattle.process.specs.declared.handed.Message.{Message}
use Rattle.process.specs.declared.handed.Start.{Start}
use Rattle.process.specs.declared.handed.Retirement.{Retirement}
use Rattle.law_process.specs.Accounts.{Work, Send, Again, Receive, Check, Present, Fork, Begin, Retire, Absorb, Return, made, Did, Took, Account, traced}
use Rattle.law_process.specs.Handing.{AreHandedOver}

-- a process that returned so far and made so many reports, with its stamp
abbrev pub state : Name → ℕ → ℕ → IdTree → EventTree → Process
state name epoch reports id values = record { name = name; epoch = epoch; reports = reports; stamp = record { id = id; events = values } }

-- the line of a report of this epoch
abbrev pub line_of : ℕ → Report → List ℕ
line_of epoch report = spelling (calls.Report (record { epoch = epoch; report = report }))

-- ---- every kind of call but a return

-- what a is, from its beginning to its last call, and what b is
abbrev pub a0 : Process
a0 = state a 0 0 One (Leaf 0)

abbrev pub a1 : Process
a1 = state a 0 1 left (Leaf 1)

abbrev pub a2 : Process
a2 = state a 0 1 left (halves 1 1 0)

abbrev pub a3 : Process
a3 = state a 0 1 left (halves 1 2 0)

abbrev pub a4 : Process
a4 = state a 0 2 left (halves 1 3 0)

abbrev pub a5 : Process
a5 = state a 0 3 One (Leaf 5)

abbrev pub b0 : Process
b0 = state b 0 0 right (Leaf 1)

abbrev pub b1 : Process
b1 = state b 0 0 right (Leaf 3)

abbrev pub b2 : Process
b2 = state b 0 1 right (halves 3 0 1)

abbrev pub b3 : Process
b3 = state b 0 2 right (halves 3 0 2)

-- what they hand over
abbrev pub start_of_b : Start
start_of_b = record { child = b; epoch = 0; stamp = record { id = right; events = Leaf 1 } }

abbrev pub message : Message
message = record { epoch = 0; events = halves 1 2 0 }

abbrev pub end_of_b : Retirement
end_of_b = record { process = b; epoch = 0; target = a; stamp = record { id = right; events = halves 3 0 2 } }

-- a forks b, works, and hands one message over twice; b receives it, makes a checkpoint and retires; a shows its present state and absorbs b.
abbrev pub family : Account
family =
    Did (made (Fork start_of_b (line_of 0 (told a 1 One (Leaf 1) (forked b)))) a0 a1)
    ∷ Did (made (Begin 0 start_of_b) b0 b0)
    ∷ Did (made Work a1 a2)
    ∷ Did (made (Send message) a2 a3)
    ∷ Did (made (Again 3 message message) a3 a3)
    ∷ Did (made (Receive 3 message) b0 b1)
    ∷ Did (made (Check (line_of 0 (told b 1 right (halves 3 0 1) reported.Check))) b1 b2)
    ∷ Did (made (Present (line_of 0 (told a 2 left (halves 1 3 0) reported.Present))) a3 a4)
    ∷ Did (made (Retire a end_of_b (line_of 0 (told b 2 right (halves 3 0 2) (reported.Retire a)))) b2 b3)
    ∷ Did (made (Absorb 8 end_of_b (line_of 0 (told a 3 One (Leaf 5) (reported.Absorb b)))) a4 a5)
    ∷ []

abbrev pub AFamilyIsPossible : Type 0
AFamilyIsPossible = AreHandedOver a [] [] family

-- ---- a settlement and a return

-- what a is: at its checkpoint, with its present state, behind that, at its checkpoint again, and behind its fork
abbrev pub c1 : Process
c1 = state a 0 1 One (Leaf 1)

abbrev pub c2 : Process
c2 = state a 0 2 One (Leaf 2)

abbrev pub c3 : Process
c3 = state a 0 2 One (Leaf 3)

abbrev pub c4 : Process
c4 = state a 1 1 One (Leaf 1)

abbrev pub c5 : Process
c5 = state a 1 2 left (Leaf 2)

abbrev pub d0 : Process
d0 = state b 1 0 right (Leaf 2)

abbrev pub d1 : Process
d1 = state b 1 1 right (halves 2 0 1)

abbrev pub start_again : Start
start_again = record { child = b; epoch = 1; stamp = record { id = right; events = Leaf 2 } }

-- The trace with one settlement, by calls: a returns to its checkpoint, and its child begins in the new epoch.
abbrev pub returned : Account
returned =
    Took (marked 0 (reports.Begin a)) (Accepted 1)
    ∷ Did (made (Check (line_of 0 (told a 1 One (Leaf 1) reported.Check))) a0 c1)
    ∷ Took (marked 0 (told a 1 One (Leaf 1) reported.Check)) (Accepted 2)
    ∷ Did (made (Present (line_of 0 (told a 2 One (Leaf 2) reported.Present))) c1 c2)
    ∷ Took (marked 0 (told a 2 One (Leaf 2) reported.Present)) (Accepted 3)
    ∷ Took (calls.Settle 3 (a ∷ [])) (Settled 1 4)
    ∷ Did (made Work c2 c3)
    ∷ Took (marked 0 (told a 2 One (Leaf 2) reported.Present)) (No OtherEpoch (Some a) (Some (decimal 1)))
    ∷ Did (made (Return 1) c1 c4)
    ∷ Did (made (Fork start_again (line_of 1 (told a 2 One (Leaf 2) (forked b)))) c4 c5)
    ∷ Took (marked 1 (told a 2 One (Leaf 2) (forked b))) (Accepted 5)
    ∷ Did (made (Begin 4 start_again) d0 d0)
    ∷ Did (made (Check (line_of 1 (told b 1 right (halves 2 0 1) reported.Check))) d0 d1)
    ∷ Took (marked 1 (told b 1 right (halves 2 0 1) reported.Check)) (Accepted 6)
    ∷ Took (calls.Line (a ∷ [])) (Taken 6)
    ∷ []

abbrev pub AReturnIsPossible : Type 0
AReturnIsPossible = AreTurns (counting []) (traced 0 returned) held_then × AreHandedOver a [] [] returned

-- ---- a retirement and a message that a settlement keeps

-- what a is: at its checkpoint, there again, behind its absorption, and behind its receipt; and what b is behind its sending, and ended as
abbrev pub a_at_checkpoint : Process
a_at_checkpoint = state a 0 2 left (halves 1 1 0)

abbrev pub a_there_again : Process
a_there_again = state a 1 2 left (halves 1 1 0)

abbrev pub a_with_b : Process
a_with_b = state a 1 3 One (Leaf 3)

abbrev pub a_behind_receipt : Process
a_behind_receipt = state a 1 3 One (Leaf 4)

abbrev pub b_behind_sending : Process
b_behind_sending = state b 0 0 right (halves 1 0 1)

abbrev pub b_ended : Process
b_ended = state b 0 1 right (halves 1 0 2)

-- what they hand over: the message as b sends it, and with the new epoch
abbrev pub message_of_b : Message
message_of_b = record { epoch = 0; events = halves 1 0 1 }

abbrev pub message_again : Message
message_again = record { epoch = 1; events = halves 1 0 1 }

abbrev pub early_end_of_b : Retirement
early_end_of_b = record { process = b; epoch = 0; target = a; stamp = record { id = right; events = halves 1 0 2 } }

-- a forks b and makes a checkpoint; b sends a message to a, and retires into it. A settlement keeps all of that. a returns to its checkpoint,
-- and absorbs b's retirement, which is of the epoch before; and it hands over b's message once more, with the new epoch, and receives it.
abbrev pub kept : Account
kept =
    Took (marked 0 (reports.Begin a)) (Accepted 1)
    ∷ Did (made (Fork start_of_b (line_of 0 (told a 1 One (Leaf 1) (forked b)))) a0 a1)
    ∷ Took (marked 0 (told a 1 One (Leaf 1) (forked b))) (Accepted 2)
    ∷ Did (made (Check (line_of 0 (told a 2 left (halves 1 1 0) reported.Check))) a1 a_at_checkpoint)
    ∷ Took (marked 0 (told a 2 left (halves 1 1 0) reported.Check)) (Accepted 3)
    ∷ Did (made (Begin 0 start_of_b) b0 b0)
    ∷ Did (made (Send message_of_b) b0 b_behind_sending)
    ∷ Did (made (Retire a early_end_of_b (line_of 0 (told b 1 right (halves 1 0 2) (reported.Retire a)))) b_behind_sending b_ended)
    ∷ Took (marked 0 (told b 1 right (halves 1 0 2) (reported.Retire a))) (Accepted 4)
    ∷ Took (calls.Settle 4 []) (Settled 1 5)
    ∷ Did (made (Return 1) a_at_checkpoint a_there_again)
    ∷ Did (made (Absorb 4 early_end_of_b (line_of 1 (told a 3 One (Leaf 3) (reported.Absorb b)))) a_there_again a_with_b)
    ∷ Took (marked 1 (told a 3 One (Leaf 3) (reported.Absorb b))) (Accepted 6)
    ∷ Did (made (Again 3 message_of_b message_again) a_with_b a_with_b)
    ∷ Did (made (Receive 3 message_again) a_with_b a_behind_receipt)
    ∷ []

-- what is held then: all reports, of which the last one is of epoch 1
abbrev pub held_behind : Held
held_behind = record {
  accepted =
      reports.Begin a ∷ told a 1 One (Leaf 1) (forked b) ∷ told a 2 left (halves 1 1 0) reported.Check ∷ told b 1 right (halves 1 0 2) (reported.Retire a)
      ∷ told a 3 One (Leaf 3) (reported.Absorb b) ∷ [];
  epochs = 0 ∷ 0 ∷ 0 ∷ 0 ∷ 1 ∷ [];
  front = 6;
  epoch = 1;
  stopped = false;
}

abbrev pub AKeptRetirementIsPossible : Type 0
AKeptRetirementIsPossible = AreTurns (counting []) (traced 0 kept) held_behind × AreHandedOver a [] [] kept
