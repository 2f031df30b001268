-- What the records of a file say, and what is held of them.
use Rattle.std.specs.Prelude.{◌≡◌, ℕ, ◌-◌, List, [], ◌∷◌, ◌++◌, ⊤}
use Rattle.std.specs.List.{flat_map}
use Rattle.record_file.specs.File.{Said}
use Rattle.report_line.specs.Reports.{unmarked}
use Rattle.report_line.specs.Spelling.{spelling, HasSpelling}
use Rattle.report_line.specs.declared.report.Report.{Report}
use Rattle.report_line.specs.declared.report.Report.TheVariants.{Begin, Numbered}
use Rattle.report_line.specs.declared.marked.MarkedReport.{MarkedReport}
use Rattle.report_line.specs.declared.call.Call.{Call}
use Rattle.report_line.specs.declared.call.Call.TheVariants as calls
use Rattle.report_line.specs.declared.reply.Reply.{Reply}
use Rattle.report_line.specs.declared.reply.Reply.TheVariants.{Accepted, Settled}
use Rattle.chains.specs.Processes.{Name}
use Rattle.chains.specs.Held.{Held, counting, with_report}
use Rattle.chains.specs.Admission.{Passes}
use Rattle.chains.specs.Settled.{IsSettled}
use Rattle.chains.specs.Turns.{PassesSettle}
use Rattle.desk.specs.declared.turn.Turn.{Turn}

-- the line of a report, without a mark
abbrev pub line_of : Report → List ℕ
line_of r = spelling (calls.Report (unmarked r))

abbrev pub settle_line : ℕ → List Name → List ℕ
settle_line front names = spelling (calls.Settle front names)

-- what the record of a report says: its epoch, and its line
abbrev pub said_of : MarkedReport → Said
said_of m = (m.epoch, line_of m.report)

-- where the report has no mark, these bytes are its line
abbrev pub IsUnmarkedLine : List ℕ → MarkedReport → Type 0
IsUnmarkedLine line m = m.epoch ≡ 0 → line ≡ line_of m.report

-- where the call is a report without a mark, these bytes are its line
abbrev pub IsReadOff : List ℕ → Call → Type 0
IsReadOff line (calls.Report m) = IsUnmarkedLine line m
IsReadOff line _ = ⊤

-- what the record of a settlement says: the epoch before it, and its line
abbrev pub said_settled : ℕ → ℕ → List Name → Said
said_settled epoch front names = (epoch, settle_line front names)

-- ---- what opening admits

-- the calls whose lines are records: reports without a mark, and settlements
abbrev pub IsRecorded : Call → Type 0
IsRecorded (calls.Report m) = m.epoch ≡ 0
IsRecorded (calls.Settle front names) = ⊤
IsRecorded _ = ⊥

-- the record is the line of this call
pub record IsLineOf (one : Said) (call : Call) : Type 0 where
  pub spelled : HasSpelling call
  pub recorded : IsRecorded call
  pub line : one.1 ≡ spelling call

abbrev pub marked : ℕ → Report → MarkedReport
marked epoch r = record { epoch = epoch; report = r }

-- With this epoch the call is admitted over what is held, and this is held then.
abbrev pub AdmitsCall : Held → ℕ → Call → Held → Type 0
AdmitsCall held epoch (calls.Report m) after = Passes held (marked epoch m.report) × (after ≡ with_report held (marked epoch m.report))
AdmitsCall held epoch (calls.Settle front names) after = (epoch ≡ held.epoch) × PassesSettle held front names × IsSettled held names after
AdmitsCall held epoch _ after = ⊥

-- the record is admitted over what is held, and this is held then
pub record Admits (held : Held) (one : Said) (after : Held) : Type 0 where
  pub call : Call
  pub is_line : IsLineOf one call
  pub admits : AdmitsCall held one.0 call after

-- Opening admits these records in their order, from nothing on, and comes to what is held.
pub data Opens : List Said → Held → Type 0 where
  no_records : Opens [] (counting [])
  one_more : {said : List Said} {held : Held} (one : Said) (after : Held) → Opens said held → Admits held one after → Opens (said ++ one ∷ []) after

-- opening some records comes to what is held
abbrev pub IsOpened : Held → Type 0
IsOpened held = (said : List Said) × Opens said held

abbrev pub IsBegin : Report → Type 0
IsBegin (Begin p) = ⊤
IsBegin (Numbered r) = ⊥

-- ---- what turns record

-- over this epoch, what the record of the call says, if it has one
abbrev pub IsRecordOf : ℕ → Call → Said → Type 0
IsRecordOf epoch (calls.Report m) one = one ≡ said_of m
IsRecordOf epoch (calls.Settle front names) one = one ≡ said_settled epoch front names
IsRecordOf epoch _ one = ⊥

-- the record of a report that was accepted
abbrev pub report_recorded : MarkedReport → Reply → List Said
report_recorded m (Accepted front) = said_of m ∷ []
report_recorded m _ = []

-- the record of a settlement that was accepted; the reply tells the epoch behind it
abbrev pub settlement_recorded : ℕ → List Name → Reply → List Said
settlement_recorded front names (Settled epoch now) = said_settled (epoch - 1) front names ∷ []
settlement_recorded front names _ = []

-- the record of a call with this reply, if one was written
abbrev pub recorded_by : Call → Reply → List Said
recorded_by (calls.Report m) reply = report_recorded m reply
recorded_by (calls.Settle front names) reply = settlement_recorded front names reply
recorded_by _ reply = []

-- the record's line has the one spelling of its call
abbrev pub IsRecordedCall : Call → Type 0
IsRecordedCall (calls.Report m) = HasSpelling (calls.Report (unmarked m.report))
IsRecordedCall (calls.Settle front names) = HasSpelling (calls.Settle front names)
IsRecordedCall _ = ⊥

-- the records of turns that were answered OK or SETTLED, in order
abbrev pub recorded : List Turn → List Said
recorded turns = flat_map (λ t. recorded_by t.call t.receipt.reply) turns
