-- What opening a desk answers.
use Rattle.std.specs.Prelude.{◌≡◌, ◌≢◌, ◌⊎◌, ℕ, ◌+◌, List, ◌∷◌, ◌++◌, [], length, Option, ⊤}
use Rattle.line_disk.specs.Disk.{View, one_more}
use Rattle.record_file.specs.File.{Said, Stands, IsForeign, IsDamaged}
use Rattle.record_file.specs.Opening.{KeepsFile, IsSynced, IsUntouched}
use Rattle.report_line.specs.Replies.{code_number}
use Rattle.report_line.specs.declared.code.Code.{Code}
use Rattle.report_line.specs.declared.code.Code.TheVariants.{OtherEpoch}
use Rattle.report_line.specs.declared.report.Report.{Report}
use Rattle.report_line.specs.declared.report.Report.TheVariants.{Begin, Numbered}
use Rattle.report_line.specs.declared.marked.MarkedReport.{MarkedReport}
use Rattle.report_line.specs.declared.call.Call.{Call}
use Rattle.report_line.specs.declared.call.Call.TheVariants as calls
use Rattle.report_line.specs.declared.reply.Reply.TheVariants.{Old, No}
use Rattle.chains.specs.Processes.{Name}
use Rattle.chains.specs.Held.{Held}
use Rattle.chains.specs.Admission.{IsAdmission}
use Rattle.chains.specs.Turns.{IsSettling}
use Rattle.desk.specs.Records.{marked, IsLineOf, Admits, Opens}
use Rattle.desk.specs.Files.{IsPending}
use Rattle.desk.specs.Desks.{DeskState, records_of}
use Rattle.desk.specs.Lawful.{unstopped}
use Rattle.desk.specs.declared.fault.DeskFault.{DeskFault}
use Rattle.desk.specs.declared.fault.DeskFault.TheVariants.{Foreign, Damaged, Line, Refused, Device, Memory}

-- The k-th of the records says this; those before it are admitted in their order, and come to what is held.
pub record Reaches (said : List Said) (k : ℕ) (one : Said) : Type 0 where
  pub front : List Said
  pub rest : List Said
  pub parts : said ≡ front ++ one ∷ rest
  pub number : k ≡ length front + 1
  pub held : Held
  pub opens : Opens front held

-- the record is the line of no call that is recorded
abbrev pub IsLineOfNone : Said → Type 0
IsLineOfNone one = (call : Call) → ¬ IsLineOf one call

-- the report is refused by this number: 1 where it was accepted before
abbrev pub IsReportRefusedBy : Held → MarkedReport → ℕ → Type 0
IsReportRefusedBy held m code =
    ((code ≡ 1) × ((front : ℕ) × IsAdmission held m (Old front)))
    ⊎ ((why : Code) × (name value : Option (List ℕ)) × (code ≡ code_number why) × IsAdmission held m (No why name value))

-- the settlement is refused by this number
abbrev pub IsSettlementRefusedBy : Held → ℕ → List Name → ℕ → Type 0
IsSettlementRefusedBy held front names code = (why : Code) × (name value : Option (List ℕ)) × (code ≡ code_number why) × IsSettling held front names (No why name value)

-- where its epoch is not the present one, that refuses it before all else
abbrev pub FirstByEpoch : Held → ℕ → ℕ → Type 0 → Type 0
FirstByEpoch held epoch code later = ((epoch ≢ held.epoch) × (code ≡ code_number OtherEpoch)) ⊎ ((epoch ≡ held.epoch) × later)

abbrev pub IsRefusedWithEpoch : Held → ℕ → Report → ℕ → Type 0
IsRefusedWithEpoch held epoch (Begin p) code = FirstByEpoch held epoch code (IsReportRefusedBy held (marked epoch (Begin p)) code)
IsRefusedWithEpoch held epoch (Numbered r) code = IsReportRefusedBy held (marked epoch (Numbered r)) code

-- With this epoch the call is refused by this number: a BEGIN or a settlement of another epoch than the present one by that, before all
-- other tests, and each other report by the first test that it fails.
abbrev pub IsCallRefusedBy : Held → ℕ → Call → ℕ → Type 0
IsCallRefusedBy held epoch (calls.Report m) code = IsRefusedWithEpoch held epoch m.report code
IsCallRefusedBy held epoch (calls.Settle front names) code = FirstByEpoch held epoch code (IsSettlementRefusedBy held front names code)
IsCallRefusedBy held epoch _ code = ⊥

-- the record is refused by this number
abbrev pub IsRecordRefusedBy : Held → Said → ℕ → Type 0
IsRecordRefusedBy held one code = (call : Call) × IsLineOf one call × IsCallRefusedBy held one.0 call code

-- when the records are refused
abbrev pub RefusesRecords : List Said → DeskFault → Type 0
RefusesRecords said (Line k) = (one : Said) × Reaches said k one × IsLineOfNone one
RefusesRecords said (Refused k code) = (one : Said) × (at : Reaches said k one) × IsRecordRefusedBy at.held one code
RefusesRecords said Memory = ⊤
RefusesRecords said _ = ⊥

-- when a file is refused
abbrev pub RefusesFile : List ℕ → DeskFault → Type 0
RefusesFile file Foreign = IsForeign file
RefusesFile file (Damaged k) = IsDamaged k file
RefusesFile file (Line k) = (said : List Said) × Stands said file × RefusesRecords said (Line k)
RefusesFile file (Refused k code) = (said : List Said) × Stands said file × RefusesRecords said (Refused k code)
RefusesFile file Device = ⊤
RefusesFile file Memory = ⊤

-- the faults that say nothing of the file
abbrev pub IsNotOfTheFile : DeskFault → Type 0
IsNotOfTheFile Device = ⊤
IsNotOfTheFile Memory = ⊤
IsNotOfTheFile _ = ⊥

-- A desk that is opened again found the records of the one before, and holds what that held; or these and the one that was pending, and
-- what admitting that came to.
abbrev pub IsReopened : {D : Type 0} → DeskState D → List Said → Held → Type 0
IsReopened desk found held =
    ((found ≡ records_of desk) × (held ≡ unstopped desk.held))
    ⊎ ((one : Said) × IsPending desk.held.epoch desk.turns one × (found ≡ records_of desk ++ one ∷ []) × Admits (unstopped desk.held) one held)

-- the device failed where the fault is the device's, and only there
abbrev pub CountsDeskFault : DeskFault → ℕ → ℕ → Type 0
CountsDeskFault Device old new = new ≡ one_more old
CountsDeskFault _ old new = new ≡ old

-- What a crash inside an opening with this fault leaves: a file that is foreign or damaged stays as it is, and each other
-- file keeps its records, and stays as it is where it stands for nothing.
abbrev pub LeavesFile : DeskFault → View → View → Type 0
LeavesFile Foreign old new = IsSynced (λ c. c ≡ old.seen) old new
LeavesFile (Damaged k) old new = IsSynced (λ c. c ≡ old.seen) old new
LeavesFile (Line k) old new = IsSynced (KeepsFile old.seen) old new
LeavesFile (Refused k code) old new = IsSynced (KeepsFile old.seen) old new
LeavesFile Device old new = IsUntouched old new ⊎ IsSynced (KeepsFile old.seen) old new
LeavesFile Memory old new = IsUntouched old new ⊎ IsSynced (KeepsFile old.seen) old new
