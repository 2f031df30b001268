-- Working definitions: one record that is admitted.
use Rattle.std.specs.Prelude.{◌≡◌, ◌≢◌, ◌⊎◌, ℕ, List, ⊤}
use Rattle.record_file.specs.File.{Said}
use Rattle.report_line.specs.Replies.{code_number}
use Rattle.report_line.specs.Spelling.{spelling, HasSpelling}
use Rattle.report_line.specs.declared.code.Code.TheVariants.{OutOfMemory}
use Rattle.report_line.specs.declared.call.Call.{Call}
use Rattle.chains.specs.declared.refusal.No.{No}
use Rattle.chains.specs.Held.{Held}
use Rattle.desk.specs.Openings.{IsLineOfNone, IsCallRefusedBy, IsRecordRefusedBy}
use Rattle.desk.specs.Records.{IsRecorded}
use Rattle.desk.specs.declared.fault.DeskFault.{DeskFault}
use Rattle.desk.specs.declared.fault.DeskFault.TheVariants.{Line, Refused, Memory}

-- the line of the record of this number is that of no call, or memory was wanting
abbrev pub IsUnread : ℕ → List ℕ → DeskFault → Type 0
IsUnread k line (Line j) = (j ≡ k) × ((call : Call) → HasSpelling call → line ≢ spelling call)
IsUnread k line Memory = ⊤
IsUnread k line _ = ⊥

-- the call of the record of this number is none that is recorded, or refused, or memory was wanting
abbrev pub RefusesCall : Held → ℕ → ℕ → Call → DeskFault → Type 0
RefusesCall held k epoch call (Line j) = (j ≡ k) × (¬ IsRecorded call)
RefusesCall held k epoch call (Refused j code) = (j ≡ k) × IsRecorded call × IsCallRefusedBy held epoch call code
RefusesCall held k epoch call Memory = ⊤
RefusesCall held k epoch call _ = ⊥

-- the record of this number is the line of no call that is recorded, or refused, or memory was wanting
abbrev pub RefusesRecord : Held → ℕ → Said → DeskFault → Type 0
RefusesRecord held k one (Line j) = (j ≡ k) × IsLineOfNone one
RefusesRecord held k one (Refused j code) = (j ≡ k) × IsRecordRefusedBy held one code
RefusesRecord held k one Memory = ⊤
RefusesRecord held k one _ = ⊥

-- the fault for a refusal
abbrev pub IsFaultOfRefusal : ℕ → No → DeskFault → Type 0
IsFaultOfRefusal k refusal fault = ((refusal.code ≡ OutOfMemory) × (fault ≡ Memory)) ⊎ ((refusal.code ≢ OutOfMemory) × (fault ≡ Refused k (code_number refusal.code)))
