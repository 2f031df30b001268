-- What the calls of this crate answer, as replies.
use Rattle.std.specs.Prelude.{◌≡◌, ◌⊎◌, ℕ, ◌+◌, ◌<◌, List, None, Result, Ok, Err, Some, ⊤}
use Rattle.report_line.specs.declared.code.Code.TheVariants.{OutOfMemory}
use Rattle.report_line.specs.declared.report.Report.{Report}
use Rattle.report_line.specs.declared.report.Report.TheVariants.{Begin, Numbered}
use Rattle.report_line.specs.declared.marked.MarkedReport.{MarkedReport}
use Rattle.report_line.specs.declared.reply.Reply.{Reply}
use Rattle.report_line.specs.declared.reply.Reply.TheVariants as replies
use Rattle.chains.specs.declared.refusal.No.{No}
use Rattle.chains.specs.declared.refusal.Admitted.{Admitted}
use Rattle.chains.specs.declared.refusal.Admitted.TheVariants.{Accepted, Old}
use Rattle.chains.specs.declared.prepared.Prepared.{Prepared}
use Rattle.chains.specs.declared.prepared.Prepared.TheVariants as prepared
use Rattle.chains.specs.Elements.{name_of}
use Rattle.chains.specs.Kept.{Kept, HasRoomFor}
use Rattle.chains.specs.Ready.{ReadyReport}
use Rattle.chains.specs.Held.{Held, held_of, with_report}
use Rattle.chains.specs.Admission.{IsAdmission, Passes, TakesMemory}
use Rattle.chains.specs.Processes.{Name}
use Rattle.chains.specs.Turns.{IsSettling}

abbrev pub reply_of : Result Admitted No → Reply
reply_of (Ok (Accepted front)) = replies.Accepted front
reply_of (Ok (Old front)) = replies.Old front
reply_of (Err refusal) = replies.No refusal.code refusal.name refusal.value

-- a refusal by a test, or for want of memory in an answer that takes memory
abbrev pub IsRefusal : Held → MarkedReport → No → Type 0
IsRefusal held r refusal =
    IsAdmission held r (replies.No refusal.code refusal.name refusal.value)
    ⊎ ((answer : Reply) × IsAdmission held r answer × TakesMemory answer
    × (refusal.code ≡ OutOfMemory) × (refusal.name ≡ None) × (refusal.value ≡ None))

-- the same of a settlement
abbrev pub IsSettleRefusal : Held → ℕ → List Name → No → Type 0
IsSettleRefusal held front names refusal =
    IsSettling held front names (replies.No refusal.code refusal.name refusal.value)
    ⊎ ((answer : Reply) × IsSettling held front names answer × TakesMemory answer
    × (refusal.code ≡ OutOfMemory) × (refusal.name ≡ None) × (refusal.value ≡ None))

-- the number is that of the process that reports; the root of a BEGIN has none yet
abbrev pub IsNumberOf : List Report → Report → ℕ → Type 0
IsNumberOf accepted (Begin p) i = ⊤
IsNumberOf accepted (Numbered r) i = name_of accepted i ≡ Some r.process

-- the report may be committed: it is to be accepted, and there is room
pub record MayBeAccepted (k : Kept) (ready : ReadyReport) : Type 0 where
  pub admitted : Passes (held_of k) ready.report
  pub process : IsNumberOf k.accepted ready.report.report ready.process
  pub room : 0 < k.room
  pub element_room : HasRoomFor k ready.report.report ready.process

abbrev pub IsReady : Prepared → Kept → Type 0
IsReady (prepared.Old front) k = front ≡ k.front
IsReady (prepared.Ready ready) k = MayBeAccepted k ready

-- what preparing a report answers
abbrev pub Prepares : Held → MarkedReport → Result Prepared No → Type 0
Prepares held r (Ok (prepared.Old front)) = IsAdmission held r (replies.Old front)
Prepares held r (Ok (prepared.Ready ready)) = ready.report ≡ r
Prepares held r (Err refusal) = IsRefusal held r refusal

-- the reply to a commit, and what is held then
abbrev pub Commits : Prepared → Held → Admitted → Held → Type 0
Commits (prepared.Old front) held admitted after = (admitted ≡ Old front) × (after ≡ held)
Commits (prepared.Ready ready) held admitted after = (admitted ≡ Accepted (held.front + 1)) × (after ≡ with_report held ready.report)
