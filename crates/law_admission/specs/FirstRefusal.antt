-- What handing over reports answers.
use Rattle.std.specs.Prelude.{◌≡◌, ◌⊎◌, ◌++◌, List, All, Result, MatchResult, Some, slice_get, take, ⊤}
use Rattle.report_line.specs.declared.code.Code.TheVariants.{Full, OutOfMemory}
use Rattle.report_line.specs.declared.report.Report.{Report}
use Rattle.report_line.specs.declared.call.Call.TheVariants as calls
use Rattle.report_line.specs.declared.reply.Reply.{Reply}
use Rattle.report_line.specs.declared.reply.Reply.TheVariants.{Accepted, Old, No}
use Rattle.report_line.specs.histories.History.{Name, History}
use Rattle.chains.specs.Held.{Held, present}
use Rattle.chains.specs.Turns.{IsTurn}
use Rattle.law_admission.specs.declared.handing.Refused.{Refused}
use Rattle.law_admission.specs.HandedOver.{handed_over, IsTargetBorn, IsReportable}
use Rattle.law_admission.specs.Accepting.{IsFull, AreTurns}

-- the report is accepted, or was before
abbrev pub IsTaken : Reply → Type 0
IsTaken (Accepted front) = ⊤
IsTaken (Old front) = ⊤
IsTaken _ = ⊥

-- the reports are handed over one by one, and each is taken
abbrev pub AreTaken : Held → List Report → Held → Type 0
AreTaken held reports after = (replies : List Reply) × AreTurns held reports replies after × All IsTaken replies

-- The reports before this place were handed over and taken, and the one there was refused for this reason, with nothing behind it
-- handed over.
pub record IsFirstRefusal (held : Held) (reports : List Report) (refused : Refused) (after : Held) : Type 0 where
  pub report : Report
  pub there : slice_get reports refused.place ≡ Some report
  pub taken : AreTaken held (take refused.place reports) after
  pub refusal : IsTurn after (calls.Report (present after report)) (No refused.why.code refused.why.name refused.why.value) after

-- all reports are taken, or one is the first that is refused
abbrev pub IsHandedOver : Held → List Report → Result ⊤ Refused → Held → Type 0
IsHandedOver held reports result after = MatchResult result (λ _. AreTaken held reports after) (λ refused. IsFirstRefusal held reports refused after)

-- the report at this place was refused for want of room or of memory
pub record IsFirstRefusalForRoom (held : Held) (reports : List Report) (refused : Refused) (after : Held) : Type 0 where
  pub report : Report
  pub there : slice_get reports refused.place ≡ Some report
  pub accepted_before : after.accepted ≡ held.accepted ++ take refused.place reports
  pub why : ((refused.why.code ≡ Full) × IsFull after report) ⊎ (refused.why.code ≡ OutOfMemory)

-- Where these reports of a lawful history come next behind the accepted ones, and their targets are born, they are accepted, up to the first that is refused.
abbrev pub AreAcceptedInOrder : Held → List Report → Result ⊤ Refused → Held → Type 0
AreAcceptedInOrder held reports result after =
    (root : Name) (h : History) (rest : List Report) → IsReportable root h → handed_over root h ≡ held.accepted ++ (reports ++ rest)
    → All (IsTargetBorn root h) reports → MatchResult result (λ _. after.accepted ≡ held.accepted ++ reports) (λ refused. IsFirstRefusalForRoom held reports refused after)
