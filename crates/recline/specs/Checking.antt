-- What the program answers when a certificate was checked over a record file.
use Rattle.std.specs.Prelude.{◌≡◌, ◌⊎◌, ℕ, List, [], ◌++◌, codes, Ok, Err, string_bytes, ⊤}
use Rattle.std.specs.Io.KnownBytes.{Consumes, IsAtEnd}
use Rattle.line_disk.specs.Disk.{View}
use Rattle.report_line.specs.Cutting.{ended}
use Rattle.chains.specs.Held.{Held}
use Rattle.reasons.specs.declared.certificate.Certificate.{Certificate}
use Rattle.reasons.specs.declared.fault.CertificateFault.{CertificateFault}
use Rattle.reasons.specs.declared.fault.CertificateFault.TheVariants as fault
use Rattle.reasons.specs.CertificateReading.{IsReadAs}
use Rattle.reasons.specs.Certificates.{positions_of}
use Rattle.reason_check.specs.declared.answer.Verdict.{Verdict}
use Rattle.reason_check.specs.declared.answer.Verdict.TheVariants.{Yes, No}
use Rattle.reason_check.specs.Causes.{IsVerdict}
use Rattle.reason_check.specs.Texts.{verdict_text}
use Rattle.law_lines.specs.Headline.{IsLineOfHistories}
use Rattle.desk.specs.Desks.{DeskState}
use Rattle.desk.specs.Lawful.{IsLawfulDesk}
use Rattle.client_link.specs.Links.{LinkState, IsSound}
use Rattle.recline.specs.Outcome.{IsNotOpened, IsOpened, Tells}
use Rattle.recline.specs.Driving.{HasFewReads, OnlyReads, ReadsInVain, WritesAll, WritesPart}
use Rattle.recline.specs.Escaped.{shown_name}
use Rattle.recline.specs.declared.checking.Cause.{Cause}
use Rattle.recline.specs.declared.checking.Cause.TheVariants as causes
use Rattle.recline.specs.declared.checking.Checked.{Checked}
use Rattle.recline.specs.declared.checking.Checked.TheVariants as checked

-- The status of the process: the certificate certifies, or it does not; its text gives none; or a device or memory failed.
abbrev pub check_status : Checked → ℕ
check_status (checked.Told Yes) = 0
check_status (checked.Told (No cause)) = 4
check_status (checked.NoCertificate causes.Memory) = 3
check_status (checked.NoCertificate _) = 2
check_status checked.Memory = 3
check_status checked.Device = 3

-- The cause that is told for a fault of a text. A name that no process has is written as a string of JSON has it, as far as there is room;
-- memory may be wanting for that.
abbrev pub IsCauseOf : CertificateFault → Cause → Type 0
IsCauseOf fault.NotJson causes.NotJson = ⊤
IsCauseOf fault.Shape causes.Shape = ⊤
IsCauseOf (fault.Unknown name) (causes.Unknown shown) = shown.items ≡ shown_name (string_bytes name)
IsCauseOf (fault.Unknown name) causes.Memory = ⊤
IsCauseOf fault.Memory causes.Memory = ⊤
IsCauseOf _ _ = ⊥

-- why a text gave no certificate
abbrev pub cause_words : Cause → List ℕ
cause_words causes.NotJson = codes "certificate not json"
cause_words causes.Shape = codes "certificate shape"
cause_words (causes.Unknown shown) = codes "certificate unknown " ++ shown.items
cause_words causes.Memory = codes "memory"

-- the fault line; a verdict has none, yes or no
abbrev pub check_fault : Checked → List ℕ
check_fault (checked.Told verdict) = []
check_fault (checked.NoCertificate cause) = ended (codes "recline: " ++ cause_words cause)
check_fault checked.Memory = ended (codes "recline: memory")
check_fault checked.Device = ended (codes "recline: device")

-- these bytes are all that there was to read
pub record IsReadWhole (old new : LinkState) (text : List ℕ) : Type 0 where
  pub consumed : Consumes old.left new.left text
  pub at_end : IsAtEnd new.left
  pub few : HasFewReads old new

-- The verdict on a certificate. Yes says that its line is the greatest closed cut of every lawful history that agrees with the
-- accepted reports.
pub record IsVerdictOn (held : Held) (certificate : Certificate) (verdict : Verdict) : Type 0 where
  pub verdict_is : IsVerdict held certificate verdict
  pub of_histories : verdict ≡ Yes → IsLineOfHistories held.accepted certificate.failed (positions_of certificate.line)

-- what there was to read is the text of a certificate, and this is the verdict on it
pub record IsVerdictOnText (held : Held) (old new : LinkState) (verdict : Verdict) : Type 0 where
  pub text : List ℕ
  pub certificate : Certificate
  pub read : IsReadWhole old new text
  pub text_is : IsReadAs held.accepted text (Ok certificate)
  pub verdict_on : IsVerdictOn held certificate verdict

-- what there was to read is the text of no certificate for this cause, and nothing was written
pub record IsNoCertificate (held : Held) (old new : LinkState) (why : CertificateFault) : Type 0 where
  pub text : List ℕ
  pub only : OnlyReads old new text
  pub at_end : IsAtEnd new.left
  pub sound : IsSound old new
  pub text_is : IsReadAs held.accepted text (Err why)

-- What was done over a link: a text was read to its end and the verdict on its certificate was written, or it has none; or memory
-- was wanting, for the text or the verdict. On a fault a part of the verdict was written, or a read failed, or the text had no end.
abbrev pub IsCheckedOver : Held → LinkState → LinkState → Checked → Type 0
IsCheckedOver held old new (checked.Told verdict) = IsVerdictOnText held old new verdict × WritesAll old new (ended (verdict_text verdict))
IsCheckedOver held old new (checked.NoCertificate cause) = (why : CertificateFault) × IsCauseOf why cause × IsNoCertificate held old new why
IsCheckedOver held old new checked.Memory = (bytes : List ℕ) × OnlyReads old new bytes × IsSound old new
IsCheckedOver held old new checked.Device =
    ((verdict : Verdict) × IsVerdictOnText held old new verdict × WritesPart old new (ended (verdict_text verdict)))
    ⊎ ((bytes : List ℕ) × OnlyReads old new bytes × ReadsInVain old new)

-- A certificate was checked over what a desk holds; the status and the fault line say how.
pub record Checks {K F : Type 0} (client_told : K → LinkState) (faults_told : F → LinkState) (held : Held) (client client_after : K) (faults faults_after : F) (status : ℕ) : Type 0 where
  pub end : Checked
  pub checked_over : IsCheckedOver held (client_told client) (client_told client_after) end
  pub status_is : status ≡ check_status end
  pub faults_are : Tells (faults_told faults) (faults_told faults_after) (check_fault end)

-- The file on this disk was opened, and a certificate checked over the desk of it. The disk that is handed back is the desk's, on which
-- the check made no call.
pub record ChecksOpened {D K F : Type 0} (keeps : D → Type 0) (view : D → View) (client_told : K → LinkState) (faults_told : F → LinkState) (disk disk_after : D) (client client_after : K) (faults faults_after : F) (status : ℕ) : Type 0 where
  pub desk : DeskState D
  pub opened : IsOpened keeps view disk desk
  pub checks : Checks client_told faults_told desk.held client client_after faults faults_after status
  pub lawful : IsLawfulDesk keeps view desk
  pub disk_is : disk_after ≡ desk.disk

abbrev pub ChecksOn : {D K F : Type 0} → (D → Type 0) → (D → View) → (D → ℕ) → (K → LinkState) → (F → LinkState) → D → D → K → K → F → F → ℕ → Type 0
ChecksOn keeps view failed client_told faults_told disk disk_after client client_after faults faults_after status =
    ChecksOpened keeps view client_told faults_told disk disk_after client client_after faults faults_after status
    ⊎ IsNotOpened keeps view failed faults_told disk disk_after client client_after faults faults_after status
