-- What the program answers when a session ended.
use Rattle.std.specs.Prelude.{◌≡◌, ◌↔◌, ◌⊎◌, ℕ, List, [], ◌∷◌, ◌++◌, codes, Bool, false, if◌then◌else◌}
use Rattle.std.specs.Fmt.{decimal}
use Rattle.std.specs.Io.KnownBytes.{Appends}
use Rattle.line_disk.specs.Disk.{View}
use Rattle.record_file.specs.Opening.{KeepsFile, IsSynced}
use Rattle.desk.specs.Desks.{DeskState}
use Rattle.record_file.specs.File.{Stands}
use Rattle.desk.specs.Records.{Opens}
use Rattle.desk.specs.Lawful.{IsLawfulDesk}
use Rattle.desk.specs.Openings.{CountsDeskFault, RefusesFile, LeavesFile}
use Rattle.desk.specs.declared.fault.DeskFault.{DeskFault}
use Rattle.desk.specs.declared.fault.DeskFault.TheVariants as opening
use Rattle.report_line.specs.Cutting.{ended}
use Rattle.session.specs.declared.kind.SessionEndKind.{SessionEndKind}
use Rattle.session.specs.declared.flush_policy.FlushPolicy.{FlushPolicy}
use Rattle.session.specs.declared.kind.SessionEndKind.TheVariants as kinds
use Rattle.client_link.specs.Links.{LinkState, IsSound, IsFault}
use Rattle.session.specs.Ends.{Ended, Leaves}

-- The status of the process: the client's input was answered to an end that is its own; or a device or memory failed, be it in a
-- turn, so that the store is stopped; or all turns were made, or the input had no end.
abbrev pub status_of : SessionEndKind → Bool → ℕ
status_of kinds.End stopped = if stopped then 3 else 0
status_of kinds.Bye stopped = if stopped then 3 else 0
status_of kinds.TooLong stopped = if stopped then 3 else 0
status_of kinds.Worn stopped = if stopped then 3 else 5
status_of kinds.Endless stopped = if stopped then 3 else 5
status_of _ stopped = 3

-- the fault line; most ends have none
abbrev pub fault_line : SessionEndKind → List ℕ
fault_line kinds.Memory = ended (codes "recline: memory")
fault_line kinds.ReadFailed = ended (codes "recline: device")
fault_line kinds.WriteFailed = ended (codes "recline: device")
fault_line _ = []

-- why a record file was not opened
abbrev pub open_fault_words : DeskFault → List ℕ
open_fault_words opening.Foreign = codes "foreign"
open_fault_words (opening.Damaged k) = codes "damaged " ++ decimal k
open_fault_words (opening.Line k) = codes "line " ++ decimal k
open_fault_words (opening.Refused k code) = codes "refused " ++ decimal k ++ 32 ∷ decimal code
open_fault_words opening.Device = codes "device"
open_fault_words opening.Memory = codes "memory"

abbrev pub open_fault_line : DeskFault → List ℕ
open_fault_line fault = ended (codes "recline: " ++ open_fault_words fault)

-- all of the line was written and flushed, or a part, or all but the flush, and a call failed; nothing was read
pub record Tells (old new : LinkState) (line : List ℕ) : Type 0 where
  pub left : new.left ≡ old.left
  pub reads : new.reads ≡ old.reads
  pub told : (Appends old.held new.held line × (new.waiting ≡ []) × IsSound old new)
      ⊎ ((part more : List ℕ) × (line ≡ part ++ more) × Appends old.held new.held part × IsFault old new)

-- A session with the client ended so over a desk; the status and the fault line say how.
pub record Runs {D K F : Type 0} (keeps : D → Type 0) (client_told : K → LinkState) (faults_told : F → LinkState) (when : FlushPolicy) (client client_after : K) (faults faults_after : F) (desk after : DeskState D) (status : ℕ) : Type 0 where
  pub kind : SessionEndKind
  pub replies : ℕ
  pub session : Ended keeps client_told when client client_after desk after kind replies
  pub leaves : Leaves kind (client_told client) (client_told client_after)
  pub status_is : status ≡ status_of kind after.held.stopped
  pub faults_are : Tells (faults_told faults) (faults_told faults_after) (fault_line kind)

-- A desk over the records that were in the file on this disk, and what admitting them comes to. A crash while it was opened leaves a
-- file that has its lines.
pub record IsOpened {D : Type 0} (keeps : D → Type 0) (view : D → View) (disk : D) (desk : DeskState D) : Type 0 where
  pub records : keeps disk → Stands desk.found (view disk).seen
  pub opened : Opens desk.found desk.held
  pub any_moment : keeps disk → IsSynced (KeepsFile (view disk).seen) (view disk) (view desk.disk)
  pub fresh : (desk.held ≡ desk.opening) × (desk.turns ≡ []) × (desk.held.stopped ≡ false)
  pub premise : keeps desk.disk ↔ keeps disk

-- The file on this disk was opened, and a session with the client ended over the desk of it, whose disk is handed back. What a crash
-- leaves of it is told by what holds of each desk.
pub record RunsOpened {D K F : Type 0} (keeps : D → Type 0) (view : D → View) (client_told : K → LinkState) (faults_told : F → LinkState) (when : FlushPolicy) (disk disk_after : D) (client client_after : K) (faults faults_after : F) (status : ℕ) : Type 0 where
  pub desk : DeskState D
  pub after : DeskState D
  pub opened : IsOpened keeps view disk desk
  pub runs : Runs keeps client_told faults_told when client client_after faults faults_after desk after status
  pub lawful : IsLawfulDesk keeps view after
  pub disk_is : disk_after ≡ after.disk

-- The file on this disk was not opened: nothing was read of the client, or written to it. A fault of the device is told only where a
-- call of it failed.
pub record IsNotOpened {D K F : Type 0} (keeps : D → Type 0) (view : D → View) (failed : D → ℕ) (faults_told : F → LinkState) (disk disk_after : D) (client client_after : K) (faults faults_after : F) (status : ℕ) : Type 0 where
  pub fault : DeskFault
  pub refused : keeps disk → RefusesFile (view disk).seen fault
  pub any_moment : keeps disk → LeavesFile fault (view disk) (view disk_after)
  pub cause : CountsDeskFault fault (failed disk) (failed disk_after)
  pub premise : keeps disk_after ↔ keeps disk
  pub client_rests : client_after ≡ client
  pub status_is : status ≡ 3
  pub faults_are : Tells (faults_told faults) (faults_told faults_after) (open_fault_line fault)

abbrev pub RunsOn : {D K F : Type 0} → (D → Type 0) → (D → View) → (D → ℕ) → (K → LinkState) → (F → LinkState) → FlushPolicy → D → D → K → K → F → F → ℕ → Type 0
RunsOn keeps view failed client_told faults_told when disk disk_after client client_after faults faults_after status =
    RunsOpened keeps view client_told faults_told when disk disk_after client client_after faults faults_after status
    ⊎ IsNotOpened keeps view failed faults_told disk disk_after client client_after faults faults_after status
