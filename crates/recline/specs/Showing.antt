-- What the command `show` tells of a record file.
use Rattle.std.specs.Prelude.{◌≡◌, ◌≢◌, ◌⊎◌, ℕ, List, [], ◌++◌, Bool, Option, Some, None, if◌then◌else◌}
use Rattle.std.specs.Io.KnownBytes.{Appends}
use Rattle.record_file.specs.File.{Said, Stands}
use Rattle.earlier_file.specs.Earlier.{IsFirst, IsReadAsFirst}
use Rattle.earlier_file.specs.Facts.{AreFacts}
use Rattle.earlier_file.specs.declared.found.FileFacts.{FileFacts}
use Rattle.chains.specs.Held.{Held}
use Rattle.desk.specs.Records.{Opens}
use Rattle.desk.specs.Openings.{RefusesFile}
use Rattle.desk.specs.declared.fault.DeskFault.{DeskFault}
use Rattle.desk.specs.declared.fault.DeskFault.TheVariants as opening
use Rattle.client_link.specs.Links.{LinkState}
use Rattle.record_show.specs.Processes.{shown_file, shown_processes}
use Rattle.record_show.specs.Tables.{table_text}
use Rattle.record_show.specs.Lines.{lines_text}
use Rattle.record_show.specs.Json.{json_text}
use Rattle.recline.specs.declared.showing.Form.{Form}
use Rattle.recline.specs.Driving.{WritesPart}
use Rattle.recline.specs.Earlier.{HasNoFront}
use Rattle.recline.specs.Outcome.{Tells, open_fault_line}

-- the records, where they are asked for
abbrev pub asked_records : Bool → List Said → Option (List Said)
asked_records reports said = if reports then Some said else None

-- the text of a file: an object of JSON, or a table, and behind it the records where they are asked for
abbrev pub shown_text : Form → FileFacts → Held → List Said → List ℕ
shown_text form facts held said =
    if form.json then json_text (shown_file held facts) (shown_processes held.accepted) (asked_records form.reports said)
    else table_text (shown_file held facts) (shown_processes held.accepted) ++ (if form.reports then lines_text said else [])

-- The bytes are a file of records that are admitted, and it was shown with what its bytes tell of it. Nothing was read of the client.
pub record IsShown (bytes : List ℕ) (form : Form) (old new : LinkState) : Type 0 where
  pub said : List Said
  pub held : Held
  pub facts : FileFacts
  pub stands : Stands said bytes
  pub opened : Opens said held
  pub told : AreFacts bytes facts
  pub written : Appends old.held new.held (shown_text form facts held said)
  pub nothing_waits : new.waiting ≡ []
  pub left : new.left ≡ old.left
  pub reads : new.reads ≡ old.reads

-- The same, where a part of it was written, and a call of the client failed: that is told as a fault of a device.
pub record IsShownInPart {F : Type 0} (faults_told : F → LinkState) (bytes : List ℕ) (form : Form) (old new : LinkState) (faults faults_after : F) (status : ℕ) : Type 0 where
  pub said : List Said
  pub held : Held
  pub facts : FileFacts
  pub stands : Stands said bytes
  pub opened : Opens said held
  pub told : AreFacts bytes facts
  pub part : WritesPart old new (shown_text form facts held said)
  pub status_is : status ≡ 3
  pub faults_are : Tells (faults_told faults) (faults_told faults_after) (open_fault_line opening.Device)

-- A fault was told, as of a record file that is opened: one of these bytes, or that memory was wanting.
abbrev pub ShowsPart : {F : Type 0} → (F → LinkState) → List ℕ → F → F → ℕ → Type 0
ShowsPart faults_told bytes faults faults_after status =
    (status ≡ 3) × (fault : DeskFault) × RefusesFile bytes fault × (fault ≢ opening.Device) × Tells (faults_told faults) (faults_told faults_after) (open_fault_line fault)

-- All of it was shown, and nothing told; or a part of it, and a call of the client failed; or a fault was told.
abbrev pub ShowsFile : {K F : Type 0} → (K → LinkState) → (F → LinkState) → List ℕ → Form → K → K → F → F → ℕ → Type 0
ShowsFile client_told faults_told bytes form client client_after faults faults_after status =
    ((status ≡ 0) × (faults_after ≡ faults) × IsShown bytes form (client_told client) (client_told client_after))
    ⊎ (IsShownInPart faults_told bytes form (client_told client) (client_told client_after) faults faults_after status
    ⊎ ShowsPart faults_told bytes faults faults_after status)

-- The same of the file as it was when it had its first records alone, so many; or why it has no such first records was told.
abbrev pub ShowsFront : {K F : Type 0} → (K → LinkState) → (F → LinkState) → ℕ → List ℕ → Form → K → K → F → F → ℕ → Type 0
ShowsFront client_told faults_told front bytes form client client_after faults faults_after status =
    ((earlier : List ℕ) × IsFirst front bytes earlier × IsReadAsFirst front bytes earlier × ShowsFile client_told faults_told earlier form client client_after faults faults_after status)
    ⊎ HasNoFront faults_told front bytes faults faults_after status
