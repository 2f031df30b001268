-- What the command `serve` answers.
use Rattle.std.specs.Prelude.{◌≡◌, ◌≢◌, ◌⊎◌, ◌+◌, ◌<◌, ◌≤◌, ℕ, List, [], ◌∷◌, ◌++◌, length, codes, Option, IfSome, ⊤}
use Rattle.std.specs.Fmt.{decimal}
use Rattle.std.specs.Io.KnownBytes.{Appends}
use Rattle.line_disk.specs.Disk.{View}
use Rattle.chains.specs.Held.{Held}
use Rattle.desk.specs.Desks.{DeskState}
use Rattle.coordinator.specs.Passes.{PassState}
use Rattle.coordinator.specs.Closing.{IsEnded, IsRemainder}
use Rattle.coordinator.specs.declared.fault.CloseFault.{CloseFault}
use Rattle.coordinator.specs.declared.fault.CloseFault.TheVariants as faults
use Rattle.report_line.specs.Cutting.{ended}
use Rattle.session.specs.declared.kind.SessionEndKind.{SessionEndKind}
use Rattle.session.specs.declared.kind.SessionEndKind.TheVariants as ways
use Rattle.client_link.specs.Links.{LinkState, IsSound}
use Rattle.session.specs.Sessions.{WasServed}
use Rattle.recline.specs.Outcome.{IsOpened, IsNotOpened, Tells}
use Rattle.recline.specs.Driving.{WritesAll, WritesPart}
use Rattle.recline.specs.declared.serving.Service.{Service}
use Rattle.recline.specs.declared.serving.Stop.{Stop}
use Rattle.recline.specs.declared.serving.Stop.TheVariants as stops

-- how many sessions there may be, by how many workers, and how many seconds a client may rest
abbrev pub AreLimited : ℕ → ℕ → Option ℕ → Type 0
AreLimited sessions workers idle =
    ((0 < sessions) × (sessions ≤ 4096)) × ((0 < workers) × (workers ≤ 64)) × IfSome idle (λ seconds. 0 < seconds)

abbrev pub IsService : Service → Type 0
IsService service = AreLimited service.sessions service.workers service.idle

-- what is printed before the first session, and behind the last one
abbrev pub port_line : ℕ → List ℕ
port_line port = codes "PORT " ++ decimal port ++ 10 ∷ []

abbrev pub end_line : ℕ → List ℕ
end_line front = codes "ENDED " ++ decimal front ++ 10 ∷ []

abbrev pub stop_line : Stop → List ℕ
stop_line stops.Device = ended (codes "recline: device")
stop_line stops.Memory = ended (codes "recline: memory")
stop_line stops.Foreign = ended (codes "recline: foreign")

-- why a service stops where the turns are not those of its passes
abbrev pub stopped_by : CloseFault → Stop
stopped_by faults.Memory = stops.Memory
stopped_by (faults.Stranger number) = stops.Foreign
stopped_by (faults.Missing shares turns) = stops.Foreign

-- A session was served with this pass, from when it was new, and ended so. The link is one that a worker handed back: a value of
-- the type of links, and not only what some link tells.
pub record IsOfSession {D K : Type 0} (keeps : D → Type 0) (view : D → View) (client_told : K → LinkState) (pass : PassState) (kind : SessionEndKind) : Type 0 where
  pub link : K
  pub replies : ℕ
  pub served : WasServed keeps view client_told link pass kind replies

-- a session each
abbrev pub AreOfSessions : {D K : Type 0} → (D → Type 0) → (D → View) → (K → LinkState) → List PassState → List SessionEndKind → Type 0
AreOfSessions keeps view client_told [] [] = ⊤
AreOfSessions keeps view client_told (pass ∷ passes) (kind ∷ kinds) = ∥ IsOfSession keeps view client_told pass kind ∥₁ × AreOfSessions keeps view client_told passes kinds
AreOfSessions keeps view client_told [] (kind ∷ kinds) = ⊥
AreOfSessions keeps view client_told (pass ∷ passes) [] = ⊥

-- a client whose session ends so is dropped, since memory was wanting
abbrev pub drops : SessionEndKind → ℕ
drops ways.Memory = 1
drops _ = 0

-- how many clients were dropped
abbrev pub dropped_in : List SessionEndKind → ℕ
dropped_in [] = 0
dropped_in (kind ∷ kinds) = drops kind + dropped_in kinds

-- a session was served with each pass, and so many clients were dropped
abbrev pub AreServed : {D K : Type 0} → (D → Type 0) → (D → View) → (K → LinkState) → List PassState → ℕ → Type 0
AreServed keeps view client_told passes dropped = (kinds : List SessionEndKind) × AreOfSessions keeps view client_told passes kinds × (dropped ≡ dropped_in kinds)

-- Over what was held at the opening so many sessions were served, each with a pass of its own, and so many clients were dropped. The
-- coordinator ended with just these passes, and left the disk so. The port and the front were printed.
pub record IsServed {D K : Type 0} (keeps : D → Type 0) (view : D → View) (client_told : K → LinkState) (opening : Held) (sessions dropped : ℕ) (old new : LinkState) (disk : D) : Type 0 where
  pub port : ℕ
  pub passes : List PassState
  pub turns : ℕ
  pub front : ℕ
  pub ends : IsEnded keeps view opening passes turns front disk
  pub served : AreServed keeps view client_told passes dropped
  pub number : length passes ≡ sessions
  pub written : Appends old.held new.held (port_line port ++ end_line front)
  pub nothing_waits : new.waiting ≡ []
  pub sound : IsSound old new

-- ---- a service that stops

-- the line of a port was printed, or a part of it, and then a call failed
abbrev pub WritesPort : LinkState → LinkState → Type 0
WritesPort old new = (port : ℕ) × (WritesAll old new (port_line port) ⊎ WritesPart old new (port_line port))

-- What was printed of a service that stopped, where so many of its sessions were served and its coordinator ended with this front: the
-- port alone, or no more than a part of it; or, where all sessions were served, the port and a part of the end. Where a line is
-- not whole, a device failed.
abbrev pub PrintsSome : ℕ → ℕ → ℕ → Stop → LinkState → LinkState → Type 0
PrintsSome served sessions front stop old new =
    (port : ℕ) × (WritesAll old new (port_line port)
    ⊎ ((stop ≡ stops.Device) × (WritesPart old new (port_line port) ⊎ ((served ≡ sessions) × WritesPart old new (port_line port ++ end_line front)))))

-- The service stopped: the coordinator ended with the passes of the sessions that there were, as it does at the end of a service, and
-- left the disk so.
pub record IsCutShort {D K : Type 0} (keeps : D → Type 0) (view : D → View) (client_told : K → LinkState) (opening : Held) (sessions : ℕ) (old new : LinkState) (disk : D) (stop : Stop) : Type 0 where
  pub passes : List PassState
  pub dropped : ℕ
  pub turns : ℕ
  pub front : ℕ
  pub ends : IsEnded keeps view opening passes turns front disk
  pub served : AreServed keeps view client_told passes dropped
  pub printed : PrintsSome (length passes) sessions front stop old new

-- Or the passes of the sessions that there were are not those of all turns, or memory is missing to find that out, and that is told. The
-- disk is that of the desk that made the turns, with all its records.
pub record IsUnended {D K : Type 0} (keeps : D → Type 0) (view : D → View) (client_told : K → LinkState) (opening : Held) (old new : LinkState) (disk : D) (stop : Stop) : Type 0 where
  pub passes : List PassState
  pub dropped : ℕ
  pub turns : ℕ
  pub front : ℕ
  pub fault : CloseFault
  pub served : AreServed keeps view client_told passes dropped
  pub remains : IsRemainder keeps view opening passes fault turns front disk
  pub stop_is : stop ≡ stopped_by fault
  pub printed : WritesPort old new

abbrev pub IsStopped : {D K : Type 0} → (D → Type 0) → (D → View) → (K → LinkState) → Held → ℕ → LinkState → LinkState → D → Stop → Type 0
IsStopped keeps view client_told opening sessions old new disk stop =
    IsCutShort keeps view client_told opening sessions old new disk stop ⊎ IsUnended keeps view client_told opening old new disk stop

-- or it stopped before its first session, with nothing printed, and the disk is as the desk had it
abbrev pub IsUnserved : {D : Type 0} → DeskState D → LinkState → LinkState → D → Stop → Type 0
IsUnserved desk old new disk stop = (stop ≢ stops.Foreign) × (disk ≡ desk.disk) × (new ≡ old)

abbrev pub Stops : {D K : Type 0} → (D → Type 0) → (D → View) → (K → LinkState) → DeskState D → ℕ → LinkState → LinkState → D → Stop → Type 0
Stops keeps view client_told desk sessions old new disk stop =
    IsUnserved desk old new disk stop ⊎ IsStopped keeps view client_told desk.opening sessions old new disk stop

-- ---- the command

-- how many clients were dropped is told, if there were some
abbrev pub dropped_line : ℕ → List ℕ
dropped_line dropped = codes "recline: dropped " ++ decimal dropped ++ 10 ∷ []

abbrev pub TellsDropped : {F : Type 0} → (F → LinkState) → F → F → ℕ → Type 0
TellsDropped faults_told old new dropped =
    ((dropped ≡ 0) × (new ≡ old)) ⊎ ((0 < dropped) × Tells (faults_told old) (faults_told new) (dropped_line dropped))

-- the sessions were served to their end, and no fault is told but how many clients were dropped
pub record ServesToEnd {D K O F : Type 0} (keeps : D → Type 0) (view : D → View) (client_told : K → LinkState) (output_told : O → LinkState) (faults_told : F → LinkState) (sessions : ℕ) (desk : DeskState D) (disk_after : D) (output output_after : O) (faults faults_after : F) (status : ℕ) : Type 0 where
  pub dropped : ℕ
  pub served : IsServed keeps view client_told desk.opening sessions dropped (output_told output) (output_told output_after) disk_after
  pub told : TellsDropped faults_told faults faults_after dropped
  pub status_is : status ≡ 0

-- the service stopped, and it is told why
pub record ServesInPart {D K O F : Type 0} (keeps : D → Type 0) (view : D → View) (client_told : K → LinkState) (output_told : O → LinkState) (faults_told : F → LinkState) (sessions : ℕ) (desk : DeskState D) (disk_after : D) (output output_after : O) (faults faults_after : F) (status : ℕ) : Type 0 where
  pub stop : Stop
  pub stops_so : Stops keeps view client_told desk sessions (output_told output) (output_told output_after) disk_after stop
  pub faults_are : Tells (faults_told faults) (faults_told faults_after) (stop_line stop)
  pub status_is : status ≡ 3

-- the file on this disk was opened, and clients were served over it
pub record ServesOpened {D K O F : Type 0} (keeps : D → Type 0) (view : D → View) (client_told : K → LinkState) (output_told : O → LinkState) (faults_told : F → LinkState) (sessions : ℕ) (disk disk_after : D) (output output_after : O) (faults faults_after : F) (status : ℕ) : Type 0 where
  pub desk : DeskState D
  pub opened : IsOpened keeps view disk desk
  pub serves : ServesToEnd keeps view client_told output_told faults_told sessions desk disk_after output output_after faults faults_after status
      ⊎ ServesInPart keeps view client_told output_told faults_told sessions desk disk_after output output_after faults faults_after status

-- or it was not opened
abbrev pub ServesOn : {D K O F : Type 0} → (D → Type 0) → (D → View) → (D → ℕ) → (K → LinkState) → (O → LinkState) → (F → LinkState) → ℕ → D → D → O → O → F → F → ℕ → Type 0
ServesOn keeps view failed client_told output_told faults_told sessions disk disk_after output output_after faults faults_after status =
    ServesOpened keeps view client_told output_told faults_told sessions disk disk_after output output_after faults faults_after status
    ⊎ IsNotOpened keeps view failed faults_told disk disk_after output output_after faults faults_after status

-- ---- a service that is told to end

-- So many sessions were served: all that were wanted, or fewer, where a source of clients says that the service is to end. The source is one
-- that was asked: a value of the type of sources.
abbrev pub AreEnough : {T : Type 0} → (T → Type 0) → ℕ → ℕ → Type 0
AreEnough {T} is_over wanted served = (served ≡ wanted) ⊎ ((served < wanted) × ∥ ((source : T) × is_over source) ∥₁)

-- the same for so many sessions as are enough
abbrev pub ServesUntil : {T D K O F : Type 0} → (T → Type 0) → (D → Type 0) → (D → View) → (D → ℕ) → (K → LinkState) → (O → LinkState) → (F → LinkState) → ℕ → D → D → O → O → F → F → ℕ → Type 0
ServesUntil is_over keeps view failed client_told output_told faults_told sessions disk disk_after output output_after faults faults_after status =
    (served : ℕ) × AreEnough is_over sessions served × ServesOn keeps view failed client_told output_told faults_told served disk disk_after output output_after faults faults_after status
