-- What the command `serve` answers that lasts.
use Rattle.std.specs.Prelude.{◌≡◌, ◌≢◌, ◌⊎◌, ◌<◌, ◌≤◌, ℕ, Bool, true, false, List, [], ◌∷◌, ◌++◌, Option, IfSome, ⊤}
use Rattle.line_disk.specs.Disk.{View}
use Rattle.chains.specs.Held.{Held}
use Rattle.desk.specs.Desks.{DeskState, records_of}
use Rattle.desk.specs.declared.turn.Turn.{Turn}
use Rattle.law_turns.specs.Traces.{AreTurns}
use Rattle.coordinator.specs.Passes.{PassState}
use Rattle.coordinator.specs.Closing.{EndsWith, IsRemainder}
use Rattle.coordinator.specs.declared.fault.CloseFault.{CloseFault}
use Rattle.client_link.specs.Links.{LinkState}
use Rattle.session.specs.Current.{trace_of}
use Rattle.session.specs.Guests.{IsPassOfGuest}
use Rattle.recline.specs.Outcome.{IsOpened, IsNotOpened, Tells}
use Rattle.recline.specs.Driving.{WritesAll, WritesPart}
use Rattle.recline.specs.Serving.{end_line, port_line, stop_line, stopped_by}
use Rattle.recline.specs.declared.serving.Stop.{Stop}
use Rattle.recline.specs.declared.serving.Stop.TheVariants as stops
use Rattle.recline.specs.declared.lasting.LastingService.{LastingService}

-- how many workers there may be, and how many seconds a client may rest
abbrev pub AreLastingLimits : ℕ → Option ℕ → Type 0
AreLastingLimits workers idle = ((0 < workers) × (workers ≤ 64)) × IfSome idle (λ seconds. 0 < seconds)

abbrev pub IsLastingService : LastingService → Type 0
IsLastingService service = AreLastingLimits service.workers service.idle

-- ---- one coordinator after the other

-- Each pass is one by which a client was served, in a session that may have gone on from earlier coordinators and may go on over later ones.
abbrev pub ArePassesOfGuests : {D K : Type 0} → (D → Type 0) → (D → View) → (K → LinkState) → List PassState → Type 0
ArePassesOfGuests keeps view client_told [] = ⊤
ArePassesOfGuests keeps view client_told (pass ∷ passes) = ∥ IsPassOfGuest keeps view client_told pass ∥₁ × ArePassesOfGuests keeps view client_told passes

-- Clients were served over the first desk, and the coordinator ended with just their passes: each of its turns is one entry of these, and each
-- line that a client was shown is right. At its end the desk was the second one.
pub record IsGeneration {D K : Type 0} (keeps : D → Type 0) (view : D → View) (client_told : K → LinkState) (desk after : DeskState D) : Type 0 where
  pub passes : List PassState
  pub ends : EndsWith keeps view desk.opening passes after
  pub guests : ArePassesOfGuests keeps view client_told passes

-- the desk of a coordinator at its beginning and at its end
pub record Generation (D : Type 0) : Type 0 where
  pub desk : DeskState D
  pub after : DeskState D

-- The second desk begins with what the first one held: it found all records of that one, those of its turns among them, on the same disk, and has
-- made no turn yet. The first one made a turn, so no coordinator that did nothing is followed by another.
pub record IsRenewed {D : Type 0} (before desk : DeskState D) : Type 0 where
  pub running : before.held.stopped ≡ false
  pub turned : before.turns ≢ []
  pub opening : desk.opening ≡ before.held
  pub held : desk.held ≡ before.held
  pub found : desk.found ≡ records_of before
  pub turns : desk.turns ≡ []
  pub disk : desk.disk ≡ before.disk

-- After these generations, the last of them first, a desk begins with what the last one held. The first of all is opened over a disk.
abbrev pub BeginsAfter : {D : Type 0} → (D → Type 0) → (D → View) → D → List (Generation D) → DeskState D → Type 0
BeginsAfter keeps view first [] desk = IsOpened keeps view first desk
BeginsAfter keeps view first (last ∷ earlier) desk = IsRenewed last.after desk

-- generations one after the other, the last of them first
abbrev pub AreGenerations : {D K : Type 0} → (D → Type 0) → (D → View) → (K → LinkState) → D → List (Generation D) → Type 0
AreGenerations keeps view client_told first [] = ⊤
AreGenerations keeps view client_told first (g ∷ earlier) =
    IsGeneration keeps view client_told g.desk g.after × (BeginsAfter keeps view first earlier g.desk × AreGenerations keeps view client_told first earlier)

-- the turns of all of them, in order
abbrev pub turns_of : {D : Type 0} → List (Generation D) → List Turn
turns_of [] = []
turns_of (g ∷ earlier) = turns_of earlier ++ g.after.turns

-- what was held before the first of them, if there was one
abbrev pub held_before : {D : Type 0} → Generation D → List (Generation D) → Held
held_before last [] = last.desk.opening
held_before last (g ∷ earlier) = held_before g earlier

-- However many coordinators followed one another, all their turns in order lead from what was held before the first to what is held after the
-- last, as the turns of one would.
abbrev pub AreOneRun : {D K : Type 0} → (D → Type 0) → (D → View) → (K → LinkState) → Type 0
AreOneRun {D} keeps view client_told =
    (first : D) (last : Generation D) (earlier : List (Generation D)) → AreGenerations keeps view client_told first (last ∷ earlier)
    → AreTurns (held_before last earlier) (trace_of (turns_of (last ∷ earlier))) last.after.held

-- Clients were served over a desk, and its turns are not those of their passes, or memory was missing to check that. The disk is that of a desk
-- with all records.
pub record IsBroken {D K : Type 0} (keeps : D → Type 0) (view : D → View) (client_told : K → LinkState) (desk : DeskState D) (disk : D) (stop : Stop) : Type 0 where
  pub passes : List PassState
  pub turns : ℕ
  pub front : ℕ
  pub fault : CloseFault
  pub stop_is : stop ≡ stopped_by fault
  pub guests : ArePassesOfGuests keeps view client_told passes
  pub remains : IsRemainder keeps view desk.opening passes fault turns front disk

-- Nobody was served over a desk, because memory was missing; or clients were, and it is not said that they were served rightly.
abbrev pub IsUnsettled : {D K : Type 0} → (D → Type 0) → (D → View) → (K → LinkState) → DeskState D → D → Stop → Type 0
IsUnsettled keeps view client_told desk disk stop = ((disk ≡ desk.disk) × (stop ≡ stops.Memory)) ⊎ IsBroken keeps view client_told desk disk stop

-- the desk is the next one after some generations
pub record IsNextDesk {D K : Type 0} (keeps : D → Type 0) (view : D → View) (client_told : K → LinkState) (first : D) (desk : DeskState D) : Type 0 where
  pub generations : List (Generation D)
  pub are : AreGenerations keeps view client_told first generations
  pub begins : BeginsAfter keeps view first generations desk

-- The service may stop for the device where its file failed, or a door did.
abbrev pub MayStop : {T : Type 0} → (T → Type 0) → Bool → Stop → Type 0
MayStop {T} has_failed stopped stops.Device = (stopped ≡ true) ⊎ ∥ ((door : T) × has_failed door) ∥₁
MayStop {T} has_failed stopped stops.Memory = ⊤
MayStop {T} has_failed stopped stops.Foreign = ⊥

-- This is the last of some generations, and left this disk.
pub record IsLast {D K : Type 0} (keeps : D → Type 0) (view : D → View) (client_told : K → LinkState) (first now : D) (last : Generation D) : Type 0 where
  pub earlier : List (Generation D)
  pub generations : AreGenerations keeps view client_told first (last ∷ earlier)
  pub disk_is : now ≡ last.after.disk

-- The service stopped after its last generation, which was checked.
pub record IsStoppedAfter {T D K : Type 0} (has_failed : T → Type 0) (keeps : D → Type 0) (view : D → View) (client_told : K → LinkState) (first now : D) (stop : Stop) : Type 0 where
  pub last : Generation D
  pub is_last : IsLast keeps view client_told first now last
  pub why : MayStop has_failed last.after.held.stopped stop

-- A service stopped after generations; or after them and one desk more, which is unsettled.
abbrev pub IsStoppedService : {T D K : Type 0} → (T → Type 0) → (D → Type 0) → (D → View) → (K → LinkState) → D → D → Stop → Type 0
IsStoppedService {D = D} has_failed keeps view client_told first now stop =
    IsStoppedAfter has_failed keeps view client_told first now stop ⊎ ((desk : DeskState D) × (IsNextDesk keeps view client_told first desk × IsUnsettled keeps view client_told desk now stop))

-- ---- the command

-- The port and the front at the end were printed, and the file had not failed.
pub record LastsToEnd {T D K : Type 0} (is_over : T → Type 0) (keeps : D → Type 0) (view : D → View) (client_told : K → LinkState) (port : ℕ) (first now : D) (old new : LinkState) : Type 0 where
  pub last : Generation D
  pub is_last : IsLast keeps view client_told first now last
  pub over : ∥ ((door : T) × is_over door) ∥₁
  pub running : last.after.held.stopped ≡ false
  pub written : WritesAll old new (port_line port ++ end_line last.after.held.front)

-- After the last generation the front at its end was not printed as a whole.
pub record IsEndCut {D K : Type 0} (keeps : D → Type 0) (view : D → View) (client_told : K → LinkState) (port : ℕ) (first now : D) (old new : LinkState) (stop : Stop) : Type 0 where
  pub last : Generation D
  pub is_last : IsLast keeps view client_told first now last
  pub device : stop ≡ stops.Device
  pub cut : WritesPart old new (port_line port ++ end_line last.after.held.front)

-- nobody was served over the first desk
pub record IsUnserved {D : Type 0} (keeps : D → Type 0) (view : D → View) (first now : D) : Type 0 where
  pub desk : DeskState D
  pub opened : IsOpened keeps view first desk
  pub disk_is : now ≡ desk.disk

-- The service stopped: nobody was served, because memory was missing, and nothing was printed; or because the device did not take the port; or the
-- port was printed, and it stopped after generations; or it came to its end, and the device did not take the front.
abbrev pub LastsInPart : {T D K : Type 0} → (T → Type 0) → (D → Type 0) → (D → View) → (K → LinkState) → ℕ → D → D → LinkState → LinkState → Stop → Type 0
LastsInPart has_failed keeps view client_told port first now old new stop =
    (IsUnserved keeps view first now × ((new ≡ old) × (stop ≡ stops.Memory)))
    ⊎ ((IsUnserved keeps view first now × (WritesPart old new (port_line port) × (stop ≡ stops.Device)))
    ⊎ ((IsStoppedService has_failed keeps view client_told first now stop × WritesAll old new (port_line port))
    ⊎ IsEndCut keeps view client_told port first now old new stop))

-- A long-lived service went on to its end, which a door asked for; or it stopped, and prints why.
pub record Lasts {T D K O F : Type 0} (is_over has_failed : T → Type 0) (keeps : D → Type 0) (view : D → View) (client_told : K → LinkState) (output_told : O → LinkState) (faults_told : F → LinkState) (port : ℕ) (disk disk_after : D) (output output_after : O) (faults faults_after : F) (status : ℕ) : Type 0 where
  pub ends : (LastsToEnd is_over keeps view client_told port disk disk_after (output_told output) (output_told output_after) × ((faults_after ≡ faults) × (status ≡ 0)))
      ⊎ ((stop : Stop) × (LastsInPart has_failed keeps view client_told port disk disk_after (output_told output) (output_told output_after) stop × (Tells (faults_told faults) (faults_told faults_after) (stop_line stop) × (status ≡ 3))))

-- the same, or the file was not opened
abbrev pub LastsOn : {T D K O F : Type 0} → (T → Type 0) → (T → Type 0) → (D → Type 0) → (D → View) → (D → ℕ) → (K → LinkState) → (O → LinkState) → (F → LinkState) → ℕ → D → D → O → O → F → F → ℕ → Type 0
LastsOn is_over has_failed keeps view failed client_told output_told faults_told port disk disk_after output output_after faults faults_after status =
    Lasts is_over has_failed keeps view client_told output_told faults_told port disk disk_after output output_after faults faults_after status
    ⊎ IsNotOpened keeps view failed faults_told disk disk_after output output_after faults faults_after status
