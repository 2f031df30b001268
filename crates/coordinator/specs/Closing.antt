-- What passes have to show at the end.
use Rattle.std.specs.Prelude.{◌≡◌, ◌≢◌, ◌⊎◌, ℕ, ◌-◌, ◌<◌, ◌≤◌, ◌==◌, ◌++◌, false, true, List, length, take, All, Contains, Some, slice_get, ⊤}
use Rattle.std.specs.List.{count_by, flat_map}
use Rattle.line_disk.specs.Disk.{View, Leaves}
use Rattle.report_line.specs.declared.reply.Reply.TheVariants.{Line}
use Rattle.chains.specs.Held.{Held}
use Rattle.desk.specs.declared.turn.Turn.{Turn}
use Rattle.desk.specs.Desks.{DeskState}
use Rattle.record_file.specs.File.{Said, Stands}
use Rattle.desk.specs.Files.{MayStandFor, IsPending}
use Rattle.desk.specs.Records.{Admits, Opens, recorded}
use Rattle.desk.specs.Lawful.{IsLawfulDesk, unstopped}
use Rattle.desk.specs.Replays.{Replays}
use Rattle.coordinator.specs.declared.fault.CloseFault.{CloseFault}
use Rattle.coordinator.specs.declared.fault.CloseFault.TheVariants.{Stranger, Missing, Memory}
use Rattle.line_answer.specs.Questions.{IsLineFor}
use Rattle.coordinator.specs.Passes.{PassEntry, PassState}

-- ---- entries and turns

abbrev pub turn_of : PassEntry → Turn
turn_of e = record { call = e.call; receipt = e.receipt }

-- the entries of all passes, one pass after another
abbrev pub entries_of : List PassState → List PassEntry
entries_of passes = flat_map (λ p. p.entries) passes

-- how many entries have the turn of this number
abbrev pub times : ℕ → List PassEntry → ℕ
times n es = count_by (λ e. e.receipt.turn == n) es

-- the entry's call and receipt stand at its turn
abbrev pub IsAtTurn : List Turn → PassEntry → Type 0
IsAtTurn ts e = (0 < e.receipt.turn) × (slice_get ts (e.receipt.turn - 1) ≡ Some (turn_of e))

-- ---- lines that were shown

-- the entry shows no line, or one that is for its call and certifies for what the turns before its own replay to
abbrev pub ShowsRightly : Held → List Turn → PassEntry → Type 0
ShowsRightly opening ts e =
    (text : List ℕ) → e.shown ≡ Line text → (held : Held) × Replays opening (take (e.receipt.turn - 1) ts) held × IsLineFor held e.call text

-- the entry shows a line, and it is not so
abbrev pub ShowsWrongly : Held → List Turn → PassEntry → Type 0
ShowsWrongly opening ts e =
    (text : List ℕ) × (e.shown ≡ Line text) × ((held : Held) × Replays opening (take (e.receipt.turn - 1) ts) held × ¬ IsLineFor held e.call text)

-- ---- what was audited

-- each entry stands at its turn, each turn is that of one entry, and each line that is shown is right
pub record IsAudited (opening : Held) (ts : List Turn) (passes : List PassState) : Type 0 where
  pub fits : All (IsAtTurn ts) (entries_of passes)
  pub once : (n : ℕ) → 0 < n → n ≤ length ts → times n (entries_of passes) ≡ 1
  pub lines : All (λ p. All (ShowsRightly opening ts) p.entries) passes

-- The pass of this number has an entry that does not stand at its turn, or stands at the turn of an entry of an earlier pass, or
-- shows a line that is not right.
pub record IsStrange (opening : Held) (ts : List Turn) (passes : List PassState) (number : ℕ) : Type 0 where
  pub place : ℕ
  pub pass : PassState
  pub entry : PassEntry
  pub stands : slice_get passes place ≡ Some pass
  pub number_is : pass.number ≡ number
  pub positive : 0 < number
  pub has : Contains pass.entries entry
  pub strange : (¬ IsAtTurn ts entry) ⊎ ((0 < times entry.receipt.turn (entries_of (take place passes))) ⊎ ShowsWrongly opening ts entry)

-- fewer entries than turns: each stands at its turn, no two at one, and each line that is shown is right
pub record IsMissing (opening : Held) (ts : List Turn) (passes : List PassState) (shares turns : ℕ) : Type 0 where
  pub shares_are : shares ≡ length (entries_of passes)
  pub turns_are : turns ≡ length ts
  pub fewer : shares < turns
  pub fits : All (IsAtTurn ts) (entries_of passes)
  pub once : (n : ℕ) → 0 < n → n ≤ length ts → times n (entries_of passes) ≤ 1
  pub lines : All (λ p. All (ShowsRightly opening ts) p.entries) passes

-- why passes were refused, where the opening lists agree
abbrev pub IsCause : Held → List Turn → List PassState → CloseFault → Type 0
IsCause opening ts passes (Stranger number) = IsStrange opening ts passes number
IsCause opening ts passes (Missing shares turns) = IsMissing opening ts passes shares turns
IsCause opening ts passes Memory = ⊤

-- Why an audit was refused: that not the same was held at the opening comes first. If memory is missing, each entry stands at its turn
-- nevertheless.
abbrev pub IsAuditCause : {D : Type 0} → Held → DeskState D → List PassState → CloseFault → Type 0
IsAuditCause opening desk passes (Stranger number) =
    ((number ≡ 0) × (opening ≢ desk.opening)) ⊎ ((opening ≡ desk.opening) × IsStrange desk.opening desk.turns passes number)
IsAuditCause opening desk passes (Missing shares turns) = (opening ≡ desk.opening) × IsMissing desk.opening desk.turns passes shares turns
IsAuditCause opening desk passes Memory = (opening ≡ desk.opening) × All (IsAtTurn desk.turns) (entries_of passes)

-- Why a coordinator does not end: some desk, as the one under its lock may be, does not go with these passes, or memory is missing.
pub record IsRefused {D : Type 0} (keeps : D → Type 0) (view : D → View) (opening : Held) (passes : List PassState) (fault : CloseFault) : Type 0 where
  pub desk : DeskState D
  pub lawful : IsLawfulDesk keeps view desk
  pub cause : IsAuditCause opening desk passes fault

-- The coordinator has ended, and this is why its turns are not just those of these passes. A lawful desk made the turns, and this is its
-- disk: what a crash leaves stands for the records of that desk, among them one of each turn that was answered OK or SETTLED.
pub record IsRemainder {D : Type 0} (keeps : D → Type 0) (view : D → View) (opening : Held) (passes : List PassState) (fault : CloseFault) (turns front : ℕ) (disk : D) : Type 0 where
  pub desk : DeskState D
  pub lawful : IsLawfulDesk keeps view desk
  pub cause : IsAuditCause opening desk passes fault
  pub turns_are : turns ≡ length desk.turns
  pub front_is : front ≡ desk.held.front
  pub disk_is : disk ≡ desk.disk

-- The coordinator has ended. Its turns replay from what was held at the opening and are those of the passes. A crash leaves a file of
-- records that opening comes to what was held then by, and behind them those of the turns that were answered OK or SETTLED, in order,
-- with all that was undone; or after FAIL unknown of these, or of these and the one that is pending, which opening admits behind them.
-- Opening all these records comes to what is held at the end.
pub record IsEnded {D : Type 0} (keeps : D → Type 0) (view : D → View) (opening : Held) (passes : List PassState) (turns front : ℕ) (disk : D) : Type 0 where
  pub list : List Turn
  pub held : Held
  pub found : List Said
  pub opened : Opens found opening
  pub replay : Replays opening list held
  pub turns_are : turns ≡ length list
  pub front_is : front ≡ held.front
  pub running : held.stopped ≡ false → keeps disk → (c : List ℕ) → Leaves (view disk) c → Stands (found ++ recorded list) c
  pub left : keeps disk → (c : List ℕ) → Leaves (view disk) c → MayStandFor (found ++ recorded list) held.epoch list c
  pub admitted : Opens (found ++ recorded list) (unstopped held)
  pub pending : (one : Said) → IsPending held.epoch list one → (held.stopped ≡ true) × ((after : Held) × Admits (unstopped held) one after)
  pub audited : IsAudited opening list passes

-- The coordinator has ended so, and the desk is there: the turns, what is held at the end and the records that were found are its own.
pub record EndsWith {D : Type 0} (keeps : D → Type 0) (view : D → View) (opening : Held) (passes : List PassState) (desk : DeskState D) : Type 0 where
  pub ends : IsEnded keeps view opening passes (length desk.turns) desk.held.front desk.disk
  pub list_is : ends.list ≡ desk.turns
  pub held_is : ends.held ≡ desk.held
  pub found_is : ends.found ≡ desk.found
