-- What holds of each desk.
use Rattle.std.specs.Prelude.{◌≡◌, ℕ, ◌≤◌, List, true, false, length}
use Rattle.line_disk.specs.Disk.{View, Leaves}
use Rattle.record_file.specs.File.{Said, Stands}
use Rattle.chains.specs.Held.{Held}
use Rattle.desk.specs.Desks.{DeskState, records_of}
use Rattle.desk.specs.Files.{MayStandFor, IsPending}
use Rattle.desk.specs.Records.{Admits, Opens}
use Rattle.desk.specs.Replays.{Replays}

-- how many turns are made at most
abbrev pub turn_limit : ℕ
turn_limit = 65536

-- the same over a store that is not stopped
abbrev pub unstopped : Held → Held
unstopped held = record { accepted = held.accepted; epochs = held.epochs; front = held.front; epoch = held.epoch; stopped = false }

-- The turns replay from what was held at the opening to what is held; opening the records that were found comes to the one, and opening
-- all records to the other. A crash leaves a file of all records, or after FAIL unknown of these, or of these and the one that is
-- pending, which opening admits behind them.
pub record IsLawfulDesk {D : Type 0} (keeps : D → Type 0) (view : D → View) (desk : DeskState D) : Type 0 where
  pub replays : Replays desk.opening desk.turns desk.held
  pub goes : desk.opening.stopped ≡ false
  pub opened : Opens desk.found desk.opening
  pub few : length desk.turns ≤ turn_limit
  pub admitted : Opens (records_of desk) (unstopped desk.held)
  pub pending : (one : Said) → IsPending desk.held.epoch desk.turns one → (desk.held.stopped ≡ true) × ((after : Held) × Admits (unstopped desk.held) one after)
  pub running : desk.held.stopped ≡ false → keeps desk.disk → (c : List ℕ) → Leaves (view desk.disk) c → Stands (records_of desk) c
  pub left : keeps desk.disk → (c : List ℕ) → Leaves (view desk.disk) c → MayStandFor (records_of desk) desk.held.epoch desk.turns c
