-- Working definitions: what the fields of chains are kept as.
use Rattle.std.specs.Prelude.{◌≡◌, ℕ, ◌+◌, ◌-◌, ◌≤◌, ◌<◌, min, List, All, length, map, slice_index_or, vec_len, vec_capacity}
use Rattle.indexmap.specs.IndexSet.{spare}
use Rattle.id_tree.specs.IdTree.{One}
use Rattle.event_tree.specs.EventTree.{Leaf}
use Rattle.stamp.specs.declared.stamp.Stamp.{Stamp}
use Rattle.chains.specs.declared.chains.Chains.TheInside.{Inside}
use Rattle.report_line.specs.declared.report.Report.{Report}
use Rattle.chains.specs.declared.process.Process.{Process}
use Rattle.chains.specs.Processes.{Name, known}
use Rattle.chains.specs.Admission.{report_limit, process_limit}
use Rattle.chains.specs.Folded.{IsFolded}
use Rattle.chains.specs.Kept.{Kept}
use Rattle.chains.specs.working.Keeping.{kept_of, view_of}
use Rattle.chains.specs.working.Room.{element_room}

-- the accepted list with its epochs, the front and the present epoch, the least room of the four fields, and the room of each process
abbrev pub kept_in : Inside → Kept
kept_in a = record {
  accepted = a.reports.items;
  epochs = a.epochs.items;
  front = a.front;
  epoch = a.epoch;
  room = min (vec_capacity a.reports - vec_len a.reports) (min (vec_capacity a.epochs - vec_len a.epochs) (min (spare a.names) (vec_capacity a.processes - vec_len a.processes)));
  rooms = map element_room a.processes.items;
}

-- no name stands twice
abbrev pub AreDistinctNames : List Name → Type 0
AreDistinctNames names = (i j : ℕ) (p : Name) → i < length names → j < length names → slice_index_or names i p ≡ slice_index_or names j p → i ≡ j

-- the names are those of the known processes, and beside each stands what is kept of it
pub record AreInOrder (accepted : List Report) (names : List Name) (processes : List Process) : Type 0 where
  pub folded : IsFolded accepted
  pub few : length accepted ≤ report_limit
  pub few_known : length (known accepted) ≤ process_limit
  pub distinct : AreDistinctNames (known accepted)
  pub named : names ≡ known accepted
  pub kept : map view_of processes ≡ map (kept_of accepted) (known accepted)

-- the stamp 1;0
abbrev pub first_stamp : Stamp
first_stamp = record { id = One; events = Leaf 0 }

pub record IsInOrder (a : Inside) : Type 0 where
  pub fields : AreInOrder a.reports.items a.names.keys a.processes.items
  pub marked : length a.epochs.items ≡ length a.reports.items
  pub past : All (λ e. e ≤ a.epoch) a.epochs.items
  pub counted : length a.reports.items + a.epoch ≤ a.front
  pub within : a.front ≤ report_limit
  pub first : a.first ≡ first_stamp
