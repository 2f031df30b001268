-- What is shown of a process of this name, id, and so on, and where this is kept of it.
use Rattle.std.specs.Prelude.{◌≡◌, ℕ, option_copied, Bool, List, Option}
use Rattle.id_tree.specs.IdTree.{IdTree}
use Rattle.id_tree.specs.NormalForm.{depth}
use Rattle.id_tree.specs.Size.{size}
use Rattle.chains.specs.Processes.{Name}
use Rattle.chains.specs.declared.state.State.{State}
use Rattle.record_show.specs.declared.shown.ShownProcess.{ShownProcess}
use Rattle.record_show.specs.Processes.{shown_id, state_by}

abbrev pub shown_with : Name → Option IdTree → Bool → ℕ → ℕ → List ℕ → Option Name → ShownProcess
shown_with p id absorbed reports elements last lost_in = record {
  name = p;
  state = state_by id absorbed;
  reports = reports;
  elements = elements;
  depth = depth (shown_id id);
  size = size (shown_id id);
  last = last;
  lost_in = lost_in;
}

pub record IsShownBy (p : Name) (state : State) (absorbed : Bool) (last : List ℕ) (lost_in : Option Name) (shown : ShownProcess) : Type 0 where
  pub is : shown ≡ shown_with p (option_copied state.id) absorbed state.reports state.elements last lost_in
