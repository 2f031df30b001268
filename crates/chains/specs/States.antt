-- What is told of the state of a process.
use Rattle.std.specs.Prelude.{◌≡◌, List, Option, Some, None, length, option_copied}
use Rattle.report_line.specs.declared.report.Report.{Report}
use Rattle.id_tree.specs.IdTree.{IdTree}
use Rattle.chains.specs.Processes.{Name, reports_of, registered_id, target_of}
use Rattle.chains.specs.Elements.{elements_of}
use Rattle.chains.specs.declared.state.State.{State}

-- the registered id of a process that lives; a retired one has none
abbrev pub live_id : Option Name → List Report → Name → Option IdTree
live_id None accepted p = Some (registered_id p accepted)
live_id (Some target) accepted p = None

-- reports with a number, elements, and the registered id
pub record IsStateOf (accepted : List Report) (p : Name) (state : State) : Type 0 where
  pub reports : state.reports ≡ reports_of p accepted
  pub elements : state.elements ≡ length (elements_of p accepted)
  pub id : option_copied state.id ≡ live_id (target_of p accepted) accepted p
