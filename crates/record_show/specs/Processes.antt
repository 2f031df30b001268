-- What is shown of processes, and of the file.
use Rattle.std.specs.Prelude.{ℕ, ◌-◌, Bool, true, false, List, [], Option, Some, None, length, map, option_and_then, slice_get, unwrap_or, ◌==◌, if◌then◌else◌}
use Rattle.std.specs.Option.{option_map, option_map_or}
use Rattle.id_tree.specs.IdTree.{IdTree, Zero}
use Rattle.id_tree.specs.NormalForm.{depth}
use Rattle.id_tree.specs.Size.{size}
use Rattle.report_line.specs.declared.report.Report.{Report}
use Rattle.report_line.specs.declared.call.Call.TheVariants as calls
use Rattle.report_line.specs.Reports.{unmarked}
use Rattle.report_line.specs.Spelling.{spelling}
use Rattle.chains.specs.Processes.{Name, known, reports_of, target_of, is_absorbed}
use Rattle.chains.specs.Elements.{elements_of, makers_of}
use Rattle.chains.specs.States.{live_id}
use Rattle.chains.specs.Held.{Held}
use Rattle.record_file.specs.File.{first_version}
use Rattle.earlier_file.specs.declared.found.FileFacts.{FileFacts}
use Rattle.record_show.specs.declared.shown.ShownState.{ShownState}
use Rattle.record_show.specs.declared.shown.ShownState.TheVariants.{Live, Waiting, Absorbed}
use Rattle.record_show.specs.declared.shown.ShownProcess.{ShownProcess}
use Rattle.record_show.specs.declared.shown.ShownFile.{ShownFile}

-- its registered id, while it lives
abbrev pub own_id : List Report → Name → Option IdTree
own_id accepted p = live_id (target_of p accepted) accepted p

-- the id that is shown: once it retired that of nothing, as STATE tells it
abbrev pub shown_id : Option IdTree → IdTree
shown_id id = unwrap_or id Zero

-- it lives, or retired and waits, or was absorbed
abbrev pub state_by : Option IdTree → Bool → ShownState
state_by (Some id) absorbed = Live
state_by None false = Waiting
state_by None true = Absorbed

-- the process itself, if it retired: it absorbs nothing any more
abbrev pub if_retired : List Report → Name → Option Name
if_retired accepted q = option_map (λ target. q) (target_of q accepted)

-- the process into which p retired in vain: its retirement was not absorbed, and the target retired itself
abbrev pub lost_in : List Report → Name → Option Name
lost_in accepted p = if is_absorbed p accepted then None else option_and_then (if_retired accepted) (target_of p accepted)

-- the line of a report as it stands in its record: without a mark
abbrev pub line_of : Option Report → List ℕ
line_of r = option_map_or (λ report. spelling (calls.Report (unmarked report))) r []

-- the report that made element k of a process, counted from 1
abbrev pub maker : List Report → Name → ℕ → Option Report
maker accepted p k = slice_get (makers_of p accepted) (k - 1)

abbrev pub shown_process : List Report → Name → ShownProcess
shown_process accepted p = record {
  name = p;
  state = state_by (own_id accepted p) (is_absorbed p accepted);
  reports = reports_of p accepted;
  elements = length (elements_of p accepted);
  depth = depth (shown_id (own_id accepted p));
  size = size (shown_id (own_id accepted p));
  last = line_of (maker accepted p (length (elements_of p accepted)));
  lost_in = lost_in accepted p;
}

-- of each known process, in order of birth
abbrev pub shown_processes : List Report → List ShownProcess
shown_processes accepted = map (shown_process accepted) (known accepted)

-- the version by its byte: 1 is the first, and any other the second
abbrev pub version_number : ℕ → ℕ
version_number byte = if byte == first_version then 1 else 2

abbrev pub shown_file : Held → FileFacts → ShownFile
shown_file held facts = record { version = version_number facts.version; records = facts.records; front = held.front; epoch = held.epoch; tail = facts.tail }
