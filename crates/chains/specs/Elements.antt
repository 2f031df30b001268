-- The elements of a process: what it can be returned to.
use Rattle.std.specs.Prelude.{ℕ, zero, suc, Bool, List, [], ◌∷◌, ◌++◌, Option, Some, None, filter, slice_get, if◌then◌else◌}
use Rattle.std.specs.List.{filter_map}
use Rattle.std.specs.Option.{option_map_or, is_some}
use Rattle.std.specs.Str.{bytes_eq}
use Rattle.id_tree.specs.IdTree.{One}
use Rattle.event_tree.specs.EventTree.{Leaf}
use Rattle.stamp.specs.declared.stamp.Stamp.{Stamp}
use Rattle.report_line.specs.declared.report.ReportKind.{ReportKind}
use Rattle.report_line.specs.declared.report.ReportKind.TheVariants.{Check, Present, Fork}
use Rattle.report_line.specs.declared.report.NumberedReport.{NumberedReport}
use Rattle.report_line.specs.declared.report.Report.{Report}
use Rattle.report_line.specs.declared.report.Report.TheVariants.{Begin, Numbered}
use Rattle.chains.specs.Processes.{Name, first_of, known, last_report}

-- a thing where the test holds
abbrev pub only_if : {X : Type 0} → Bool → X → Option X
only_if b x = if b then Some x else None

-- the stable element of p that a report makes by its action, which stands beside it, if it makes one: a checkpoint its own
-- stamp, a child's birth its part of the id with the events of the fork
abbrev pub stable_by : Name → NumberedReport → ReportKind → Option Stamp
stable_by p r Check = only_if (bytes_eq p r.process) r.stamp
stable_by p r (Fork f) = only_if (bytes_eq p f.child) (record { id = f.given; events = r.stamp.events })
stable_by p r _ = None

-- the stable element of p that a report makes, if it makes one: the root's birth has the stamp 1;0
abbrev pub stable_made : Name → Report → Option Stamp
stable_made p (Begin q) = only_if (bytes_eq p q) (record { id = One; events = Leaf 0 })
stable_made p (Numbered r) = stable_by p r r.action

-- the birth and the checkpoints of p, in order
abbrev pub stable_of : Name → List Report → List Stamp
stable_of p accepted = filter_map (stable_made p) accepted

-- the element of this stamp, if the action is a present state
abbrev pub present_by : Stamp → ReportKind → List Stamp
present_by s Present = s ∷ []
present_by s _ = []

-- the element of a report that is a present state
abbrev pub present_in : Option Report → List Stamp
present_in None = []
present_in (Some (Begin p)) = []
present_in (Some (Numbered r)) = present_by r.stamp r.action

-- The elements of the process of this name, in order: its birth, its checkpoints, and its present state, which stands
-- until its next report. Each is seen as its id and events.
abbrev pub elements_of : Name → List Report → List Stamp
elements_of p accepted = stable_of p accepted ++ present_in (last_report p accepted)

-- whether a report makes a stable element of p
abbrev pub makes_stable : Name → Report → Bool
makes_stable p r = is_some (stable_made p r)

-- the report, by its action, if that is a present state
abbrev pub present_report_by : NumberedReport → ReportKind → List Report
present_report_by r Present = Numbered r ∷ []
present_report_by r _ = []

abbrev pub present_report : Option Report → List Report
present_report None = []
present_report (Some (Begin p)) = []
present_report (Some (Numbered r)) = present_report_by r r.action

-- the reports that made the elements of p, in the order of the elements
abbrev pub makers_of : Name → List Report → List Report
makers_of p accepted = filter (makes_stable p) accepted ++ present_report (last_report p accepted)

-- the element of p that a report makes: a stable one, or the present state that it is
abbrev pub element_made : Name → Report → Option Stamp
element_made p r = first_of (stable_made p r) (slice_get (present_in (Some r)) 0)

-- the name of a process by its number, counted from 0 in order of birth
abbrev pub name_of : List Report → ℕ → Option Name
name_of accepted p = slice_get (known accepted) p

-- the elements of a process by its number
abbrev pub elements : List Report → ℕ → List Stamp
elements accepted p = option_map_or (λ name. elements_of name accepted) (name_of accepted p) []

-- those of them that last
abbrev pub stable : List Report → ℕ → List Stamp
stable accepted p = option_map_or (λ name. stable_of name accepted) (name_of accepted p) []

-- element k, counted from 1
abbrev pub element : List Report → ℕ → ℕ → Option Stamp
element accepted p zero = None
element accepted p (suc k) = slice_get (elements accepted p) k
