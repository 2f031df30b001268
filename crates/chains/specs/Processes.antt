-- What an accepted list says of processes. An accepted list has its reports in the order of their acceptance.
use Rattle.std.specs.Prelude.{◌≡◌, ℕ, suc, ◌+◌, Bool, slice_get, option_and_then, false, List, [], ◌∷◌, Option, Some, None, count_by, filter, Contains, if◌then◌else◌}
use Rattle.std.specs.List.{filter_map, list_any}
use Rattle.std.specs.Option.{option_map, option_map_or}
-- the first of two that is there
pub use Rattle.std.specs.Option.{option_or as first_of}
use Rattle.std.specs.Str.{bytes_eq}
use Rattle.id_tree.specs.IdTree.{IdTree, Zero, One}
use Rattle.id_tree.specs.Sum.{sum_of}
use Rattle.event_tree.specs.EventTree.{EventTree, Leaf}
use Rattle.stamp.specs.declared.stamp.Stamp.{Stamp}
use Rattle.report_line.specs.declared.report.ReportKind.{ReportKind}
use Rattle.report_line.specs.declared.report.ReportKind.TheVariants.{Fork, Retire, Absorb}
use Rattle.report_line.specs.declared.report.Report.{Report}
use Rattle.report_line.specs.declared.report.Report.TheVariants.{Begin, Numbered}
-- a name, as its bytes
pub use Rattle.report_line.specs.histories.History.{Name}

-- the child that the action makes, if it makes one
abbrev pub child_of : ReportKind → Option Name
child_of (Fork f) = Some f.child
child_of _ = None

-- the process that is born by the report, if one is
abbrev pub newborn : Report → Option Name
newborn (Begin p) = Some p
newborn (Numbered r) = child_of r.action

-- the known processes, in order of birth: BEGIN's first
abbrev pub known : List Report → List Name
known accepted = filter_map newborn accepted

abbrev pub IsKnown : List Report → Name → Type 0
IsKnown accepted p = Contains (known accepted) p

-- ---- the reports of a process

-- whether it is a report of p with a number; BEGIN has none
abbrev pub is_numbered_of : Name → Report → Bool
is_numbered_of p (Begin q) = false
is_numbered_of p (Numbered r) = bytes_eq p r.process

-- the reports of p with a number, in order
abbrev pub reports_by : Name → List Report → List Report
reports_by p accepted = filter (is_numbered_of p) accepted

-- how many reports with a number are accepted of p
abbrev pub reports_of : Name → List Report → ℕ
reports_of p accepted = count_by (is_numbered_of p) accepted

-- the number that the next report of p has to have
abbrev pub next_number : Name → List Report → ℕ
next_number p accepted = reports_of p accepted + 1

-- the last element that passes a test
abbrev pub last_passing : {X : Type 0} → (X → Bool) → List X → Option X
last_passing test [] = None
last_passing test (x ∷ xs) = first_of (last_passing test xs) (if test x then Some x else None)

-- the index of the last element that passes a test
abbrev pub last_index : {X : Type 0} → (X → Bool) → List X → Option ℕ
last_index test [] = None
last_index test (x ∷ xs) = first_of (option_map (λ i. suc i) (last_index test xs)) (if test x then Some 0 else None)

-- the last accepted report of p with a number
abbrev pub last_report : Name → List Report → Option Report
last_report p accepted = last_passing (is_numbered_of p) accepted

-- the epoch that stands beside the last accepted report of p with a number
abbrev pub last_epoch : Name → List Report → List ℕ → Option ℕ
last_epoch p accepted epochs = option_and_then (λ i. slice_get epochs i) (last_index (is_numbered_of p) accepted)

-- whether p is born by the report
abbrev pub is_birth_of : Name → Report → Bool
is_birth_of p r = option_map_or (λ q. bytes_eq p q) (newborn r) false

-- the report by which p is born
abbrev pub birth_report : Name → List Report → Option Report
birth_report p accepted = last_passing (is_birth_of p) accepted

-- ---- events and ids

-- the events after the report: a root begins with none, and a child with those of the fork
abbrev pub events_after : Option Report → EventTree
events_after None = Leaf 0
events_after (Some (Begin p)) = Leaf 0
events_after (Some (Numbered r)) = r.stamp.events

-- the events that a process has after its last report, or before that at its birth
abbrev pub last_events : Name → List Report → EventTree
last_events p accepted = events_after (first_of (last_report p accepted) (birth_report p accepted))

-- The id that a process has after its action under this stamp: a fork keeps one part, and else it is the stamp's. (The tests
-- see to it that this is the one registered before, or for an absorb the sum.)
abbrev pub id_kept : Stamp → ReportKind → IdTree
id_kept s (Fork f) = f.kept
id_kept s _ = s.id

-- the id that a child begins with
abbrev pub id_given : ReportKind → IdTree
id_given (Fork f) = f.given
id_given _ = Zero

-- the id at birth: a root has everything
abbrev pub id_at_birth : Option Report → IdTree
id_at_birth None = Zero
id_at_birth (Some (Begin p)) = One
id_at_birth (Some (Numbered r)) = id_given r.action

-- the id after the last report, or before that at birth
abbrev pub id_after : Option Report → Option Report → IdTree
id_after None birth = id_at_birth birth
id_after (Some (Begin p)) birth = One
id_after (Some (Numbered r)) birth = id_kept r.stamp r.action

-- the id that is registered of p; of a retired process, the one that goes to its target
abbrev pub registered_id : Name → List Report → IdTree
registered_id p accepted = id_after (last_report p accepted) (birth_report p accepted)

-- ---- retirements

-- the target, if the action is a retirement
abbrev pub target_in : ReportKind → Option Name
target_in (Retire target) = Some target
target_in _ = None

-- the target, if the report is a retirement
abbrev pub target_after : Option Report → Option Name
target_after None = None
target_after (Some (Begin p)) = None
target_after (Some (Numbered r)) = target_in r.action

-- the process into which p retired, if it did
abbrev pub target_of : Name → List Report → Option Name
target_of p accepted = target_after (last_report p accepted)

-- whether the action absorbs the retirement of p
abbrev pub absorbs : Name → ReportKind → Bool
absorbs p (Absorb retired) = bytes_eq p retired
absorbs p _ = false

-- whether the report absorbs the retirement of p
abbrev pub is_absorb_of : Name → Report → Bool
is_absorb_of p (Begin q) = false
is_absorb_of p (Numbered r) = absorbs p r.action

abbrev pub is_absorbed : Name → List Report → Bool
is_absorbed p accepted = list_any (is_absorb_of p) accepted

-- r retired into q, and was not absorbed
abbrev pub Waits : List Report → Name → Name → Type 0
Waits accepted r q = (target_of r accepted ≡ Some q) × (is_absorbed r accepted ≡ false)

-- the id that the stamp of a report has to have: the registered one, for an absorb with that of the retirement
abbrev pub expected_id : List Report → Name → ReportKind → IdTree
expected_id accepted p (Absorb retired) = sum_of (registered_id p accepted) (registered_id retired accepted)
expected_id accepted p _ = registered_id p accepted
