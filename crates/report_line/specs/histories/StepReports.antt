-- The reports that the steps of a history make.
use Rattle.std.specs.Prelude.{◌≡◌, ℕ, suc, ◌+◌, Bool, true, false, ◌&&◌, Option, Some, None, if◌then◌else◌, List, [], ◌∷◌, ◌++◌}
use Rattle.std.specs.List.{cons_option}
use Rattle.std.specs.Str.{bytes_eq}
use Rattle.id_tree.specs.IdTree.{IdTree, Zero}
use Rattle.report_line.specs.declared.report.ReportKind.{ReportKind}
use Rattle.report_line.specs.declared.report.ReportKind.TheVariants as reported
use Rattle.report_line.specs.declared.report.Report.{Report}
use Rattle.report_line.specs.declared.report.Report.TheVariants.{Numbered}
use Rattle.report_line.specs.declared.step.StepKind.{StepKind}
use Rattle.report_line.specs.declared.step.StepKind.TheVariants.{Work, Check, Present, Send, Receive, Fork, Retire, Absorb}
use Rattle.report_line.specs.declared.step.Step.{Step}
use Rattle.report_line.specs.histories.History.{Name, History, Event, event_of, Status, Unborn, Living, Retired, Absorbed, status}

-- a check, a present state, a fork, a retirement and an absorption are reported
abbrev pub is_reported : StepKind → Bool
is_reported Work = false
is_reported Check = true
is_reported Present = true
is_reported (Send m) = false
is_reported (Receive m) = false
is_reported (Fork child given) = true
is_reported (Retire target) = true
is_reported (Absorb retired) = true

-- how many reporting steps of the process a history has
abbrev pub reporting_steps : Name → History → ℕ
reporting_steps p [] = 0
reporting_steps p (s ∷ h) = if bytes_eq p s.process && is_reported s.step_kind then suc (reporting_steps p h) else reporting_steps p h

-- the id of a process that stands so
abbrev pub id_of : Status → IdTree
id_of Unborn = Zero
id_of (Living last) = last.id
id_of (Retired last into) = last.id
id_of Absorbed = Zero

-- a report of the step `s` after the steps `h`, with this id, the number of this reporting step and the values after it
abbrev pub step_report : History → Step → IdTree → ReportKind → Report
step_report h s id a =
    Numbered (record { process = s.process; number = reporting_steps s.process h + 1; stamp = record { id = id; events = s.stamp.events }; action = a })

-- The report of the step `s` after the steps `h`, by its kind, which stands beside it, if it makes one. The id of its stamp
-- is the one after the step, and for a fork the one before the split.
abbrev pub report_by : Name → History → Step → StepKind → Option Report
report_by root h s Work = None
report_by root h s Check = Some (step_report h s s.stamp.id reported.Check)
report_by root h s Present = Some (step_report h s s.stamp.id reported.Present)
report_by root h s (Send m) = None
report_by root h s (Receive m) = None
report_by root h s (Fork child given) =
    Some (step_report h s (id_of (status root h s.process)) (reported.Fork (record { kept = s.stamp.id; child = child; given = given })))
report_by root h s (Retire target) = Some (step_report h s s.stamp.id (reported.Retire target))
report_by root h s (Absorb retired) = Some (step_report h s s.stamp.id (reported.Absorb retired))

-- the report of the step `s` after the steps `h`, if it makes one
abbrev pub report_of : Name → History → Step → Option Report
report_of root h s = report_by root h s s.step_kind

-- the reports of a history, in order: the oldest first
abbrev pub reports : Name → History → List Report
reports root [] = []
reports root (s ∷ h) = reports root h ++ cons_option (report_of root h s) []

-- it is the report of the step of this event
pub data IsReportOf (root : Name) : History → Report → Event → Type 0 where
  newest : {h : History} {s : Step} {r : Report} → report_of root h s ≡ Some r → IsReportOf root (s ∷ h) r (event_of h s)
  earlier : {h : History} {s : Step} {r : Report} {e : Event} → IsReportOf root h r e → IsReportOf root (s ∷ h) r e
