-- Working definitions: the tests of a report that is folded again.
use Rattle.std.specs.Prelude.{◌≡◌, ◌≤◌, ◌<◌, List, [], ◌∷◌, ◌++◌, length}
use Rattle.report_line.specs.declared.report.ReportKind.{ReportKind}
use Rattle.report_line.specs.declared.report.NumberedReport.{NumberedReport}
use Rattle.report_line.specs.declared.report.Report.{Report}
use Rattle.chains.specs.Processes.{known, registered_id, expected_id, last_events}
use Rattle.chains.specs.Kept.{Kept, HasRoomFor}
use Rattle.chains.specs.Ready.{ReadyReport}
use Rattle.chains.specs.Admission.{AreGrown, report_limit, process_limit}
use Rattle.chains.specs.Answers.{IsNumberOf}
use Rattle.chains.specs.Folded.{IsFitAction, IsFit}

-- the stamp has the expected id and has grown, and the action is fit
abbrev pub HasFitStamp : List Report → NumberedReport → ReportKind → Type 0
HasFitStamp accepted r a =
    (r.stamp.id ≡ expected_id accepted r.process a) × AreGrown (last_events r.process accepted) (registered_id r.process accepted) r.stamp.events × IsFitAction accepted r a

-- the stamp has the registered id and has grown
abbrev pub HasOwnStamp : List Report → NumberedReport → Type 0
HasOwnStamp accepted r =
    (r.stamp.id ≡ registered_id r.process accepted) × AreGrown (last_events r.process accepted) (registered_id r.process accepted) r.stamp.events

-- the report may be put behind the accepted ones: it is fit, of no later epoch than the present one, within the limits, and there is room
pub record MayBePut (k : Kept) (ready : ReadyReport) : Type 0 where
  pub fit : IsFit k.accepted ready.report.report
  pub past : ready.report.epoch ≤ k.epoch
  pub few : k.front < report_limit
  pub few_known : length (known (k.accepted ++ ready.report.report ∷ [])) ≤ process_limit
  pub process : IsNumberOf k.accepted ready.report.report ready.process
  pub room : 0 < k.room
  pub element_room : HasRoomFor k ready.report.report ready.process
