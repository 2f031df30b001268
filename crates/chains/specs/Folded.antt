-- The accepted lists that admission's tests fold without those of a retirement's target and of room: those that admission
-- reaches, and others, on which the laws hold as well.
use Rattle.std.specs.Prelude.{◌≡◌, ◌≢◌, ◌+◌, ◌≤◌, List, [], ◌∷◌, ◌++◌, length, All, None, ⊤}
use Rattle.id_tree.specs.Split.{IsSplit}
use Rattle.event_tree.specs.Values.{IsAtOrBelow}
use Rattle.report_line.specs.declared.report.ReportKind.{ReportKind}
use Rattle.report_line.specs.declared.report.ReportKind.TheVariants.{Fork, Absorb}
use Rattle.report_line.specs.declared.report.NumberedReport.{NumberedReport}
use Rattle.report_line.specs.declared.report.Report.{Report}
use Rattle.report_line.specs.declared.report.Report.TheVariants.{Begin, Numbered}
use Rattle.chains.specs.Processes.{IsKnown, next_number, last_events, registered_id, expected_id, target_of, Waits}
use Rattle.chains.specs.Held.{Held}
use Rattle.chains.specs.Admission.{AreGrown}

-- What the tests of the action ask for, which stands beside the report for the cases: the name of a fork's child is new, and
-- the two ids are parts of the registered one; the retirement waits that an absorb is for, and its events are at or below
-- those of the absorb.
abbrev pub IsFitAction : List Report → NumberedReport → ReportKind → Type 0
IsFitAction accepted r (Fork f) = (¬ IsKnown accepted f.child) × IsSplit (registered_id r.process accepted) f.kept f.given
IsFitAction accepted r (Absorb retired) = Waits accepted retired r.process × IsAtOrBelow (last_events retired accepted) r.stamp.events
IsFitAction accepted r _ = ⊤

-- What the tests ask for of a report with a number; that it is not the last one once more is told by its number.
pub record IsFitReport (accepted : List Report) (r : NumberedReport) : Type 0 where
  pub begun : accepted ≢ []
  pub is_known : IsKnown accepted r.process
  pub living : target_of r.process accepted ≡ None
  pub number : r.number ≡ next_number r.process accepted
  pub id : r.stamp.id ≡ expected_id accepted r.process r.action
  pub grown : AreGrown (last_events r.process accepted) (registered_id r.process accepted) r.stamp.events
  pub fit : IsFitAction accepted r r.action

-- What they ask for of a report: BEGIN stands first, and nowhere else.
abbrev pub IsFit : List Report → Report → Type 0
IsFit accepted (Begin p) = accepted ≡ []
IsFit accepted (Numbered r) = IsFitReport accepted r

-- the lists in which each report is fit behind those before it
pub data IsFolded : List Report → Type 0 where
  nothing_folded : IsFolded []
  one_folded : (accepted : List Report) (r : Report) → IsFolded accepted → IsFit accepted r → IsFolded (accepted ++ r ∷ [])

-- What is held is a folded list with an epoch beside each report, none above the present one; and the front counts its reports and the
-- settlements, and may count more lines.
pub record IsReached (held : Held) : Type 0 where
  pub folded : IsFolded held.accepted
  pub marked : length held.epochs ≡ length held.accepted
  pub past : All (λ e. e ≤ held.epoch) held.epochs
  pub counted : length held.accepted + held.epoch ≤ held.front
