-- The report of a step has a line.
use Rattle.std.proofs.Common.{◌≡◌, ◌≢◌, ℕ, ◌+◌, ◌<◌, true, Some, None, refl, sym, ◌∙◌, ap, subst, arith}
use Rattle.std.specs.Prelude.{◌^◌, IsTrue}
use Rattle.std.proofs.lemmas.Option.{same_Some}
use Rattle.id_tree.specs.IdTree.{IdTree}
use Rattle.id_tree.specs.NormalForm.{IsId}
use Rattle.stamp.specs.declared.stamp.Stamp.{Stamp}
use Rattle.stamp.specs.Stamps.{IsStamp}
use Rattle.report_line.specs.declared.report.Report.{Report}
use Rattle.report_line.specs.declared.report.NumberedReport.{NumberedReport}
use Rattle.report_line.specs.declared.report.ReportKind.{ReportKind}
use Rattle.report_line.specs.declared.report.ReportKind.TheVariants as report_kinds
use Rattle.report_line.specs.declared.step.StepKind.{StepKind}
use Rattle.report_line.specs.declared.step.StepKind.TheVariants.{Work, Check, Present, Send, Receive, Fork, Retire, Absorb}
use Rattle.report_line.specs.declared.step.Step.{Step as Taken}
use Rattle.report_line.specs.histories.History.{Name, History, Event, Living, status}
use Rattle.report_line.specs.Names.{is_name}
use Rattle.report_line.specs.Spelling.{IsAction, AreFields}
use Rattle.report_line.specs.histories.StepReports.{is_reported, reporting_steps, id_of, step_report, report_by}
use Rattle.law_admission.specs.HandedOver.{HasLine}
use Rattle.driver.specs.declared.step.StepRequest.{StepRequest}
use Rattle.driver.specs.working.Made.{Made}
use Rattle.driver.specs.Stamping.{stamp_of}
use Rattle.driver.specs.working.Making.{Makes, IsReady, HasLineOf, HasParts, HasWholeParts, HasLineIfCounted}

none_report : (y : Report) → None ≢ Some y
none_report y is = cc

-- ---- a report that was made

pub fields_if_counted : (r : NumberedReport) → IsTrue (is_name r.process) → r.number < 2 ^ 32 → IsStamp r.stamp → IsAction r.action → r.number ≢ 0 → AreFields r
fields_if_counted r name few stamped acted some = record { name = name; count = (omega arith, few); stamped = stamped; acted = acted }

counted_from_one : (h : History) (s : Taken) (i : IdTree) (a : ReportKind) → HasLineIfCounted (step_report h s i a) → HasLine (step_report h s i a)
counted_from_one h s i a line = (omega arith, line (λ none. omega arith))

counted_line : (root : Name) (h : History) (s : Taken) (d : StepKind) (r : Report) → report_by root h s d ≡ Some r → HasLineIfCounted r → HasLine r
counted_line root h s Work r is = absurd (none_report r is)
counted_line root h s (Send m) r is = absurd (none_report r is)
counted_line root h s (Receive m) r is = absurd (none_report r is)
counted_line root h s Check r is = subst (λ (x : Report). HasLineIfCounted x → HasLine x) (same_Some _ r is) (counted_from_one h s s.stamp.id report_kinds.Check)
counted_line root h s Present r is = subst (λ (x : Report). HasLineIfCounted x → HasLine x) (same_Some _ r is) (counted_from_one h s s.stamp.id report_kinds.Present)
counted_line root h s (Fork c i) r is =
    subst (λ (x : Report). HasLineIfCounted x → HasLine x) (same_Some _ r is)
    (counted_from_one h s (id_of (status root h s.process)) (report_kinds.Fork (record { kept = s.stamp.id; child = c; given = i })))
counted_line root h s (Retire q) r is = subst (λ (x : Report). HasLineIfCounted x → HasLine x) (same_Some _ r is) (counted_from_one h s s.stamp.id (report_kinds.Retire q))
counted_line root h s (Absorb q) r is = subst (λ (x : Report). HasLineIfCounted x → HasLine x) (same_Some _ r is) (counted_from_one h s s.stamp.id (report_kinds.Absorb q))

pub ready_made : (root : Name) (h : History) (p : Name) (request : StepRequest) (made : Made) → Makes root h p request made → ((r : Report) → made.report ≡ Some r → HasLineIfCounted r)
    → IsReady root h made
ready_made root h p request made makes lines = record {
  before = makes.before;
  living = ap (status root h) makes.process ∙ makes.living;
  allowed = makes.allowed;
  changes = record { reports = makes.changes.reports; other = makes.changes.other };
  line = λ r is. counted_line root h made.step made.step.step_kind r is (lines r (makes.changes.report ∙ is));
}

-- ---- the report of a step that is kept

module _ (root : Name) (h : History) (s : Taken) (b : Event) (before : Stamp) (n : ℕ) (lives : status root h s.process ≡ Living b) (is_before : before ≡ stamp_of b)
    (count : n ≡ reporting_steps s.process h) (parts : HasWholeParts s before) where
  line_with : (i : IdTree) (a : ReportKind) → IsId i → IsAction a → n + 1 < 2 ^ 32 → HasLine (step_report h s i a)
  line_with i a id action few = (
    omega arith,
    record {
      name = parts.name;
      count = (omega arith, subst (λ (m : ℕ). m + 1 < 2 ^ 32) count few);
      stamped = record { id = id; events = parts.stamp.events };
      acted = action;
    },
  )

  id_before : IsId (id_of (status root h s.process))
  id_before = subst IsId (ap (λ (x : Stamp). x.id) is_before ∙ ap id_of (sym lives)) parts.before.id

  line_by : (d : StepKind) (r : Report) → HasParts d → (is_reported d ≡ true → n + 1 < 2 ^ 32) → report_by root h s d ≡ Some r → HasLine r
  line_by Work r has few is = absurd (none_report r is)
  line_by (Send m) r has few is = absurd (none_report r is)
  line_by (Receive m) r has few is = absurd (none_report r is)
  line_by Check r has few is = subst HasLine (same_Some _ r is) (line_with s.stamp.id report_kinds.Check parts.stamp.id tt (few refl))
  line_by Present r has few is = subst HasLine (same_Some _ r is) (line_with s.stamp.id report_kinds.Present parts.stamp.id tt (few refl))
  line_by (Fork c i) r has few is =
      subst HasLine (same_Some _ r is)
      (line_with (id_of (status root h s.process)) (report_kinds.Fork (record { kept = s.stamp.id; child = c; given = i })) id_before (parts.stamp.id, has.0, has.1) (few refl))
  line_by (Retire q) r has few is = subst HasLine (same_Some _ r is) (line_with s.stamp.id (report_kinds.Retire q) parts.stamp.id has (few refl))
  line_by (Absorb q) r has few is = subst HasLine (same_Some _ r is) (line_with s.stamp.id (report_kinds.Absorb q) parts.stamp.id has (few refl))

  pub step_line : (is_reported s.step_kind ≡ true → n + 1 < 2 ^ 32) → HasLineOf root h s
  step_line few r is = line_by s.step_kind r parts.step_kind few is
