-- What a lawful history hands over is folded: each report is fit behind those before it.
use Rattle.std.proofs.Common.{◌≡◌, ◌≢◌, ◌+◌, ◌<◌, ◌≤◌, ◌||◌, ℕ, Bool, List, [], ◌∷◌, ◌++◌, Option, Some, None, refl, sym, ◌∙◌, ap, subst, append-nil, inl, inr, arith}
use Rattle.std.specs.List.{cons_option}
use Rattle.std.proofs.lemmas.Option.{same_Some}
use Rattle.id_tree.specs.IdTree.{IdTree}
use Rattle.id_tree.specs.Points.{owns, AreTogether}
use Rattle.id_tree.specs.NormalForm.{IsNormal}
use Rattle.id_tree.specs.Split.{IsSplit}
use Rattle.id_tree.specs.Sum.{sum_of}
use Rattle.id_tree.proofs.Points.{equal_points}
use Rattle.id_tree.proofs.Sums as sums
use Rattle.event_tree.specs.EventTree.{EventTree}
use Rattle.event_tree.specs.Join.{IsJoin}
use Rattle.event_tree.specs.Values.{value_at, IsAtOrBelow}
use Rattle.report_line.specs.declared.report.ReportKind.{ReportKind}
use Rattle.report_line.specs.declared.report.ReportKind.TheVariants as report_kinds
use Rattle.report_line.specs.declared.report.NumberedReport.{NumberedReport}
use Rattle.report_line.specs.declared.report.Report.{Report}
use Rattle.report_line.specs.declared.report.Report.TheVariants.{Begin, Numbered}
use Rattle.report_line.specs.declared.step.StepKind.{StepKind}
use Rattle.report_line.specs.declared.step.StepKind.TheVariants.{Work, Check, Present, Send, Receive, Fork, Retire, Absorb}
use Rattle.report_line.specs.declared.step.Step.{Step}
use Rattle.report_line.specs.histories.History.{Name, History, Event, Unborn, Living, Retired, status, last_of}
use Rattle.report_line.specs.histories.Lawful.{IsSameId, IsAllowed, IsLawful}
use Rattle.report_line.specs.histories.StepReports.{id_of, report_by, report_of, reports}
use Rattle.chains.specs.Processes.{last_events, registered_id, expected_id}
use Rattle.chains.specs.Admission.{AreGrown}
use Rattle.chains.specs.Folded.{IsFitAction, IsFitReport, IsFit, IsFolded, nothing_folded, one_folded}
use Rattle.chains.specs.Agrees.{BeginsWith, AreReportsOfSteps}
use Rattle.law_histories.proofs.Steps.{never_falls_by, rises_by}
use Rattle.law_lines.specs.Places.{IsPremise}
use Rattle.law_lines.proofs.Agreeing.{step_of, begin_no_report}
use Rattle.law_lines.proofs.Agreement.{reports_of_steps_agree}
use Rattle.law_lines.proofs.Listed.{in_cases}
use Rattle.law_admission.specs.HandedOver.{handed_over, HasLine, IsReportable}
use Rattle.law_admission.proofs.Actions.{fork_of, report_with}
use Rattle.law_admission.proofs.Tied.{IsHeld, AreTied, then_below}
use Rattle.law_admission.proofs.Next.{ends, tied_all}

none_report : (y : Report) → None ≢ Some y
none_report y is = cc

living_not_unborn : (e : Event) → Living e ≢ Unborn
living_not_unborn e is = cc

right_below : (e f g : EventTree) → IsJoin e f g → IsAtOrBelow f g
right_below e f g join p = (let is = join p in omega arith)

-- ---- the report of a step is fit behind those of the steps before it

module _ (accepted : List Report) (root : Name) (h : History) (b : Event) (s : Step) (tied : AreTied accepted root h)
    (lives : status root h s.process ≡ Living b) (allowed : IsAllowed root h b s s.step_kind) where
  own : IsHeld accepted s.process b
  own = tied.held s.process b (ap last_of lives)

  -- an id with the points of the process's is the registered one
  is_registered : (i : IdTree) → IsNormal i → IsSameId i b.id → i ≡ registered_id s.process accepted
  is_registered i normal same = equal_points i (registered_id s.process accepted) normal own.normal (λ point. same point ∙ own.same point)

  grown : AreGrown (last_events s.process accepted) (registered_id s.process accepted) s.stamp.events
  grown =
      let up = rises_by root h b s s.step_kind allowed in
      let low : value_at (last_events s.process accepted) up.0 ≤ value_at b.values up.0 = own.below up.0 in
      let less : value_at b.values up.0 < value_at s.stamp.events up.0 = up.2 in
      (then_below (last_events s.process accepted) b.values s.stamp.events own.below (never_falls_by root h b s s.step_kind allowed), (up.0, sym (own.same up.0) ∙ up.1, omega arith))

  absorbed_id : (q : Name) (e : Event) → status root h q ≡ Retired e s.process → IsNormal s.stamp.id → AreTogether b.id e.id s.stamp.id
      → s.stamp.id ≡ sum_of (registered_id s.process accepted) (registered_id q accepted)
  absorbed_id q e waits normal together =
      let other = tied.held q e (ap last_of waits) in
      equal_points s.stamp.id (sum_of (registered_id s.process accepted) (registered_id q accepted)) normal
      (sums.normal (registered_id s.process accepted) (registered_id q accepted) own.normal other.normal)
      (λ point.
      together point
      ∙ (ap (λ (c : Bool). c || owns e.id point) (own.same point)
      ∙ (ap (λ (c : Bool). owns (registered_id s.process accepted) point || c) (other.same point)
      ∙ sym (sums.together (registered_id s.process accepted) (registered_id q accepted) point))))

  split_of : (l r : IdTree) → IsSplit b.id l r → IsSplit (registered_id s.process accepted) l r
  split_of l r w = record { left = w.left; right = w.right; disjoint = w.disjoint; together = λ point. sym (own.same point) ∙ w.together point }

  fit_with : (id : IdTree) (a : ReportKind) → id ≡ expected_id accepted s.process a → IsFitAction accepted (report_with h s id a) a → IsFitReport accepted (report_with h s id a)
  fit_with id a expected fit = record {
    begun = tied.begun;
    is_known = tied.known s.process (λ unborn. living_not_unborn b (sym lives ∙ unborn));
    living = (tied.living s.process b lives).0;
    number = ap (λ (m : ℕ). m + 1) (sym (tied.count s.process));
    id = expected;
    grown = grown;
    fit = fit;
  }

  pub fit_by : (d : StepKind) → (r : Report) → report_by root h s d ≡ Some r → IsAllowed root h b s d → HasLine r → IsFit accepted r
  fit_by Work r is w = absurd (none_report r is)
  fit_by (Send m) r is w = absurd (none_report r is)
  fit_by (Receive m) r is w = absurd (none_report r is)
  fit_by Check r is w = subst (λ (x : Report). HasLine x → IsFit accepted x) (same_Some _ r is)
      (λ line. fit_with s.stamp.id report_kinds.Check (is_registered s.stamp.id line.1.stamped.id.normal w.same_id) tt)
  fit_by Present r is w = subst (λ (x : Report). HasLine x → IsFit accepted x) (same_Some _ r is)
      (λ line. fit_with s.stamp.id report_kinds.Present (is_registered s.stamp.id line.1.stamped.id.normal w.same_id) tt)
  fit_by (Retire q) r is w = subst (λ (x : Report). HasLine x → IsFit accepted x) (same_Some _ r is)
      (λ line. fit_with s.stamp.id (report_kinds.Retire q) (is_registered s.stamp.id line.1.stamped.id.normal w.0.same_id) tt)
  fit_by (Fork c i) r is w = subst (λ (x : Report). HasLine x → IsFit accepted x) (same_Some _ r is)
      (λ line. fit_with (id_of (status root h s.process)) (fork_of s c i)
      (is_registered (id_of (status root h s.process)) line.1.stamped.id.normal (λ point. ap (λ (k : IdTree). owns k point) (ap id_of lives))) (
        λ known. tied.born c known w.new_name,
        split_of s.stamp.id i (record { left = w.not_empty; right = w.child_not_empty; disjoint = w.disjoint; together = w.together }),
      ))
  fit_by (Absorb q) r is w = subst (λ (x : Report). HasLine x → IsFit accepted x) (same_Some _ r is)
      (λ line.
      (let other = tied.held q w.retirement (ap last_of w.into_this) in
      fit_with s.stamp.id (report_kinds.Absorb q) (absorbed_id q w.retirement w.into_this line.1.stamped.id.normal w.together) (
        tied.retired q w.retirement s.process w.into_this,
        then_below (last_events q accepted) w.retirement.values s.stamp.events other.below (right_below w.between w.retirement.values s.stamp.events w.joined),
      )))

-- ---- all of them

folds_with : (xs : List Report) (o : Option Report) → IsFolded xs → ((r : Report) → o ≡ Some r → IsFit xs r) → IsFolded (xs ++ cons_option o [])
folds_with xs None folded fit = subst IsFolded (sym (append-nil xs)) folded
folds_with xs (Some r) folded fit = one_folded xs r folded (fit r refl)

pub folds : (root : Name) (h : History) → IsReportable root h → IsFolded (handed_over root h)
folds root [] w = one_folded [] (Begin root) nothing_folded refl
folds root (s ∷ h) w =
    let e = ends root h s w in
    folds_with (handed_over root h) (report_of root h s) (folds root h e.before)
    (λ r is. fit_by (handed_over root h) root h e.last s (tied_all root h e.before) e.lives e.allowed s.step_kind r is e.allowed (e.line r is))

-- ---- and it agrees with the history

same_begin : (p q : Name) → Begin p ≡ Begin q → p ≡ q
same_begin p q is = cc

begins_with : (root : Name) (h : History) → BeginsWith root (handed_over root h)
begins_with root h p at =
    elim (in_cases (Begin root) (Begin p) (reports root h) at) [
      | inl is ↦ sym (same_begin root p is)
      | inr there ↦ (let of = step_of root h (Begin p) there in absurd (begin_no_report root h p of.0 of.1))
    ]

begin_numbered : (root : Name) (r : NumberedReport) → Begin root ≢ Numbered r
begin_numbered root r is = cc

of_steps : (root : Name) (h : History) → AreReportsOfSteps root h (handed_over root h)
of_steps root h r at =
    elim (in_cases (Begin root) (Numbered r) (reports root h) at) [
      | inl is ↦ absurd (begin_numbered root r is)
      | inr there ↦ step_of root h (Numbered r) there
    ]

pub premise_if_folded : (root : Name) (h : History) → IsLawful root h → IsFolded (handed_over root h) → IsPremise root h (handed_over root h)
premise_if_folded root h lawful folded =
    record { folded = folded; lawful = lawful; agrees = reports_of_steps_agree root h (handed_over root h) folded (begins_with root h) (of_steps root h) }

pub premise_of : (root : Name) (h : History) → IsReportable root h → IsPremise root h (handed_over root h)
premise_of root h w = premise_if_folded root h w.lawful (folds root h w)
