-- No test of admission applies to the report of a lawful step but those for room.
use Rattle.std.proofs.Common.{◌≡◌, ◌≢◌, ◌↔◌, ℕ, ◌+◌, ◌<◌, ◌≤◌, ◌||◌, Bool, Option, Some, None, refl, sym, ◌∙◌, ap, subst, inl, inr, arith}
use Rattle.std.proofs.lemmas.Option.{same_Some}
use Rattle.id_tree.specs.IdTree.{IdTree}
use Rattle.id_tree.specs.Points.{owns, AreTogether}
use Rattle.id_tree.specs.NormalForm.{IsNormal}
use Rattle.id_tree.specs.Split.{IsSplit}
use Rattle.id_tree.specs.Sum.{sum_of}
use Rattle.id_tree.proofs.Points.{equal_points}
use Rattle.id_tree.proofs.Sums as sums
use Rattle.event_tree.specs.EventTree.{EventTree}
use Rattle.event_tree.specs.Join.{IsJoin}
use Rattle.event_tree.specs.Values.{value_at, IsAtOrBelow}
use Rattle.report_line.specs.declared.report.ReportKind.{ReportKind}
use Rattle.report_line.specs.declared.report.ReportKind.TheVariants as report_kinds
use Rattle.report_line.specs.declared.report.NumberedReport.{NumberedReport}
use Rattle.report_line.specs.declared.report.Report.{Report}
use Rattle.report_line.specs.declared.report.Report.TheVariants.{Numbered}
use Rattle.report_line.specs.declared.reply.Reply.{Reply}
use Rattle.report_line.specs.declared.step.StepKind.{StepKind}
use Rattle.report_line.specs.declared.step.StepKind.TheVariants.{Work, Check, Present, Send, Receive, Fork, Retire, Absorb}
use Rattle.report_line.specs.declared.step.Step.{Step}
use Rattle.report_line.specs.histories.History.{Name, History, Event, Living, Retired, status, last_of}
use Rattle.report_line.specs.histories.Lawful.{IsSameId, IsAllowed}
use Rattle.report_line.specs.histories.StepReports.{reporting_steps, id_of, report_by}
use Rattle.chains.specs.Held.{Held}
use Rattle.chains.specs.Processes.{last_report, last_events, registered_id, expected_id, Waits}
use Rattle.chains.specs.Admission.{Decides, IsReportReply, FitsOrNot, AreGrown, IsActionReply, IsStampReply, IsWaitingReply, IsStandingReply}
use Rattle.law_histories.proofs.Steps.{never_falls_by, rises_by}
use Rattle.law_admission.specs.HandedOver.{HasBornTarget, HasLine}
use Rattle.law_admission.proofs.Actions.{fork_of, report_with}
use Rattle.law_admission.proofs.Changes.{living_not_unborn}
use Rattle.law_admission.proofs.Tied.{IsHeld, AreTied, then_below}

-- ---- from test to test

untested : {F L : Type 0} {reply answer : Reply} → ¬ F → Decides F reply answer L ↔ L
untested other = (elim [ inl w ↦ absurd (other w.0) | inr w ↦ w.1 ], λ later. inr (other, later))

chained : {A B C : Type 0} → A ↔ B → B ↔ C → A ↔ C
chained first next = (λ a. next.0 (first.0 a), λ c. first.1 (next.1 c))

same_reply : {A : Type 0} → A ↔ A
same_reply = (λ x. x, λ x. x)

waiting : (held : Held) (r : NumberedReport) (a : ReportKind) (answer : Reply) → ((q : Name) → a ≡ report_kinds.Absorb q → Waits held.accepted q r.process)
    → IsWaitingReply held r a answer ↔ IsStampReply held r a answer
waiting held r report_kinds.Check answer waits = same_reply
waiting held r report_kinds.Present answer waits = same_reply
waiting held r (report_kinds.Fork f) answer waits = same_reply
waiting held r (report_kinds.Retire q) answer waits = same_reply
waiting held r (report_kinds.Absorb q) answer waits = untested (λ not_waiting. not_waiting (waits q refl))

none_report : (y : Report) → None ≢ Some y
none_report y is = cc

right_below : (e f g : EventTree) → IsJoin e f g → IsAtOrBelow f g
right_below e f g join p = (let is = join p in omega arith)

module _ (root : Name) (h : History) (b : Event) (s : Step) (held : Held) (tied : AreTied held.accepted root h)
    (lives : status root h s.process ≡ Living b) (allowed : IsAllowed root h b s s.step_kind) (answer : Reply) where
  own : IsHeld held.accepted s.process b
  own = tied.held s.process b (ap last_of lives)

  -- an id with the points of the process's is the registered one
  is_registered : (i : IdTree) → IsNormal i → IsSameId i b.id → i ≡ registered_id s.process held.accepted
  is_registered i normal same = equal_points i (registered_id s.process held.accepted) normal own.normal (λ point. same point ∙ own.same point)

  grown : AreGrown (last_events s.process held.accepted) (registered_id s.process held.accepted) s.stamp.events
  grown =
      let up = rises_by root h b s s.step_kind allowed in
      let low : value_at (last_events s.process held.accepted) up.0 ≤ value_at b.values up.0 = own.below up.0 in
      let less : value_at b.values up.0 < value_at s.stamp.events up.0 = up.2 in
      (then_below (last_events s.process held.accepted) b.values s.stamp.events own.below (never_falls_by root h b s s.step_kind allowed), (up.0, sym (own.same up.0) ∙ up.1, omega arith))

  not_old : (id : IdTree) (a : ReportKind) → last_report s.process held.accepted ≢ Some (Numbered (report_with h s id a))
  not_old id a is = (let number : reporting_steps s.process h + 1 ≡ reporting_steps s.process h = tied.last s.process (report_with h s id a) is in omega arith)

  -- all tests up to those of the action
  up_to_action : (id : IdTree) (a : ReportKind) → id ≡ expected_id held.accepted s.process a → ((q : Name) → a ≡ report_kinds.Absorb q → Waits held.accepted q s.process)
      → IsReportReply held held.epoch (Numbered (report_with h s id a)) answer ↔ IsActionReply held (report_with h s id a) a answer
  up_to_action id a expected waits =
      let r = report_with h s id a in
      let standing : IsStandingReply None held r answer ↔ IsActionReply held r a answer =
      chained (untested (λ differs. differs (ap (λ (m : ℕ). m + 1) (sym (tied.count s.process)))))
      (chained (waiting held r a answer waits) (chained (untested (λ differs. differs expected)) (untested (λ fell. fell grown)))) in
      chained (untested tied.begun)
      (chained (untested (λ unknown. unknown (tied.known s.process (λ unborn. living_not_unborn b (sym lives ∙ unborn)))))
      (chained (untested (λ old. not_old id a old.0))
      (chained (untested (λ differs. differs refl))
      (subst (λ (o : Option Name). IsStandingReply o held r answer ↔ IsActionReply held r a answer) (sym (tied.living s.process b lives).0) standing))))

  no_absorption : (a : ReportKind) → ((q : Name) → a ≢ report_kinds.Absorb q) → (q : Name) → a ≡ report_kinds.Absorb q → Waits held.accepted q s.process
  no_absorption a never q is = absurd (never q is)

  absorbed_id : (q : Name) (e : Event) → status root h q ≡ Retired e s.process → IsNormal s.stamp.id → AreTogether b.id e.id s.stamp.id
      → s.stamp.id ≡ sum_of (registered_id s.process held.accepted) (registered_id q held.accepted)
  absorbed_id q e waits normal together =
      let other = tied.held q e (ap last_of waits) in
      equal_points s.stamp.id (sum_of (registered_id s.process held.accepted) (registered_id q held.accepted)) normal
      (sums.normal (registered_id s.process held.accepted) (registered_id q held.accepted) own.normal other.normal)
      (λ point.
      together point
      ∙ (ap (λ (c : Bool). c || owns e.id point) (own.same point)
      ∙ (ap (λ (c : Bool). owns (registered_id s.process held.accepted) point || c) (other.same point)
      ∙ sym (sums.together (registered_id s.process held.accepted) (registered_id q held.accepted) point))))

  split_of : (l r : IdTree) → IsSplit b.id l r → IsSplit (registered_id s.process held.accepted) l r
  split_of l r w = record { left = w.left; right = w.right; disjoint = w.disjoint; together = λ point. sym (own.same point) ∙ w.together point }

  -- the two replies are the same
  abbrev IsUntested : Report → Type 0
  IsUntested r = IsReportReply held held.epoch r answer ↔ FitsOrNot held r answer

  pub fits_by : (d : StepKind) → (r : Report) → report_by root h s d ≡ Some r → IsAllowed root h b s d → HasBornTarget root h d → HasLine r → IsUntested r
  fits_by Work r is w target = absurd (none_report r is)
  fits_by (Send m) r is w target = absurd (none_report r is)
  fits_by (Receive m) r is w target = absurd (none_report r is)
  fits_by Check r is w target = subst (λ (x : Report). HasLine x → IsUntested x) (same_Some _ r is)
      (λ line. up_to_action s.stamp.id report_kinds.Check (is_registered s.stamp.id line.1.stamped.id.normal w.same_id) (no_absorption report_kinds.Check (λ q e. cc)))
  fits_by Present r is w target = subst (λ (x : Report). HasLine x → IsUntested x) (same_Some _ r is)
      (λ line. up_to_action s.stamp.id report_kinds.Present (is_registered s.stamp.id line.1.stamped.id.normal w.same_id) (no_absorption report_kinds.Present (λ q e. cc)))
  fits_by (Retire q) r is w target = subst (λ (x : Report). HasLine x → IsUntested x) (same_Some _ r is)
      (λ line. chained (up_to_action s.stamp.id (report_kinds.Retire q) (is_registered s.stamp.id line.1.stamped.id.normal w.0.same_id) (no_absorption (report_kinds.Retire q) (λ x e. cc)))
      (untested (elim [ inl itself ↦ w.1 itself | inr unknown ↦ unknown (tied.known q target) ])))
  fits_by (Fork c i) r is w target = subst (λ (x : Report). HasLine x → IsUntested x) (same_Some _ r is)
      (λ line. chained (up_to_action (id_of (status root h s.process)) (fork_of s c i)
      (is_registered (id_of (status root h s.process)) line.1.stamped.id.normal (λ point. ap (λ (k : IdTree). owns k point) (ap id_of lives))) (no_absorption (fork_of s c i) (λ x e. cc)))
      (chained (untested (λ known. tied.born c known w.new_name))
      (untested (λ wrong. wrong (split_of s.stamp.id i (record { left = w.not_empty; right = w.child_not_empty; disjoint = w.disjoint; together = w.together }))))))
  fits_by (Absorb q) r is w target = subst (λ (x : Report). HasLine x → IsUntested x) (same_Some _ r is)
      (λ line.
      (let other = tied.held q w.retirement (ap last_of w.into_this) in
      chained (up_to_action s.stamp.id (report_kinds.Absorb q) (absorbed_id q w.retirement w.into_this line.1.stamped.id.normal w.together)
      (λ x absorbs. subst (λ (y : Name). Waits held.accepted y s.process) (same_retired q x absorbs) (tied.retired q w.retirement s.process w.into_this)))
      (untested (λ below. below (then_below (last_events q held.accepted) w.retirement.values s.stamp.events other.below (right_below w.between w.retirement.values s.stamp.events w.joined))))))
    where
      same_retired : (r q : Name) → report_kinds.Absorb r ≡ report_kinds.Absorb q → r ≡ q
      same_retired r q absorbs = cc
