-- The tie after a step that is reported.
use Rattle.std.proofs.Common.{◌≡◌, ◌≢◌, ℕ, suc, ◌+◌, Bool, true, false, cond, List, [], ◌∷◌, ◌++◌, Option, Some, None, refl, sym, ◌∙◌, ap, subst, inl, inr, arith}
use Rattle.std.specs.Prelude.{◌&&◌}
use Rattle.std.specs.Str.{bytes_eq}
use Rattle.std.proofs.lemmas.Bool.{false_from_ne_true, cond-true, and_from, or_from}
use Rattle.id_tree.specs.IdTree.{IdTree}
use Rattle.id_tree.specs.Points.{owns}
use Rattle.id_tree.specs.NormalForm.{IsNormal}
use Rattle.event_tree.specs.EventTree.{EventTree}
use Rattle.event_tree.specs.Values.{value_at, IsAtOrBelow}
use Rattle.report_line.specs.Spelling.{AreFields}
use Rattle.report_line.specs.declared.report.ReportKind.{ReportKind}
use Rattle.report_line.specs.declared.report.NumberedReport.{NumberedReport}
use Rattle.report_line.specs.declared.report.Report.{Report}
use Rattle.report_line.specs.declared.report.Report.TheVariants.{Numbered}
use Rattle.report_line.specs.declared.step.StepKind.TheVariants.{Fork, Absorb}
use Rattle.report_line.specs.declared.step.Step.{Step}
use Rattle.report_line.specs.histories.History.{Name, History, Event, Unborn, Living, Retired, status, last_of, event_of, birth_by}
use Rattle.report_line.specs.histories.Lawful.{IsAllowed}
use Rattle.report_line.specs.histories.StepReports.{is_reported, reporting_steps}
use Rattle.chains.specs.Processes.{child_of, target_after, IsKnown, is_birth_of, last_report, birth_report, reports_of, registered_id, last_events, events_after, first_of, target_in, target_of, absorbs, is_absorbed, Waits}
use Rattle.chains.proofs.Stepping.{known_cases, known_new, still_known, same_bytes, other_bytes, passing, failing, doing, own_report, other_report, other_target, own_id, other_id, child_id, absorbed-push}
use Rattle.chains.proofs.Accepting.{reports-push, no_birth}
use Rattle.law_histories.proofs.Bytes.{cases_name, bytes_same}
use Rattle.law_histories.proofs.Status.{Holds}
use Rattle.law_histories.proofs.Steps as steps
use Rattle.law_histories.proofs.Reported.{others_step}
use Rattle.law_admission.proofs.Changes.{Change, acted, born, taken, kept, change, living_not_unborn, living_not_retired, retired_not_unborn, absorbed_not_unborn, absorbed_not_living, absorbed_not_retired, absorbed_holds_nothing, living_holds, actor_born, actor_holds, actor_retires, actor_lives}
use Rattle.law_admission.proofs.Actions.{fork_of, reported, reported_id, report_with, reported_is, fork_fact, retire_fact, child_fact, absorb_fact, no_target, kept_is, kept_normal}
use Rattle.law_admission.proofs.Tied.{IsHeld, AreTied}

same_number : (q r : NumberedReport) → Some (Numbered q) ≡ Some (Numbered r) → r.number ≡ q.number
same_number q r is = cc

pub filled : (xs : List Report) (y : Report) (ys : List Report) → xs ++ y ∷ ys ≢ []
filled [] y ys is = cc
filled (x ∷ xs) y ys is = cc

-- who absorbs, what an absorption asks
absorbs_retired : (root : Name) (h : History) (b : Event) (s : Step) (q : Name) → IsAllowed root h b s s.step_kind → s.step_kind ≡ Absorb q
    → (e : Event) × (status root h q ≡ Retired e s.process)
absorbs_retired root h b s q allowed is = (let w = subst (IsAllowed root h b s) is allowed in (w.retirement, w.into_this))

-- last events after one more report
own_events : (accepted : List Report) (r : NumberedReport) → last_events r.process (accepted ++ Numbered r ∷ []) ≡ r.stamp.events
own_events accepted r = ap (λ (o : Option Report). events_after (first_of o (birth_report r.process (accepted ++ Numbered r ∷ [])))) (own_report accepted r)

other_events : (accepted : List Report) (q : Name) (r : NumberedReport) → q ≢ r.process → is_birth_of q (Numbered r) ≡ false
    → last_events q (accepted ++ Numbered r ∷ []) ≡ last_events q accepted
other_events accepted q r other unborn =
    ap (λ (o : Option Report). events_after (first_of o (birth_report q (accepted ++ Numbered r ∷ [])))) (other_report accepted q r other)
    ∙ ap (λ (o : Option Report). events_after (first_of (last_report q accepted) o)) (failing (is_birth_of q) accepted (Numbered r) unborn)

child_events : (accepted : List Report) (q : Name) (r : NumberedReport) → q ≢ r.process → last_report q accepted ≡ None → is_birth_of q (Numbered r) ≡ true
    → last_events q (accepted ++ Numbered r ∷ []) ≡ r.stamp.events
child_events accepted q r other unreported is_born =
    ap (λ (o : Option Report). events_after (first_of o (birth_report q (accepted ++ Numbered r ∷ [])))) (other_report accepted q r other ∙ unreported)
    ∙ ap (λ (o : Option Report). events_after (first_of None o)) (passing (is_birth_of q) accepted (Numbered r) is_born)

module _ (accepted : List Report) (root : Name) (h : History) (b : Event) (s : Step) (tied : AreTied accepted root h)
    (lives : status root h s.process ≡ Living b) (allowed : IsAllowed root h b s s.step_kind) (a : ReportKind) (makes : reported s s.step_kind ≡ Some a)
    (line : AreFields (report_with h s (reported_id root h s s.step_kind) a)) where
  abbrev r : NumberedReport
  r = report_with h s (reported_id root h s s.step_kind) a

  abbrev after : List Report
  after = accepted ++ Numbered r ∷ []

  lived : (q : Name) → q ≡ s.process → status root h q ≡ Living b
  lived q is = ap (status root h) is ∙ lives

  own : (q : Name) → q ≡ s.process → last_report q after ≡ Some (Numbered r)
  own q is = subst (λ (x : Name). last_report x after ≡ Some (Numbered r)) (sym is) (own_report accepted r)

  -- who lives is not absorbed by the step
  not_absorbed : (q : Name) (e : Event) → status root h q ≡ Living e → absorbs q a ≡ false
  not_absorbed q e living = false_from_ne_true (absorbs q a) (λ hit.
      (let w = absorbs_retired root h b s q allowed (absorb_fact s s.step_kind a q makes hit) in
      living_not_retired e w.0 s.process (sym living ∙ w.1)))

  not_by_others : (q : Name) → s.step_kind ≢ Absorb q → absorbs q a ≡ false
  not_by_others q never = false_from_ne_true (absorbs q a) (λ hit. never (absorb_fact s s.step_kind a q makes hit))

  still_unabsorbed : (q : Name) → is_absorbed q accepted ≡ false → absorbs q a ≡ false → is_absorbed q after ≡ false
  still_unabsorbed q is never = absorbed-push q accepted (Numbered r) ∙ or_from (is_absorbed q accepted) (absorbs q a) is never

  not_born : (q : Name) → ((i : IdTree) → s.step_kind ≢ Fork q i) → is_birth_of q (Numbered r) ≡ false
  not_born q never = no_birth q r a (λ child is same.
      (let w = child_fact s s.step_kind a child makes is in never w.0 (w.1 ∙ ap (λ (x : Name). Fork x w.0) (sym same))))

  counted_next : (q : Name) → q ≡ s.process → reporting_steps q (s ∷ h) ≡ reporting_steps q h + 1
  counted_next q is =
      (let up : reporting_steps q (s ∷ h) ≡ suc (reporting_steps q h) =
      cond-true (bytes_eq q s.process && is_reported s.step_kind) _ _ (and_from _ _ (bytes_same q s.process is) (reported_is s s.step_kind a makes)) in
      omega arith)

  -- ---- each part of the tie

  born_next : (q : Name) → Change root h s q → IsKnown after q → status root (s ∷ h) q ≢ Unborn
  born_next q (acted is now) known unborn = actor_born s.step_kind (event_of h s) (sym now ∙ unborn)
  born_next q (born i apart forks now) known unborn = living_not_unborn (birth_by h s q i) (sym now ∙ unborn)
  born_next q (taken apart absorbs now) known unborn = absorbed_not_unborn (sym now ∙ unborn)
  born_next q (kept apart no_fork no_absorption now) known unborn =
      elim (known_cases accepted (Numbered r) q known) [
        | inl before ↦ tied.born q before (sym now ∙ unborn)
        | inr is ↦ (let w = child_fact s s.step_kind a q makes is in no_fork w.0 w.1)
      ]

  known_next : (q : Name) → Change root h s q → status root (s ∷ h) q ≢ Unborn → IsKnown after q
  known_next q (acted is now) is_born = still_known accepted (Numbered r) q (tied.known q (λ unborn. living_not_unborn b (sym (lived q is) ∙ unborn)))
  known_next q (born i apart forks now) is_born = known_new accepted (Numbered r) q (ap child_of (fork_fact s s.step_kind a q i makes forks))
  known_next q (taken apart absorbs now) is_born =
      (let w = absorbs_retired root h b s q allowed absorbs in
      still_known accepted (Numbered r) q (tied.known q (λ unborn. retired_not_unborn w.0 s.process (sym w.1 ∙ unborn))))
  known_next q (kept apart no_fork no_absorption now) is_born = still_known accepted (Numbered r) q (tied.known q (λ unborn. is_born (now ∙ unborn)))

  count_next : (q : Name) → reports_of q after ≡ reporting_steps q (s ∷ h)
  count_next q = elim (cases_name q s.process) [
    | inl is ↦
        reports-push q accepted (Numbered r)
        ∙ (ap (λ (c : Bool). reports_of q accepted + cond c 1 0) (bytes_same q s.process is) ∙ (ap (λ (m : ℕ). m + 1) (tied.count q) ∙ sym (counted_next q is)))
    | inr differs ↦
        (let none : reports_of q accepted + 0 ≡ reports_of q accepted = omega arith in
        reports-push q accepted (Numbered r)
        ∙ (ap (λ (c : Bool). reports_of q accepted + cond c 1 0) (other_bytes q s.process differs) ∙ (none ∙ (tied.count q ∙ sym (others_step q s h differs)))))
  ]

  last_next : (q : Name) (t : NumberedReport) → last_report q after ≡ Some (Numbered t) → t.number ≡ reporting_steps q (s ∷ h)
  last_next q t is = elim (cases_name q s.process) [
    | inl same ↦ same_number r t (sym (own q same) ∙ is) ∙ (ap (λ (x : Name). reporting_steps x h + 1) (sym same) ∙ sym (counted_next q same))
    | inr differs ↦ tied.last q t (sym (other_report accepted q r differs) ∙ is) ∙ sym (others_step q s h differs)
  ]

  unborn_next : (q : Name) → Change root h s q → status root (s ∷ h) q ≡ Unborn → (last_report q after ≡ None) × (is_absorbed q after ≡ false)
  unborn_next q (acted is now) unborn = absurd (actor_born s.step_kind (event_of h s) (sym now ∙ unborn))
  unborn_next q (born i apart forks now) unborn = absurd (living_not_unborn (birth_by h s q i) (sym now ∙ unborn))
  unborn_next q (taken apart absorbs now) unborn = absurd (absorbed_not_unborn (sym now ∙ unborn))
  unborn_next q (kept apart no_fork no_absorption now) unborn =
      (let before = tied.unborn q (sym now ∙ unborn) in
      (other_report accepted q r apart ∙ before.0, still_unabsorbed q before.1 (not_by_others q no_absorption)))

  fork_not_absorb : (q : Name) (i : IdTree) → Fork q i ≢ Absorb q
  fork_not_absorb q i is = cc

  living_next : (q : Name) (e : Event) → Change root h s q → status root (s ∷ h) q ≡ Living e → (target_of q after ≡ None) × (is_absorbed q after ≡ false)
  living_next q e (acted is now) living = (
    ap target_after (own q is) ∙ no_target s s.step_kind a makes (λ u. actor_lives s.step_kind (event_of h s) e u (sym now ∙ living)),
    still_unabsorbed q (tied.living q b (lived q is)).1 (not_absorbed q b (lived q is)),
  )
  living_next q e (born i apart forks now) living =
      (let before = tied.unborn q (steps.fork_of root h b s q i allowed forks).new_name in (
        other_target accepted q r apart ∙ ap target_after before.0,
        still_unabsorbed q before.1 (not_by_others q (λ absorbs. fork_not_absorb q i (sym forks ∙ absorbs))),
      ))
  living_next q e (taken apart absorbs now) living = absurd (absorbed_not_living e (sym now ∙ living))
  living_next q e (kept apart no_fork no_absorption now) living =
      (let before = tied.living q e (sym now ∙ living) in
      (other_target accepted q r apart ∙ before.0, still_unabsorbed q before.1 (not_by_others q no_absorption)))

  retired_next : (q : Name) (e : Event) (u : Name) → Change root h s q → status root (s ∷ h) q ≡ Retired e u → Waits after q u
  retired_next q e u (acted is now) retired = (
    ap target_after (own q is) ∙ ap target_in (retire_fact s s.step_kind a u makes (actor_retires s.step_kind (event_of h s) e u (sym now ∙ retired))),
    still_unabsorbed q (tied.living q b (lived q is)).1 (not_absorbed q b (lived q is)),
  )
  retired_next q e u (born i apart forks now) retired = absurd (living_not_retired (birth_by h s q i) e u (sym now ∙ retired))
  retired_next q e u (taken apart absorbs now) retired = absurd (absorbed_not_retired e u (sym now ∙ retired))
  retired_next q e u (kept apart no_fork no_absorption now) retired =
      (let before = tied.retired q e u (sym now ∙ retired) in
      (other_target accepted q r apart ∙ before.0, still_unabsorbed q before.1 (not_by_others q no_absorption)))

  -- the events of a list that are those of the step
  as_step : (e : EventTree) → e ≡ s.stamp.events → IsAtOrBelow e s.stamp.events
  as_step e is point = (let same : value_at e point ≡ value_at s.stamp.events point = ap (λ (f : EventTree). value_at f point) is in omega arith)

  own_held : IsHeld after s.process (event_of h s)
  own_held = record {
    normal = subst (λ (i : IdTree). IsNormal i) (sym (own_id accepted r)) (kept_normal r a refl line);
    same = λ point. ap (λ (i : IdTree). owns i point) (sym (own_id accepted r ∙ kept_is root h s s.step_kind a r.stamp makes refl));
    below = as_step (last_events s.process after) (own_events accepted r);
  }

  child_held : (q : Name) (i : IdTree) → q ≢ s.process → s.step_kind ≡ Fork q i → IsHeld after q (birth_by h s q i)
  child_held q i apart forks =
      (let is = fork_fact s s.step_kind a q i makes forks in
      let unreported = (tied.unborn q (steps.fork_of root h b s q i allowed forks).new_name).0 in
      let fields = subst (λ (x : ReportKind). AreFields (doing r x)) is line in
      let id : registered_id q (accepted ++ Numbered (doing r (fork_of s q i)) ∷ []) ≡ i = child_id accepted r (record { kept = s.stamp.id; child = q; given = i }) apart unreported in
      let events : last_events q (accepted ++ Numbered (doing r (fork_of s q i)) ∷ []) ≡ s.stamp.events =
      child_events accepted q (doing r (fork_of s q i)) apart unreported (same_bytes q) in
      subst (λ (x : ReportKind). IsHeld (accepted ++ Numbered (doing r x) ∷ []) q (birth_by h s q i)) (sym is) (record {
        normal = subst (λ (k : IdTree). IsNormal k) (sym id) fields.acted.2.normal;
        same = λ point. ap (λ (k : IdTree). owns k point) (sym id);
        below = as_step _ events;
      }))

  held_next : (q : Name) (e : Event) → Change root h s q → Holds root (s ∷ h) q e → IsHeld after q e
  held_next q e (acted is now) holds =
      subst (λ (d : Event). IsHeld after q d) (sym (actor_holds s.step_kind (event_of h s) e (ap last_of (sym now) ∙ holds)))
      (subst (λ (x : Name). IsHeld after x (event_of h s)) (sym is) own_held)
  held_next q e (born i apart forks now) holds =
      subst (λ (d : Event). IsHeld after q d) (sym (living_holds (birth_by h s q i) e (ap last_of (sym now) ∙ holds))) (child_held q i apart forks)
  held_next q e (taken apart absorbs now) holds = absurd (absorbed_holds_nothing e (ap last_of (sym now) ∙ holds))
  held_next q e (kept apart no_fork no_absorption now) holds =
      (let before = tied.held q e (ap last_of (sym now) ∙ holds) in
      let id = other_id accepted q r apart (not_born q no_fork) in
      let events = other_events accepted q r apart (not_born q no_fork) in
      record {
        normal = subst (λ (i : IdTree). IsNormal i) (sym id) before.normal;
        same = λ point. before.same point ∙ ap (λ (i : IdTree). owns i point) (sym id);
        below = subst (λ (f : EventTree). IsAtOrBelow f e.values) (sym events) before.below;
      })

  pub reported_tied : AreTied (accepted ++ Numbered (report_with h s (reported_id root h s s.step_kind) a) ∷ []) root (s ∷ h)
  reported_tied = record {
    begun = filled accepted (Numbered r) [];
    born = λ q. born_next q (change root h s q);
    known = λ q. known_next q (change root h s q);
    count = count_next;
    last = last_next;
    unborn = λ q. unborn_next q (change root h s q);
    living = λ q e. living_next q e (change root h s q);
    retired = λ q e u. retired_next q e u (change root h s q);
    held = λ q e. held_next q e (change root h s q);
  }
