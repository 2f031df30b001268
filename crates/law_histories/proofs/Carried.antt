-- Events, reports of steps and positions in what a closed cut keeps.
use Rattle.std.proofs.Common.{◌≡◌, ◌≢◌, ℕ, suc, ◌+◌, ◌≤◌, true, cond, Option, Some, [], ◌∷◌, length, refl, sym, ◌∙◌, ap, subst, inl, inr, arith}
use Rattle.std.specs.Prelude.{◌&&◌}
use Rattle.std.specs.Str.{bytes_eq}
use Rattle.std.proofs.lemmas.Bool.{true≢false, cond-true, cond-false, cases_Bool}
use Rattle.id_tree.specs.IdTree.{IdTree}
use Rattle.report_line.specs.declared.report.ReportKind.{ReportKind}
use Rattle.report_line.specs.declared.report.ReportKind.TheVariants as reported
use Rattle.report_line.specs.declared.report.Report.{Report}
use Rattle.report_line.specs.declared.report.Report.TheVariants.{Numbered}
use Rattle.report_line.specs.declared.step.StepKind.{StepKind}
use Rattle.report_line.specs.declared.step.StepKind.TheVariants.{Work, Check, Present, Send, Receive, Fork, Retire, Absorb}
use Rattle.report_line.specs.declared.step.Step.{Step}
use Rattle.report_line.specs.histories.History.{Name, History, Does, Event, event_of, birth_by, Status, Living, Retired, status_of_actor, status_of_other, status}
use Rattle.report_line.specs.histories.Lawful.{IsLawfulAbsorption, IsAllowed, IsLawful, start, next}
use Rattle.report_line.specs.histories.Events.{Occurs, step, birth, earlier, to_next, to_birth, to_absorption}
use Rattle.report_line.specs.histories.StepReports.{is_reported, reporting_steps, id_of, report_by, report_of, IsReportOf, newest, earlier as before_step}
use Rattle.law_histories.proofs.Bytes.{bytes_same, bytes_other, cases_name}
use Rattle.law_histories.proofs.Status.{status_acts, status_others, root_holds, is_born, number_within}
use Rattle.law_histories.proofs.Steps.{fork_of, child_differs}
use Rattle.law_histories.proofs.Chain.{first_occurs, old, stepped, child, entry}
use Rattle.law_histories.proofs.Reported.{report_entry, of_step, of_earlier, none_at_first, others_step, unborn_reports}
use Rattle.law_histories.proofs.Rules.{living_is_newest}
use Rattle.law_histories.specs.Kept.{Cut, IsClosed, kept, IsSameEvent, EachEventIsKept, EachReportIsKept, IsNewestIn, PositionIsNewest}
use Rattle.law_histories.proofs.Follows.{kept_taken, kept_left, same_event, actor_lives, stays, is_child, other_lives, closed_before, follows}
use Rattle.law_histories.proofs.Keeping.{kept_is_lawful}

-- ---- events

abbrev IsIn : Name → History → Event → Type 0
IsIn root g x = (y : Event) × Occurs root g y × IsSameEvent x y

one_more : (root : Name) (g : History) (s : Step) (x : Event) → IsIn root g x → IsIn root (s ∷ g) x
one_more root g s x there = (there.0, earlier there.1, there.2)

event_next : (root : Name) (cut : Cut) (h : History) (s : Step) (x : Event) → IsIn root (kept cut h) x → IsIn root (kept cut (s ∷ h)) x
event_next root cut h s x there =
    elim (cases_Bool (cut (event_of h s))) [
      | inl reached ↦ subst (λ (g : History). IsIn root g x) (sym (kept_taken cut h s reached)) (one_more root (kept cut h) s x there)
      | inr beyond ↦ subst (λ (g : History). IsIn root g x) (sym (kept_left cut h s beyond)) there
    ]

event_now : (root : Name) (cut : Cut) (h : History) (s : Step) → cut (event_of h s) ≡ true → IsIn root (kept cut (s ∷ h)) (event_of h s)
event_now root cut h s reached =
    subst (λ (g : History). IsIn root g (event_of h s)) (sym (kept_taken cut h s reached))
    (event_of (kept cut h) s, step, record { process = refl; kind = refl; id = refl; values = refl })

birth_now : (root : Name) (cut : Cut) (h : History) (s : Step) (c : Name) (i : IdTree) → s.step_kind ≡ Fork c i → cut (event_of h s) ≡ true → IsIn root (kept cut (s ∷ h)) (birth_by h s c i)
birth_now root cut h s c i forks reached =
    subst (λ (g : History). IsIn root g (birth_by h s c i)) (sym (kept_taken cut h s reached))
    (birth_by (kept cut h) s c i, birth forks, record { process = refl; kind = refl; id = refl; values = refl })

kept_occurs : (root : Name) (h : History) (cut : Cut) (x : Event) → IsClosed root h cut → Occurs root h x → cut x ≡ true → IsIn root (kept cut h) x
unfolding kept
kept_occurs root [] cut x closed occurs within = (x, occurs, same_event x)
kept_occurs root (s ∷ h) cut x closed occurs within =
    elim (entry occurs) [
      | old there ↦ event_next root cut h s x (kept_occurs root h cut x (closed_before root cut h s closed) there within)
      | stepped is ↦ subst (λ (e : Event). IsIn root (kept cut (s ∷ h)) e) (sym is) (event_now root cut h s (ap cut (sym is) ∙ within))
      | child {c = c} {i = i} forks is ↦
          subst (λ (e : Event). IsIn root (kept cut (s ∷ h)) e) (sym is)
          (birth_now root cut h s c i forks (closed (event_of h s) (birth_by h s c i) (to_birth forks) (ap cut (sym is) ∙ within)))
    ]

pub each_event_is_kept : EachEventIsKept
each_event_is_kept root h cut x lawful closed occurs within = kept_occurs root h cut x closed occurs within

-- ---- reports

steps_same : (p : Name) (s : Step) (h g : History) → reporting_steps p g ≡ reporting_steps p h → reporting_steps p (s ∷ g) ≡ reporting_steps p (s ∷ h)
steps_same p s h g is = ap (λ (n : ℕ). cond (bytes_eq p s.process && is_reported s.step_kind) (suc n) n) is

steps_other : (cut : Cut) (h : History) (s : Step) (p : Name) → p ≢ s.process → reporting_steps p (kept cut h) ≡ reporting_steps p h
    → reporting_steps p (kept cut (s ∷ h)) ≡ reporting_steps p (s ∷ h)
steps_other cut h s p differs before =
    elim (cases_Bool (cut (event_of h s))) [
      | inl reached ↦ ap (reporting_steps p) (kept_taken cut h s reached) ∙ (others_step p s (kept cut h) differs ∙ (before ∙ sym (others_step p s h differs)))
      | inr beyond ↦ ap (reporting_steps p) (kept_left cut h s beyond) ∙ (before ∙ sym (others_step p s h differs))
    ]

-- A process whose last event is in the cut has made all its reports in what is kept.
pub steps_kept : {root : Name} {h : History} → IsLawful root h → (cut : Cut) → IsClosed root h cut → (p : Name) (x : Event) → status root h p ≡ Living x → cut x ≡ true
    → reporting_steps p (kept cut h) ≡ reporting_steps p h
unfolding kept
steps_kept start cut closed p x lives within = refl
steps_kept {root} (next {h = h} {s = s} {before = b} lawful living allowed) cut closed p x lives within =
    let before = closed_before root cut h s closed in
    elim (cases_name p s.process) [
      | inl same ↦
          (let event : x ≡ event_of h s = (actor_lives h h s s.step_kind x (sym (status_acts root h s p same) ∙ lives)).0 in
          let reached : cut (event_of h s) ≡ true = ap cut (sym event) ∙ within in
          ap (reporting_steps p) (kept_taken cut h s reached)
          ∙ steps_same p s h (kept cut h) (steps_kept lawful cut before p b (ap (status root h) same ∙ living) (closed b (event_of h s) (to_next living) reached)))
      | inr differs ↦ elim (other_lives h h s p s.step_kind (status root h p) x (sym (status_others root h s p differs) ∙ lives)) [
        | stays as_before after ↦ steps_other cut h s p differs (steps_kept lawful cut before p x as_before within)
        | is_child i forks event after ↦
            (let new = (fork_of root h b s p i allowed forks).new_name in
            steps_other cut h s p differs (unborn_reports root (kept cut h) p ((follows root cut h before).unborn p new) ∙ sym (unborn_reports root h p new)))
      ]
    ]

abbrev made : Step → ℕ → IdTree → ReportKind → Option Report
made s n id a = Some (Numbered (record { process = s.process; number = n + 1; stamp = record { id = id; events = s.stamp.events }; action = a }))

same_made : (s : Step) (m n : ℕ) (i j : IdTree) (a : ReportKind) → m ≡ n → i ≡ j → made s m i a ≡ made s n j a
same_made s m n i j a number id = ap (λ (k : ℕ). made s k i a) number ∙ ap (λ (k : IdTree). made s n k a) id

report_same : (root : Name) (h g : History) (s : Step) (d : StepKind) → reporting_steps s.process g ≡ reporting_steps s.process h
    → id_of (status root g s.process) ≡ id_of (status root h s.process) → report_by root g s d ≡ report_by root h s d
report_same root h g s Work steps id = refl
report_same root h g s (Send m) steps id = refl
report_same root h g s (Receive m) steps id = refl
report_same root h g s Check steps id = same_made s _ _ s.stamp.id s.stamp.id reported.Check steps refl
report_same root h g s Present steps id = same_made s _ _ s.stamp.id s.stamp.id reported.Present steps refl
report_same root h g s (Fork c i) steps id = same_made s _ _ _ _ (reported.Fork (record { kept = s.stamp.id; child = c; given = i })) steps id
report_same root h g s (Retire q) steps id = same_made s _ _ s.stamp.id s.stamp.id (reported.Retire q) steps refl
report_same root h g s (Absorb r) steps id = same_made s _ _ s.stamp.id s.stamp.id (reported.Absorb r) steps refl

abbrev IsReported : Name → History → Report → Event → Type 0
IsReported root g r x = (y : Event) × IsReportOf root g r y × IsSameEvent x y

report_now : {root : Name} {h : History} {s : Step} {b : Event} → IsLawful root h → (cut : Cut) → IsClosed root (s ∷ h) cut → status root h s.process ≡ Living b → (r : Report)
    → report_of root h s ≡ Some r → cut (event_of h s) ≡ true → IsReported root (kept cut (s ∷ h)) r (event_of h s)
report_now {root} {h} {s} {b} lawful cut closed living r is reached =
    let before = closed_before root cut h s closed in
    let within : cut b ≡ true = closed b (event_of h s) (to_next living) reached in
    let there = (follows root cut h before).living s.process b living within in
    let same_id : IsSameEvent b there.0 = there.2 in
    let steps = steps_kept lawful cut before s.process b living within in
    let id : id_of (status root (kept cut h) s.process) ≡ id_of (status root h s.process) = ap id_of there.1 ∙ (sym same_id.id ∙ sym (ap id_of living)) in
    subst (λ (g : History). IsReported root g r (event_of h s)) (sym (kept_taken cut h s reached))
    (event_of (kept cut h) s, newest (report_same root h (kept cut h) s s.step_kind steps id ∙ is), record { process = refl; kind = refl; id = refl; values = refl })

report_next : (root : Name) (cut : Cut) (h : History) (s : Step) (r : Report) (x : Event) → IsReported root (kept cut h) r x → IsReported root (kept cut (s ∷ h)) r x
report_next root cut h s r x there =
    elim (cases_Bool (cut (event_of h s))) [
      | inl reached ↦ subst (λ (g : History). IsReported root g r x) (sym (kept_taken cut h s reached)) (there.0, before_step there.1, there.2)
      | inr beyond ↦ subst (λ (g : History). IsReported root g r x) (sym (kept_left cut h s beyond)) there
    ]

kept_report : {root : Name} {h : History} → IsLawful root h → (cut : Cut) (r : Report) (x : Event) → IsClosed root h cut → IsReportOf root h r x → cut x ≡ true → IsReported root (kept cut h) r x
unfolding kept
kept_report start cut r x closed is within = absurd (none_at_first is)
kept_report {root} (next {h = h} {s = s} {before = b} lawful living allowed) cut r x closed is within =
    elim (report_entry is) [
      | of_step is_report event ↦
          subst (λ (e : Event). IsReported root (kept cut (s ∷ h)) r e) (sym event)
          (report_now lawful cut closed living r is_report (ap cut (sym event) ∙ within))
      | of_earlier before ↦ report_next root cut h s r x (kept_report lawful cut r x (closed_before root cut h s closed) before within)
    ]

pub each_report_is_kept : EachReportIsKept
each_report_is_kept root h cut r x lawful closed is within = kept_report lawful cut r x closed is within

-- ---- positions

abbrev LivesBySame : Name → History → Event → Type 0
LivesBySame root g x = (y : Event) × (status root g x.process ≡ Living y) × IsSameEvent x y

retired_lives : (x y : Event) (q : Name) → Retired x q ≡ Living y → ⊥
retired_lives x y q is = cc

absorption_of : (root : Name) (h : History) (b : Event) (s : Step) (r : Name) → IsAllowed root h b s s.step_kind → s.step_kind ≡ Absorb r → IsLawfulAbsorption root h b s r
absorption_of root h b s r w is = subst (λ (a : StepKind). IsAllowed root h b s a) is w

-- another process lives on, where the step neither makes nor absorbs it
lives_on : (g : History) (s : Step) (p : Name) (y : Event) (d : StepKind) → ((i : IdTree) → d ≢ Fork p i) → d ≢ Absorb p → status_of_other g s d p (Living y) ≡ Living y
lives_on g s p y (Fork c i) no_fork no_absorb =
    cond-false (bytes_eq p c) _ _ (bytes_other p c (λ same. no_fork i (ap (λ (n : Name). Fork n i) (sym same))))
lives_on g s p y (Absorb r) no_fork no_absorb = cond-false (bytes_eq p r) _ _ (bytes_other p r (λ same. no_absorb (ap Absorb (sym same))))
lives_on g s p y Work no_fork no_absorb = refl
lives_on g s p y Check no_fork no_absorb = refl
lives_on g s p y Present no_fork no_absorb = refl
lives_on g s p y (Send m) no_fork no_absorb = refl
lives_on g s p y (Receive m) no_fork no_absorb = refl
lives_on g s p y (Retire q) no_fork no_absorb = refl

acts_on : (d : StepKind) (e : Event) → ((q : Name) → Does d ≢ Does (Retire q)) → status_of_actor d e ≡ Living e
acts_on (Retire q) e not_retired = absurd (not_retired q refl)
acts_on (Fork c i) e not_retired = refl
acts_on (Absorb r) e not_retired = refl
acts_on Work e not_retired = refl
acts_on Check e not_retired = refl
acts_on Present e not_retired = refl
acts_on (Send m) e not_retired = refl
acts_on (Receive m) e not_retired = refl

child_lives : (g : History) (s : Step) (c : Name) (i : IdTree) (before : Status) (d : StepKind) → d ≡ Fork c i → status_of_other g s d c before ≡ Living (birth_by g s c i)
child_lives g s c i before d forks = ap (λ (a : StepKind). status_of_other g s a c before) forks ∙ cond-true (bytes_eq c c) _ _ (bytes_same c c refl)

module _ (root : Name) (cut : Cut) (h : History) (s : Step) (b : Event) (living : status root h s.process ≡ Living b) (allowed : IsAllowed root h b s s.step_kind)
    (closed : IsClosed root (s ∷ h) cut) where
  old_lives : (x : Event) → Occurs root h x → IsNewestIn root (s ∷ h) cut x → LivesBySame root (kept cut h) x → LivesBySame root (kept cut (s ∷ h)) x
  old_lives x occurs newest_in there =
      elim (cases_Bool (cut (event_of h s))) [
        | inr beyond ↦ subst (λ (g : History). LivesBySame root g x) (sym (kept_left cut h s beyond)) there
        | inl reached ↦
            (let g = kept cut h in
            let p = x.process in
            let within : x.number ≤ length h = number_within occurs in
            let differs : p ≢ s.process = λ same. true≢false (sym reached ∙ newest_in.newest (event_of h s) step (sym same) (omega arith)) in
            let no_fork : (i : IdTree) → s.step_kind ≢ Fork p i = λ i forks. is_born occurs (fork_of root h b s p i allowed forks).new_name in
            let no_absorb : s.step_kind ≢ Absorb p = λ absorbs.
            (let w = absorption_of root h b s p allowed absorbs in
            let retired = (follows root cut h (closed_before root cut h s closed)).retired p w.retirement s.process w.into_this
            (closed w.retirement (event_of h s) (to_absorption absorbs w.into_this) reached) in
            retired_lives retired.0 there.0 s.process (sym retired.1 ∙ there.1)) in
            subst (λ (g' : History). LivesBySame root g' x) (sym (kept_taken cut h s reached))
            (there.0, status_others root g s p differs ∙ (ap (status_of_other g s s.step_kind p) there.1 ∙ lives_on g s p there.0 s.step_kind no_fork no_absorb), there.2))
      ]

  step_lives : cut (event_of h s) ≡ true → ((q : Name) → Does s.step_kind ≢ Does (Retire q)) → LivesBySame root (kept cut (s ∷ h)) (event_of h s)
  step_lives reached not_retired =
      let g = kept cut h in
      subst (λ (g' : History). LivesBySame root g' (event_of h s)) (sym (kept_taken cut h s reached)) (
        event_of g s,
        status_acts root g s s.process refl ∙ acts_on s.step_kind (event_of g s) not_retired,
        record { process = refl; kind = refl; id = refl; values = refl },
      )

  birth_lives : (c : Name) (i : IdTree) → s.step_kind ≡ Fork c i → cut (event_of h s) ≡ true → LivesBySame root (kept cut (s ∷ h)) (birth_by h s c i)
  birth_lives c i forks reached =
      let g = kept cut h in
      let differs = child_differs root h b s c i living (fork_of root h b s c i allowed forks) in
      subst (λ (g' : History). LivesBySame root g' (birth_by h s c i)) (sym (kept_taken cut h s reached)) (
        birth_by g s c i,
        status_others root g s c differs ∙ child_lives g s c i (status root g c) s.step_kind forks,
        record { process = refl; kind = refl; id = refl; values = refl },
      )

newest_before : (root : Name) (cut : Cut) (h : History) (s : Step) (x : Event) → Occurs root h x → IsNewestIn root (s ∷ h) cut x → IsNewestIn root h cut x
newest_before root cut h s x occurs newest_in = record { occurs = occurs; in_cut = newest_in.in_cut; newest = λ y occurs_y of_p later. newest_in.newest y (earlier occurs_y) of_p later }

newest_lives : {root : Name} {h : History} → IsLawful root h → (cut : Cut) (x : Event) → IsClosed root h cut → IsNewestIn root h cut x → ((q : Name) → x.kind ≢ Does (Retire q))
    → LivesBySame root (kept cut h) x
unfolding kept
newest_lives {root} start cut x closed newest_in not_retired =
    let first = first_occurs newest_in.occurs in
    (x, ap (λ (e : Event). status root [] e.process) first ∙ (root_holds root ∙ ap Living (sym first)), same_event x)
newest_lives {root} (next {h = h} {s = s} {before = b} lawful living allowed) cut x closed newest_in not_retired =
    elim (entry newest_in.occurs) [
      | old there ↦
          old_lives root cut h s b living allowed closed x there newest_in
          (newest_lives lawful cut x (closed_before root cut h s closed) (newest_before root cut h s x there newest_in) not_retired)
      | stepped is ↦
          subst (λ (e : Event). LivesBySame root (kept cut (s ∷ h)) e) (sym is)
          (step_lives root cut h s b living allowed closed (ap cut (sym is) ∙ newest_in.in_cut) (λ q retires. not_retired q (ap (λ (e : Event). e.kind) is ∙ retires)))
      | child {c = c} {i = i} forks is ↦
          subst (λ (e : Event). LivesBySame root (kept cut (s ∷ h)) e) (sym is)
          (birth_lives root cut h s b living allowed closed c i forks (closed (event_of h s) (birth_by h s c i) (to_birth forks) (ap cut (sym is) ∙ newest_in.in_cut)))
    ]

pub position_is_newest : PositionIsNewest
position_is_newest root h cut x lawful closed newest_in not_retired =
    let there = newest_lives lawful cut x closed newest_in not_retired in
    (there.0, there.2, living_is_newest (kept_is_lawful root h cut lawful closed) x.process there.0 there.1)
