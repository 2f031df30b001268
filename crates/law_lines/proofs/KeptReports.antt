-- A report is at or before a line just where its event is, so what a settlement keeps of a history hands over the settled reports.
use Rattle.std.proofs.Common.{◌≡◌, ◌⊎◌, ℕ, zero, suc, ◌+◌, ◌≤◌, ◌<◌, Bool, true, false, List, [], ◌∷◌, ◌++◌, Option, Some, None, length, inl, inr, refl, sym, ◌∙◌, ap, subst, append-nil, arith}
use Rattle.std.specs.Prelude.{Contains, slice_get, filter}
use Rattle.std.specs.List.{cons_option, filter_map}
use Rattle.std.specs.Option.{option_map, option_map_or, is_some}
use Rattle.std.specs.Str.{bytes_eq}
use Rattle.std.proofs.lemmas.Bool.{cases_Bool, cases_lt, cond-true, cond-false}
use Rattle.std.proofs.lemmas.List.Elements.{filter-append}
use Rattle.std.proofs.lemmas.List.Sums.{length-filter}
use Rattle.std.proofs.lemmas.Option.{cond_some}
use Rattle.id_tree.specs.IdTree.{One}
use Rattle.event_tree.specs.EventTree.{Leaf}
use Rattle.stamp.specs.declared.stamp.Stamp.{Stamp}
use Rattle.report_line.specs.declared.report.ReportKind.{ReportKind}
use Rattle.report_line.specs.declared.report.ReportKind.TheVariants as reported
use Rattle.report_line.specs.declared.report.Forked.{Forked}
use Rattle.report_line.specs.declared.report.NumberedReport.{NumberedReport}
use Rattle.report_line.specs.declared.report.Report.{Report}
use Rattle.report_line.specs.declared.report.Report.TheVariants.{Begin, Numbered}
use Rattle.report_line.specs.declared.step.StepKind.{StepKind}
use Rattle.report_line.specs.declared.step.StepKind.TheVariants.{Work, Check, Present, Send, Receive, Fork, Retire, Absorb}
use Rattle.report_line.specs.declared.step.Step.{Step}
use Rattle.report_line.specs.histories.History.{Name, History, Birth, Does, Event, event_of, birth_of_root, Living, status}
use Rattle.report_line.specs.histories.Lawful.{IsLawful, start, next}
use Rattle.report_line.specs.histories.Events.{Occurs, to_next}
use Rattle.report_line.specs.histories.StepReports.{reporting_steps, report_by, report_of, reports, IsReportOf, newest, earlier as before_step}
use Rattle.law_histories.proofs.Bytes.{bytes_same, bytes_are}
use Rattle.law_histories.proofs.Later.{birth_first}
use Rattle.law_histories.proofs.Reported.{IsEventAs, event_of_report, birth_of_report, says, own_step, no_begin, number_up_to, report_entry, of_step, of_earlier}
use Rattle.law_histories.proofs.Retiring.{none_after}
use Rattle.chains.specs.declared.position.Position.{Position}
use Rattle.chains.specs.declared.position.Position.TheVariants.{At, Retired}
use Rattle.chains.specs.Agrees.{Agrees}
use Rattle.chains.specs.Elements.{elements_of, makers_of, name_of}
use Rattle.chains.specs.Folded.{IsFolded}
use Rattle.chains.specs.Greatest.{IsConsistentCut}
use Rattle.chains.specs.Positions.{position_in}
use Rattle.chains.specs.Processes.{known, is_numbered_of, reports_by, reports_of, target_of}
use Rattle.chains.proofs.Counting.{elements_is}
use Rattle.chains.proofs.Numbering.{last_number}
use Rattle.law_lines.specs.Places.{IsPremise, IsEventAt, place, IsUpTo, IsInCut}
use Rattle.law_lines.proofs.Agreeing.{in_reports, begin_no_report, number_at, number_order, agreed}
use Rattle.law_lines.proofs.Listed.{at_in, in_at, at_append, in_filter, filter_in, made_in, last_in}
use Rattle.law_lines.proofs.Ordered.{one_event, retired_by_report, same_name}
use Rattle.law_lines.proofs.Placed.{root_occurs}
use Rattle.law_histories.specs.Kept.{Cut, IsClosed, kept}
use Rattle.law_histories.proofs.Carried.{each_report_is_kept, steps_kept}
use Rattle.law_histories.proofs.Follows.{kept_taken, kept_left, closed_before}
use Rattle.law_lines.specs.Agreeing.{HasEventsOf}
use Rattle.law_lines.specs.Settled.{position_for, number_for, limit, limits_of, is_settled, settled_by}
use Rattle.law_lines.proofs.SettledAgreeing.{closed, report_in_cut}
use Rattle.law_lines.proofs.SettledClosing.{limits_of_cut, maker_number}
use Rattle.law_lines.proofs.Folding.{within, is_within}
use Rattle.law_lines.proofs.Limits.{maker_makes}
use Rattle.law_lines.proofs.Made.{has_made}
use Rattle.law_lines.proofs.Numbered.{told, numbered_by, numbered_made, IsMadeBy, IsLimit}

-- ---- the event of an element, by the number of the report that made it

-- a birth, or the event of the report of this number
data IsMadeAt (root : Name) (h : History) (p : Name) (n : ℕ) (s : Stamp) : Type 0 where
  of_birth : (b : Event) → Occurs root h b → b.process ≡ p → b.values ≡ s.events → b.kind ≡ Birth → IsMadeAt root h p n s
  of_report : (x : Event) (r : NumberedReport) → Occurs root h x → x.process ≡ p → x.values ≡ s.events → r.process ≡ p → r.number ≡ n → IsReportOf root h (Numbered r) x
      → IsMadeAt root h p n s

module _ (root : Name) (h : History) (accepted : List Report) (agrees : Agrees root h accepted) (p : Name) (n : ℕ) (s : Stamp) where
  by_begin : (q : Name) → Contains accepted (Begin q) → numbered_made p (Begin q) ≡ Some (n, s) → IsMadeAt root h p n s
  by_begin q at made =
      let w = cond_some (bytes_eq p q) (0, record { id = One; events = Leaf 0 }) (n, s) made in
      of_birth (birth_of_root root) (root_occurs root h) (sym (bytes_are p q w.0 ∙ agrees.begins q at)) (ap (λ (t : ℕ × Stamp). t.1.events) w.1) refl

  by_own : (r : NumberedReport) → Contains accepted (Numbered r) → p ≡ r.process → r.number ≡ n → r.stamp.events ≡ s.events → IsMadeAt root h p n s
  by_own r at own number events =
      let of = agreed root h accepted r agrees at in
      let said = event_of_report root h of.0 r of.1 in
      of_report of.0 r said.occurs (said.process ∙ sym own) (said.values ∙ events) (sym own) number of.1

  by_fork : (r : NumberedReport) (f : Forked) → Contains accepted (Numbered r) → r.action ≡ reported.Fork f → numbered_by p r (reported.Fork f) ≡ Some (n, s) → IsMadeAt root h p n s
  by_fork r f at forks made =
      let w = cond_some (bytes_eq p f.child) (0, record { id = f.given; events = r.stamp.events }) (n, s) made in
      let of = agreed root h accepted r agrees at in
      let born = birth_of_report root h of.0 r f forks of.1 in
      of_birth born.0 born.1.occurs (born.1.process ∙ sym (bytes_are p f.child w.0)) (born.1.values ∙ ap (λ (t : ℕ × Stamp). t.1.events) w.1) born.1.kind

  by_action : (r : NumberedReport) (b : ReportKind) → Contains accepted (Numbered r) → r.action ≡ b → numbered_by p r b ≡ Some (n, s) → IsMadeAt root h p n s
  by_action r reported.Check at is made =
      let w = cond_some (bytes_eq p r.process) (r.number, r.stamp) (n, s) made in
      by_own r at (bytes_are p r.process w.0) (ap (λ (t : ℕ × Stamp). t.0) w.1) (ap (λ (t : ℕ × Stamp). t.1.events) w.1)
  by_action r (reported.Fork f) at is made = by_fork r f at is made
  by_action r reported.Present at is made = absurd (cc)
  by_action r (reported.Retire q) at is made = absurd (cc)
  by_action r (reported.Absorb q) at is made = absurd (cc)

  by_report : (m : Report) → Contains accepted m → numbered_made p m ≡ Some (n, s) → IsMadeAt root h p n s
  by_report (Begin q) at made = by_begin q at made
  by_report (Numbered r) at made = by_action r r.action at refl made

  made_at : IsMadeBy accepted p n s → IsMadeAt root h p n s
  made_at (inl there) =
      let at = at_in (filter_map (numbered_made p) accepted) (n, s) there in
      let m = made_in (numbered_made p) accepted at.0 (n, s) at.2 in
      by_report m.0 m.1 m.2
  made_at (inr last) = by_own (told p n s reported.Present) (last_in (is_numbered_of p) accepted (Numbered (told p n s reported.Present)) last) refl refl refl

-- ---- a report of an event at or before the line is within the limit of its process

does_something : (e : Event) (st : Stamp) (b : ReportKind) → IsEventAs e st b → e.kind ≡ Birth → ⊥
does_something e st reported.Check w is = (let both : Does Check ≡ Birth = sym w.0 ∙ is in cc)
does_something e st reported.Present w is = (let both : Does Present ≡ Birth = sym w.0 ∙ is in cc)
does_something e st (reported.Fork f) w is = (let both : Does (Fork f.child f.given) ≡ Birth = sym w ∙ is in cc)
does_something e st (reported.Retire q) w is = (let both : Does (Retire q) ≡ Birth = sym w ∙ is in cc)
does_something e st (reported.Absorb q) w is = (let both : Does (Absorb q) ≡ Birth = sym w ∙ is in cc)

module _ (root : Name) (h : History) (accepted : List Report) (premise : IsPremise root h accepted) (i : ℕ) (r : NumberedReport) (e : Event)
    (named : name_of accepted i ≡ Some r.process) (of : IsReportOf root h (Numbered r) e) where
  event_there : (k : ℕ) (s : Stamp) (x : Event) → slice_get (elements_of r.process accepted) k ≡ Some s → Occurs root h x → x.process ≡ r.process → x.values ≡ s.events
      → IsEventAt root h accepted (place i (At (suc k))) x
  event_there k s x at occurs of_one values = record {
    occurs = occurs;
    of_process = named ∙ ap Some (sym of_one);
    values = ap (option_map (λ (y : Stamp). y.events)) (ap (λ l. slice_get l k) (elements_is accepted i r.process named) ∙ at) ∙ ap Some (sym values);
  }

  -- up to an element
  up_to_element : (k n : ℕ) (s : Stamp) (x : Event) → slice_get (elements_of r.process accepted) k ≡ Some s → IsEventAt root h accepted (place i (At (suc k))) x → e.number ≤ x.number
      → IsMadeAt root h r.process n s → r.number ≤ n
  up_to_element k n s x at x_at less (of_birth b occurs of_one values birth) =
      let same : x ≡ b = one_event root h accepted premise.lawful (place i (At (suc k))) x b x_at (event_there k s b at occurs of_one values) in
      let number : x.number ≡ b.number = ap (λ (y : Event). y.number) same in
      let said = event_of_report root h e r of in
      elim (birth_first premise.lawful b e occurs said.occurs birth (said.process ∙ sym of_one)) [
        | inl is ↦ absurd (does_something e r.stamp r.action said.action (ap (λ (y : Event). y.kind) is ∙ birth))
        | inr later ↦ absurd (omega arith)
      ]
  up_to_element k n s x at x_at less (of_report y m occurs of_one values own number is) =
      let same : x ≡ y = one_event root h accepted premise.lawful (place i (At (suc k))) x y x_at (event_there k s y at occurs of_one values) in
      let both : x.number ≡ y.number = ap (λ (z : Event). z.number) same in
      elim (cases_lt n r.number) [
        | inl more ↦
            (let order : y.number < e.number = number_order root h r m e y own of is (subst (λ (j : ℕ). j < r.number) (sym number) more) in
            absurd (omega arith))
        | inr no_more ↦ no_more
      ]

  -- up to a retirement
  up_to_retirement : (n : ℕ) → n ≡ reports_of r.process accepted → is_some (target_of r.process accepted) ≡ true → r.number ≤ n
  up_to_retirement n all retired =
      let w = retired_by_report root h accepted premise.agrees i (ap (λ o. option_map_or (λ name. is_some (target_of name accepted)) o false) named ∙ retired) in
      let m : NumberedReport = w.0 in
      let there = agreed root h accepted m premise.agrees w.2.contains in
      let said = event_of_report root h there.0 m there.1 in
      let said_of = event_of_report root h e r of in
      let own : m.process ≡ r.process = same_name _ _ (sym w.2.is_name ∙ named) in
      let retires : there.0.kind ≡ Does (Retire w.1) = subst (IsEventAs there.0 m.stamp) w.2.retires said.action in
      let last : e.number ≤ there.0.number = none_after premise.lawful there.0 w.1 said.occurs retires e said_of.occurs (said_of.process ∙ (sym own ∙ sym said.process)) in
      let count : m.number ≡ reports_of m.process accepted = last_number accepted m.process m premise.folded w.2.last in
      let whole : reports_of m.process accepted ≡ reports_of r.process accepted = ap (λ (p : Name). reports_of p accepted) own in
      elim (cases_lt m.number r.number) [
        | inl more ↦ (let order : there.0.number < e.number = number_order root h r m e there.0 own of there.1 more in absurd (omega arith))
        | inr no_more ↦ omega arith
      ]

  up_to_limit : (k : Position) (n : ℕ) → IsUpTo root h accepted i k e → IsLimit accepted r.process k n → r.number ≤ n
  up_to_limit (At zero) n up is = absurd up
  up_to_limit (At (suc k)) n up is =
      up_to_element k n is.0 up.0 is.1 up.1 up.2 (made_at root h accepted premise.agrees r.process n is.0 is.2)
  up_to_limit Retired n up is = up_to_retirement n is.0 is.1

-- ---- a report that is not accepted is past the limit of its process

-- no limit is past what is accepted
pub limit_within : (accepted : List Report) (p : Name) → IsFolded accepted → (k : Position) → limit accepted p k ≤ reports_of p accepted
limit_within accepted p folded (At zero) = omega arith
limit_within accepted p folded Retired = omega arith
limit_within accepted p folded (At (suc k)) = by (slice_get (makers_of p accepted) k) refl
  where
    by : (o : Option Report) → slice_get (makers_of p accepted) k ≡ o → option_map_or (number_for p) o 0 ≤ reports_of p accepted
    by None is = omega arith
    by (Some m) is =
        let makes = maker_makes p accepted k m is in
        (has_made folded p (number_for p m) makes.0 (maker_number accepted folded p k m makes.0 is makes.2)).few

pub counted : (p : Name) (list : List Report) → length (reports_by p list) ≡ reports_of p list
counted p list = length-filter (is_numbered_of p) list

-- of the reports of the process that are made, one is accepted or has a greater number than those that are
accepted_or_past : (root : Name) (h : History) (accepted : List Report) (r : NumberedReport) (e : Event) → Agrees root h accepted → IsReportOf root h (Numbered r) e
    → Contains accepted (Numbered r) ⊎ (reports_of r.process accepted < r.number)
accepted_or_past root h accepted r e agrees of =
    let p = r.process in
    let first = agrees.first_reports p in
    let at = at_in (reports_by p (reports root h)) (Numbered r) (filter_in (is_numbered_of p) (reports root h) (Numbered r) (in_reports root h (Numbered r) e of) (bytes_same p p refl)) in
    let number : r.number ≡ at.0 + 1 = number_at root p h at.0 r at.2 in
    let count : length (reports_by p accepted) ≡ reports_of p accepted = counted p accepted in
    elim (at_append (reports_by p accepted) first.0 at.0 (Numbered r) (ap (λ (l : List Report). slice_get l at.0) (sym first.1) ∙ at.2)) [
      | inl there ↦ inl (in_filter (is_numbered_of p) accepted (Numbered r) (in_at (reports_by p accepted) at.0 (Numbered r) there)).0
      | inr back ↦ (let past : at.0 ≡ length (reports_by p accepted) + back.0 = back.1 in inr (omega arith))
    ]

-- ---- a report is settled just where its event is in the cut

pub same_test : (x y : Bool) → (x ≡ true → y ≡ true) → (y ≡ true → x ≡ true) → x ≡ y
same_test true y there back = sym (there refl)
same_test false true there back = back refl
same_test false false there back = refl

module _ (root : Name) (h : History) (accepted : List Report) (failed : List ℕ) (line : List Position) (cut : Cut) (premise : IsPremise root h accepted)
    (is_one : IsConsistentCut accepted failed line) (has : HasEventsOf root h accepted line cut) where
  in_cut_settled : (r : NumberedReport) (e : Event) → IsReportOf root h (Numbered r) e → IsInCut root h accepted line e → is_settled (limits_of accepted line) (Numbered r) ≡ true
  in_cut_settled r e of inside =
      let named : name_of accepted inside.process ≡ Some r.process = inside.of_process ∙ ap Some (event_of_report root h e r of).process in
      let bound = limits_of_cut accepted failed line premise.folded is_one.is_cut inside.process r.process named in
      is_within r.number (limits_of accepted line r.process)
      (up_to_limit root h accepted premise inside.process r e named of (position_in line inside.process) (limits_of accepted line r.process) inside.up_to bound)

  settled_in_cut : (r : NumberedReport) (e : Event) → IsReportOf root h (Numbered r) e → r.number ≤ limits_of accepted line r.process → IsInCut root h accepted line e
  settled_in_cut r e of less =
      elim (accepted_or_past root h accepted r e premise.agrees of) [
        | inl at ↦ report_in_cut root h accepted failed line premise r e at less of
        | inr past ↦
            (let bound = limit_within accepted r.process premise.folded (position_for (known accepted) line r.process) in
            absurd (omega arith))
      ]

  settled_as_cut : (r : Report) (e : Event) → IsReportOf root h r e → cut e ≡ is_settled (limits_of accepted line) r
  settled_as_cut (Begin q) e of = absurd (begin_no_report root h q e of)
  settled_as_cut (Numbered r) e of =
      same_test (cut e) (is_settled (limits_of accepted line) (Numbered r)) (λ is. in_cut_settled r e of ((has e).0 is))
      (λ is. (has e).1 (settled_in_cut r e of (within r.number (limits_of accepted line r.process) is)))

-- ---- what is kept makes the same reports, in order

unreported : (root : Name) (h g : History) (s : Step) (d : StepKind) → report_by root h s d ≡ None → report_by root g s d ≡ None
unreported root h g s Work is = refl
unreported root h g s (Send m) is = refl
unreported root h g s (Receive m) is = refl
unreported root h g s Check is = absurd (cc)
unreported root h g s Present is = absurd (cc)
unreported root h g s (Fork c i) is = absurd (cc)
unreported root h g s (Retire q) is = absurd (cc)
unreported root h g s (Absorb q) is = absurd (cc)

-- a step that is kept is reported as it was
same_report : (root : Name) (h : History) (cut : Cut) (s : Step) (b : Event) → IsLawful root (s ∷ h) → IsLawful root h → IsClosed root (s ∷ h) cut → status root h s.process ≡ Living b
    → cut (event_of h s) ≡ true → (o : Option Report) → report_of root h s ≡ o → report_of root (kept cut h) s ≡ o
same_report root h cut s b whole lawful is_closed living reached None is = unreported root h (kept cut h) s s.step_kind is
same_report root h cut s b whole lawful is_closed living reached (Some (Begin q)) is = absurd (no_begin root h s q s.step_kind is)
same_report root h cut s b whole lawful is_closed living reached (Some (Numbered r)) is =
    let there = each_report_is_kept root (s ∷ h) cut (Numbered r) (event_of h s) whole is_closed (newest is) reached in
    let made = own_step h s s.step_kind r refl (says root h s r s.step_kind is) in
    let number : r.number ≡ reporting_steps r.process h + 1 = made.0 in
    let of_step_process : r.process ≡ s.process = (says root h s r s.step_kind is).process in
    let steps : reporting_steps s.process (kept cut h) ≡ reporting_steps s.process h =
    steps_kept lawful cut (closed_before root cut h s is_closed) s.process b living (is_closed b (event_of h s) (to_next living) reached) in
    let own_steps : reporting_steps r.process (kept cut h) ≡ reporting_steps r.process h =
    subst (λ (p : Name). reporting_steps p (kept cut h) ≡ reporting_steps p h) (sym of_step_process) steps in
    elim (report_entry (subst (λ (g : History). IsReportOf root g (Numbered r) there.0) (kept_taken cut h s reached) there.1)) [
      | of_step again event ↦ again
      | of_earlier before ↦ (let few : r.number ≤ reporting_steps r.process (kept cut h) = number_up_to root (kept cut h) there.0 r before in absurd (omega arith))
    ]

all_pass : (test : Report → Bool) (o : Option Report) → ((r : Report) → o ≡ Some r → test r ≡ true) → filter test (cons_option o []) ≡ cons_option o []
all_pass test None passes = refl
all_pass test (Some r) passes = cond-true (test r) (r ∷ []) [] (passes r refl)

none_pass : (test : Report → Bool) (o : Option Report) → ((r : Report) → o ≡ Some r → test r ≡ false) → filter test (cons_option o []) ≡ []
none_pass test None fails = refl
none_pass test (Some r) fails = cond-false (test r) (r ∷ []) [] (fails r refl)

kept_reports : {root : Name} {h : History} → IsLawful root h → (cut : Cut) (test : Report → Bool) → IsClosed root h cut
    → ((r : Report) (e : Event) → IsReportOf root h r e → cut e ≡ test r) → reports root (kept cut h) ≡ filter test (reports root h)
unfolding kept
kept_reports start cut test is_closed told = refl
kept_reports {root} (next {h = h} {s = s} {before = b} lawful living allowed) cut test is_closed told =
    let before = kept_reports lawful cut test (closed_before root cut h s is_closed) (λ r e of. told r e (before_step of)) in
    let new = cons_option (report_of root h s) [] in
    elim (cases_Bool (cut (event_of h s))) [
      | inl reached ↦
          ap (reports root) (kept_taken cut h s reached)
          ∙ (ap (λ (l : List Report). l ++ cons_option (report_of root (kept cut h) s) []) before
          ∙ (ap (λ (o : Option Report). filter test (reports root h) ++ cons_option o []) (same_report root h cut s b (next lawful living allowed) lawful is_closed living reached (report_of root h s) refl)
          ∙ (ap (λ (l : List Report). filter test (reports root h) ++ l) (sym (all_pass test (report_of root h s) (λ r is. sym (told r (event_of h s) (newest is)) ∙ reached)))
          ∙ sym (filter-append test (reports root h) new))))
      | inr beyond ↦
          ap (reports root) (kept_left cut h s beyond)
          ∙ (before
          ∙ (sym (append-nil (filter test (reports root h)))
          ∙ (ap (λ (l : List Report). filter test (reports root h) ++ l) (sym (none_pass test (report_of root h s) (λ r is. sym (told r (event_of h s) (newest is)) ∙ beyond)))
          ∙ sym (filter-append test (reports root h) new))))
    ]

-- What is kept of a history hands over just those of its reports that are at or before the line, in the same order.
pub kept_hands_over : (root : Name) (h : History) (accepted : List Report) (failed : List ℕ) (line : List Position) (cut : Cut) → IsPremise root h accepted
    → IsConsistentCut accepted failed line → HasEventsOf root h accepted line cut
    → Begin root ∷ reports root (kept cut h) ≡ settled_by (limits_of accepted line) (Begin root ∷ reports root h)
kept_hands_over root h accepted failed line cut premise is_one has =
    ap (λ (l : List Report). Begin root ∷ l)
    (kept_reports premise.lawful cut (is_settled (limits_of accepted line)) (closed root h accepted failed line premise cut is_one has) (settled_as_cut root h accepted failed line cut premise is_one has))
