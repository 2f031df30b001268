-- After any steps, reports and settlements the accepted list agrees with the current history.
use Rattle.std.proofs.Common.{◌≡◌, ℕ, ◌≤◌, ◌<◌, suc, List, [], ◌∷◌, ◌++◌, refl, sym, ◌∙◌, ap, subst, inl, inr, arith}
use Rattle.std.proofs.lemmas.List.Elements.{Contains-append_cases}
use Rattle.std.proofs.lemmas.Bool.{cases_lt}
use Rattle.report_line.specs.declared.report.NumberedReport.{NumberedReport}
use Rattle.report_line.specs.declared.report.Report.{Report}
use Rattle.report_line.specs.declared.report.Report.TheVariants.{Begin, Numbered}
use Rattle.report_line.specs.declared.step.Step.{Step}
use Rattle.report_line.specs.histories.History.{Name, History, Event, event_of}
use Rattle.report_line.specs.histories.Lawful.{IsLawful, start}
use Rattle.report_line.specs.histories.StepReports.{IsReportOf, newest, earlier as before_step}
use Rattle.law_histories.proofs.Rules.{obeying_is_lawful}
use Rattle.chains.specs.declared.position.Position.{Position}
use Rattle.chains.specs.Folded.{IsFolded, nothing_folded, one_folded}
use Rattle.law_lines.specs.Places.{IsPremise}
use Rattle.law_lines.proofs.Agreeing.{agreed}
use Rattle.law_lines.proofs.Agreement.{reports_of_steps_agree}
use Rattle.law_lines.proofs.Lines.{greatest_is_greatest_closed}
use Rattle.law_lines.proofs.Listed.{in_cases}
use Rattle.law_histories.specs.Kept.{Cut}
use Rattle.law_lines.specs.Agreeing.{SettledAgrees}
use Rattle.law_lines.specs.Runs.{Made, Accepts, Settles, Run, epoch, current, accepted, IsMarkedReport, of_current, of_left_behind, earlier, IsObeyed, nothing, made, left_behind, begins, reports, settles, CurrentAgrees, HeadlineHolds, SettlementIsPossible}
use Rattle.law_lines.proofs.SettledAgreeing.{agrees_if_folded, each_line_has_events}
use Rattle.law_lines.proofs.SettledClosing.{settled_is_folded}

pub settled_agrees : SettledAgrees
settled_agrees root h list failed line cut premise is_one has =
    agrees_if_folded root h list failed line premise cut is_one has (settled_is_folded list failed line premise.folded is_one)

-- ---- what each entry does

current_made : (run : Run) (s : Step) → current (Made (epoch run) s ∷ run) ≡ s ∷ current run
unfolding current
current_made run s = grind arith

current_left : (run : Run) (e : ℕ) (s : Step) → e < epoch run → current (Made e s ∷ run) ≡ current run
unfolding current
current_left run e s old = grind arith

pub epoch_made : (run : Run) (e : ℕ) (s : Step) → epoch (Made e s ∷ run) ≡ epoch run
unfolding epoch
epoch_made run e s = refl

pub epoch_accepts : (run : Run) (m : ℕ) (r : Report) → epoch (Accepts m r ∷ run) ≡ epoch run
unfolding epoch
epoch_accepts run m r = refl

pub epoch_settles : (run : Run) (failed : List ℕ) (line : List Position) (cut : Cut) → epoch (Settles failed line cut ∷ run) ≡ suc (epoch run)
unfolding epoch
epoch_settles run failed line cut = refl

pub accepted_made : (run : Run) (e : ℕ) (s : Step) → accepted (Made e s ∷ run) ≡ accepted run
unfolding accepted
accepted_made run e s = refl

premise_of : (root : Name) (h g : History) (list other : List Report) → h ≡ g → list ≡ other → IsPremise root h list → IsPremise root g other
premise_of root h g list other same equal premise = subst (λ (x : History). IsPremise root x other) same (subst (λ (l : List Report). IsPremise root h l) equal premise)

-- a step more, and the list agrees still
step_more : (root : Name) (h : History) (s : Step) (list : List Report) → IsPremise root h list → IsLawful root (s ∷ h) → IsPremise root (s ∷ h) list
step_more root h s list premise lawful = record {
  folded = premise.folded;
  lawful = lawful;
  agrees = reports_of_steps_agree root (s ∷ h) list premise.folded premise.agrees.begins
      (λ r at. let of = agreed root h list r premise.agrees at in (of.0, before_step of.1));
}

-- the report of a step more, and the list agrees still
report_more : (root : Name) (h : History) (r : NumberedReport) (e : Event) (list : List Report) → IsPremise root h list → IsFolded (list ++ Numbered r ∷ []) → IsReportOf root h (Numbered r) e
    → IsPremise root h (list ++ Numbered r ∷ [])
report_more root h r e list premise folded is = record {
  folded = folded;
  lawful = premise.lawful;
  agrees = reports_of_steps_agree root h (list ++ Numbered r ∷ []) folded
      (λ p at. elim (Contains-append_cases list (Numbered r ∷ []) (Begin p) at) [
        | inl old ↦ premise.agrees.begins p old
        | inr new ↦ elim (in_cases (Numbered r) (Begin p) [] new) [ inl same ↦ absurd (cc) | inr none ↦ (let lt = none.1 in absurd (omega arith)) ]
      ])
      (λ x at. elim (Contains-append_cases list (Numbered r ∷ []) (Numbered x) at) [
        | inl old ↦ agreed root h list x premise.agrees old
        | inr new ↦ elim (in_cases (Numbered r) (Numbered x) [] new) [
          | inl same ↦ (e, subst (λ (y : Report). IsReportOf root h y e) same is)
          | inr none ↦ (let lt = none.1 in absurd (omega arith))
        ]
      ]);
}

same_root : (p q : Name) → Begin p ≡ Begin q → q ≡ p
same_root p q is = cc

begin_only : (root : Name) (h : History) → IsLawful root h → IsPremise root h (Begin root ∷ [])
begin_only root h lawful =
    let folded : IsFolded (Begin root ∷ []) = one_folded [] (Begin root) nothing_folded refl in
    record {
      folded = folded;
      lawful = lawful;
      agrees = reports_of_steps_agree root h (Begin root ∷ []) folded
          (λ p at. elim (in_cases (Begin root) (Begin p) [] at) [ inl same ↦ same_root root p same | inr none ↦ (let lt = none.1 in absurd (omega arith)) ])
          (λ x at. elim (in_cases (Begin root) (Numbered x) [] at) [ inl same ↦ absurd (cc) | inr none ↦ (let lt = none.1 in absurd (omega arith)) ]);
    }

none_premise : (root : Name) → IsPremise root [] []
none_premise root = record {
  folded = nothing_folded;
  lawful = start;
  agrees = reports_of_steps_agree root [] [] nothing_folded (λ p at. let lt = at.1 in absurd (omega arith)) (λ x at. let lt = at.1 in absurd (omega arith));
}

-- ---- a report of the present epoch is that of a step of the current history

-- no mark is later than the present epoch
mark_within : {root : Name} {run : Run} {mark : ℕ} {r : Report} → IsMarkedReport root run mark r → mark ≤ epoch run
mark_within (of_current {run = run} {s = s} is) = (let same = epoch_made run (epoch run) s in omega arith)
mark_within (of_left_behind {run = run} {e = e} {s = s} old) = (let same = epoch_made run e s in omega arith)
mark_within (earlier {run = run} {x = Made e s} there) = (let before = mark_within there in let same = epoch_made run e s in omega arith)
mark_within (earlier {run = run} {x = Accepts m r} there) = (let before = mark_within there in let same = epoch_accepts run m r in omega arith)
mark_within (earlier {run = run} {x = Settles failed line cut} there) = (let before = mark_within there in let more = epoch_settles run failed line cut in omega arith)

abbrev IsOfCurrent : Name → Run → Report → Type 0
IsOfCurrent root run r = (e : Event) × IsReportOf root (current run) r e

step_current : (root : Name) (run : Run) (e : ℕ) (s : Step) (r : Report) → e ≤ epoch run → IsOfCurrent root run r → IsOfCurrent root (Made e s ∷ run) r
step_current root run e s r within of =
    elim (cases_lt e (epoch run)) [
      | inl old ↦ subst (λ (h : History). (x : Event) × IsReportOf root h r x) (sym (current_left run e s old)) of
      | inr not_old ↦
          (let same : e ≡ epoch run = omega arith in
          subst (λ (k : ℕ). IsOfCurrent root (Made k s ∷ run) r) (sym same)
          (subst (λ (h : History). (x : Event) × IsReportOf root h r x) (sym (current_made run s)) (of.0, before_step of.1)))
    ]

accepts_current : (run : Run) (m : ℕ) (r : Report) → current (Accepts m r ∷ run) ≡ current run
unfolding current
accepts_current run m r = refl

-- the steps of an obeyed run are of no later epoch
pub made_within : {root : Name} {run : Run} {e : ℕ} {s : Step} → IsObeyed root (Made e s ∷ run) → (e ≤ epoch run) × IsObeyed root run
made_within (made {run = run} obeyed newest_one obeys) = (omega arith, obeyed)
made_within (left_behind obeyed old) = (omega arith, obeyed)

pub accepts_before : {root : Name} {run : Run} {m : ℕ} {r : Report} → IsObeyed root (Accepts m r ∷ run) → IsObeyed root run
accepts_before (begins obeyed empty) = obeyed
accepts_before (reports obeyed marked fit) = obeyed

marked_is_current : {root : Name} {run : Run} {mark : ℕ} {r : Report} → IsMarkedReport root run mark r → IsObeyed root run → mark ≡ epoch run → IsOfCurrent root run r
marked_is_current {root} (of_current {run = run} {s = s} {r = r} is) obeyed same =
    subst (λ (h : History). (x : Event) × IsReportOf root h r x) (sym (current_made run s)) (event_of (current run) s, newest is)
marked_is_current (of_left_behind {run = run} {e = e} {s = s} old) obeyed same = (let now = epoch_made run e s in absurd (omega arith))
marked_is_current {root} {r = r} (earlier {run = run} {x = Made e s} there) obeyed same =
    let w = made_within obeyed in
    step_current root run e s r w.0 (marked_is_current there w.1 (same ∙ epoch_made run e s))
marked_is_current {root} {r = r} (earlier {run = run} {x = Accepts m q} there) obeyed same =
    subst (λ (h : History). (x : Event) × IsReportOf root h r x) (sym (accepts_current run m q)) (marked_is_current there (accepts_before obeyed) (same ∙ epoch_accepts run m q))
marked_is_current (earlier {run = run} {x = Settles failed line cut} there) obeyed same =
    let before = mark_within there in
    let more = epoch_settles run failed line cut in
    absurd (omega arith)

-- ---- all together

pub agrees_now : {root : Name} {run : Run} → IsObeyed root run → IsPremise root (current run) (accepted run)
unfolding current accepted
agrees_now {root} nothing = none_premise root
agrees_now {root} (made {run = run} {s = s} {before = b} obeyed newest_one obeys) =
    let premise = agrees_now obeyed in
    premise_of root (s ∷ current run) (current (Made (epoch run) s ∷ run)) (accepted run) (accepted run) (sym (current_made run s)) refl
    (step_more root (current run) s (accepted run) premise (obeying_is_lawful root (current run) s b premise.lawful newest_one obeys))
agrees_now {root} (left_behind {run = run} {e = e} {s = s} obeyed old) =
    premise_of root (current run) (current (Made e s ∷ run)) (accepted run) (accepted run) (sym (current_left run e s old)) refl (agrees_now obeyed)
agrees_now {root} (begins {run = run} obeyed empty) =
    let premise = agrees_now obeyed in
    premise_of root (current run) (current run) (Begin root ∷ []) (accepted run ++ Begin root ∷ []) refl (sym (ap (λ l. l ++ Begin root ∷ []) empty)) (begin_only root (current run) premise.lawful)
agrees_now {root} (reports {run = run} {r = r} obeyed marked fit) =
    let premise = agrees_now obeyed in
    let of = marked_is_current marked obeyed refl in
    report_more root (current run) r of.0 (accepted run) premise (one_folded (accepted run) (Numbered r) premise.folded fit) of.1
agrees_now {root} (settles {run = run} {failed = failed} {line = line} {cut = cut} obeyed greatest has) =
    settled_agrees root (current run) (accepted run) failed line cut (agrees_now obeyed) greatest.is_one has

pub current_agrees : CurrentAgrees
current_agrees root run obeyed = agrees_now obeyed

pub headline_holds : HeadlineHolds
headline_holds root run failed line obeyed greatest = greatest_is_greatest_closed root (current run) (accepted run) (agrees_now obeyed) failed line greatest

pub settlement_is_possible : SettlementIsPossible
settlement_is_possible root run failed line obeyed greatest =
    let there = each_line_has_events root (current run) (accepted run) failed line (agrees_now obeyed) greatest.is_one.is_cut in
    (there.0, settles obeyed greatest there.1)
