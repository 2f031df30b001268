-- Where nothing was settled: the steps of calls are a lawful history, and the lines are those of its reports.
use Rattle.std.proofs.Common.{◌≡◌, ℕ, ◌+◌, ◌≤◌, Option, Some, None, List, [], ◌∷◌, ◌++◌, length, refl, sym, ◌∙◌, ap, subst, append-nil, append_assoc, arith}
use Rattle.std.specs.List.{cons_option}
use Rattle.report_line.specs.declared.report.Report.{Report}
use Rattle.report_line.specs.declared.step.StepKind.{StepKind}
use Rattle.report_line.specs.histories.History.{Name, History}
use Rattle.report_line.specs.histories.Lawful.{IsLawful}
use Rattle.report_line.specs.histories.StepReports.{report_of, reports}
use Rattle.law_lines.specs.Runs.{Run, epoch, current}
use Rattle.law_turns.specs.Traces.{Trace, Extends}
use Rattle.law_process.specs.Accounts.{Doing, IsDone, Did, Took, Account, step_kind_of, steps_by, traced}
use Rattle.law_process.specs.Handing.{Past, MayDo, run_with, AreHandedOver}
use Rattle.law_process.specs.Obeying.{IsOfCalls, line_given, lines_given, AreLinesOf, StepsOfCallsAreLawful}
use Rattle.law_process.specs.EachCall.{step_of, IsReportLine}
use Rattle.law_process.proofs.CallKinds.{on_step_kind}
use Rattle.law_process.proofs.Telling.{tells, silent, lines_more}
use Rattle.law_process.proofs.Running.{Holds, first_holds, first_epoch, first_history, current_made, epoch_made, own_within, step_now, call_on}

-- what the steps of calls make of a run of epoch 0
pub record Makes (root : Name) (run : Run) (trace : Trace) (lines : List (List ℕ)) : Type 0 where
  pub later : Run
  pub extends : Extends root run trace later
  pub lawful : IsLawful root (current later)
  pub rest : List Report
  pub reports_are : reports root (current later) ≡ reports root (current run) ++ rest
  pub lines_are : AreLinesOf lines rest

-- the trace behind a call
extends_behind : (root : Name) (o : Option StepKind) (d : Doing) (run later : Run) (trace : Trace) → Extends root (run_with o d run) trace later → Extends root run (steps_by o d ++ trace) later
extends_behind root None d run later trace extends = extends
extends_behind root (Some step_kind) d run later trace extends = extends

module _ (root : Name) (run : Run) (past : Past) (d : Doing) (zero_epoch : epoch run ≡ 0) (w : Holds root run past) (done : IsDone d) (may : MayDo root run past d.act d.old) where
  makes_more : (o : Option StepKind) → step_kind_of (length past) d.act ≡ o → (trace : Trace) (lines : List (List ℕ)) → Makes root (run_with o d run) trace lines
      → Makes root run (steps_by o d ++ trace) (line_given d.act ++ lines)
  makes_more None is trace lines m =
      subst (λ (l : List (List ℕ)). Makes root run trace (l ++ lines)) (sym (silent (length past) d.act is)) (record {
        later = m.later;
        extends = m.extends;
        lawful = m.lawful;
        rest = m.rest;
        reports_are = m.reports_are;
        lines_are = m.lines_are;
      })
  makes_more (Some step_kind) is trace lines m =
      let within : d.old.epoch ≤ epoch run = own_within root run past d.act d.old d.new w done may step_kind is in
      let now : d.old.epoch ≡ epoch run = omega arith in
      let s = step_of d.old step_kind d.new in
      let step = step_now root run past d.act d.old d.new w done may step_kind is now in
      let told : IsReportLine d.old.epoch (report_of root (current run) s) (line_given d.act) =
      on_step_kind (step_kind_of (length past) d.act) step_kind (λ c. IsReportLine d.old.epoch (report_of root (current run) (step_of d.old c d.new)) (line_given d.act)) is
      (tells root (current run) (length past) d.act d.old d.new done step.living) in
      let new = cons_option (report_of root (current run) s) [] in
      record {
        later = m.later;
        extends = m.extends;
        lawful = m.lawful;
        rest = new ++ m.rest;
        reports_are =
            m.reports_are
            ∙ (ap (λ (h : History). reports root h ++ m.rest) (current_made run d.old.epoch s now) ∙ append_assoc (reports root (current run)) new m.rest);
        lines_are =
            lines_more (report_of root (current run) s) (line_given d.act) lines m.rest
            (subst (λ (e : ℕ). IsReportLine e (report_of root (current run) s) (line_given d.act)) (now ∙ zero_epoch) told) m.lines_are;
      }

epoch_with : (o : Option StepKind) (d : Doing) (run : Run) → epoch (run_with o d run) ≡ epoch run
epoch_with None d run = refl
epoch_with (Some step_kind) d run = epoch_made run d.old.epoch (step_of d.old step_kind d.new)

calls_make : (root : Name) (account : Account) (n : ℕ) (run : Run) (past : Past) → n ≡ length past → epoch run ≡ 0 → Holds root run past → IsOfCalls account
    → AreHandedOver root run past account → Makes root run (traced n account) (lines_given account)
calls_make root [] n run past count none w calls handed =
    record { later = run; extends = refl; lawful = w.lawful; rest = []; reports_are = sym (append-nil (reports root (current run))); lines_are = tt }
calls_make root (Did d ∷ account) n run past count none w calls handed =
    let o = step_kind_of (length past) d.act in
    let on = call_on root run past d.act d.old d.new w handed.0 handed.1 o refl in
    let more : n + 1 ≡ length (d ∷ past) = omega arith in
    let rest = calls_make root account (n + 1) (run_with o d run) (d ∷ past) more (epoch_with o d run ∙ none) on.1 calls handed.2 in
    subst (λ (k : ℕ). Makes root run (steps_by (step_kind_of k d.act) d ++ traced (n + 1) account) (line_given d.act ++ lines_given account)) (sym count)
    (makes_more root run past d none w handed.0 handed.1 o refl (traced (n + 1) account) (lines_given account) rest)
calls_make root (Took call reply ∷ account) n run past count none w calls handed = absurd calls

pub steps_of_calls_are_lawful : StepsOfCallsAreLawful
steps_of_calls_are_lawful root account calls handed =
    let w = calls_make root account 0 [] [] refl first_epoch (first_holds root) calls handed in
    (w.later, w.extends, w.lawful, subst (AreLinesOf (lines_given account)) (sym (w.reports_are ∙ ap (λ (h : History). reports root h ++ w.rest) first_history)) w.lines_are)
