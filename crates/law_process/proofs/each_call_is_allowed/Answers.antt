-- Each part stands in a file of its own: `Letting`, `Telling` and `Stepping`.
use Rattle.std.specs.Prelude.{◌≡◌, ◌∷◌, ℕ, Some}
use Rattle.std.proofs.Common.{◌∙◌, subst, sym}
use Rattle.report_line.specs.declared.step.StepKind.{StepKind}
use Rattle.report_line.specs.histories.History.{Name, History}
use Rattle.report_line.specs.histories.Lawful.{IsAllowed}
use Rattle.report_line.specs.histories.StepReports.{report_of}
use Rattle.process.specs.declared.process.Process.{Process}
use Rattle.law_process.specs.Accounts.{Doing, IsDone, step_kind_of}
use Rattle.law_process.specs.Obeying.{line_given}
use Rattle.law_process.specs.EachCall.{LivesAs, step_of, IsFrom, IsGiven, IsReportLine, IsAllowedCall}
use Rattle.law_process.proofs.Calls.{goes_on_is}
use Rattle.law_process.proofs.CallKinds.{on_step_kind}
use Rattle.law_process.proofs.Letting.{allowed}
use Rattle.law_process.proofs.Telling.{tells}
use Rattle.law_process.proofs.Stepping.{lives_next, gives_now}
use Rattle.law_process.proofs.Standing.{lives_on}
use Rattle.law_process.proofs.each_call_is_allowed.Goals as goal

each : (root : Name) (h : History) (n : ℕ) (d : Doing) (step_kind : StepKind) (w : LivesAs root h d.old) → IsDone d → step_kind_of n d.act ≡ Some step_kind → IsFrom root h n d.act d.old
    → IsAllowedCall root h n d step_kind w.event
each root h n d step_kind w does is from =
    let lets = allowed root h n d.act d.old d.new w.event does w.stamp from in
    let ok : IsAllowed root h w.event (step_of d.old step_kind d.new) step_kind = on_step_kind (step_kind_of n d.act) step_kind (λ c. IsAllowed root h w.event (step_of d.old c d.new) c) is lets in
    record {
      allowed = ok;
      told =
          on_step_kind (step_kind_of n d.act) step_kind (λ c. IsReportLine d.old.epoch (report_of root h (step_of d.old c d.new)) (line_given d.act)) is
          (tells root h n d.act d.old d.new does w);
      lives = λ s goes.
          subst (λ (p : Process). LivesAs root (step_of d.old step_kind d.new ∷ h) p) (sym (goes_on_is d.act d.new s goes))
          (on_step_kind (step_kind_of n d.act) step_kind (λ c. LivesAs root (step_of d.old c d.new ∷ h) d.new) is (lives_next root h n d.act d.old d.new s does w goes));
      gives = on_step_kind (step_kind_of n d.act) step_kind (λ c. IsGiven root (step_of d.old c d.new ∷ h) n d.act) is (gives_now root h n d.act d.old d.new w.event does w.lives lets);
      others = λ s differs there. lives_on root h w.event (step_of d.old step_kind d.new) s w.lives ok differs there;
    }

pub returns-clause-allowed : goal.returns-clause-allowed
returns-clause-allowed c = each

pub returns-clause-again : goal.returns-clause-again
returns-clause-again c = λ h n p sent again hands was. (was.0, was.1, was.2 ∙ sym hands.events)
