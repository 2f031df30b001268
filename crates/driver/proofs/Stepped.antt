-- A step that was made and added is taken as it was asked.
use Rattle.std.proofs.Common.{◌≡◌, ◌≢◌, ℕ, ◌∷◌, Option, Some, None, Ok, Err, refl, ◌∙◌, ap, subst}
use Rattle.stamp.specs.declared.stamp.Stamp.{Stamp}
use Rattle.report_line.specs.declared.report.ReportKind.{ReportKind}
use Rattle.report_line.specs.declared.report.Report.{Report}
use Rattle.report_line.specs.declared.step.StepKind.{StepKind}
use Rattle.report_line.specs.histories.History.{Name, History, status}
use Rattle.report_line.specs.histories.StepReports.{report_of}
use Rattle.driver.specs.declared.step.Step.{Step}
use Rattle.driver.specs.declared.step.StepRequest.{StepRequest}
use Rattle.driver.specs.declared.tables.Tables.{Tables}
use Rattle.driver.specs.declared.tables.Other.{Other}
use Rattle.driver.specs.working.Made.{Made, step_of, numbered_report, silently, openly}
use Rattle.driver.specs.working.Tables.{AreSound, history_in}
use Rattle.driver.specs.Verdicts.{IsVerdict}
use Rattle.driver.specs.declared.fault.StepFault.{StepFault}
use Rattle.driver.specs.declared.fault.StepFault.TheVariants as faults
use Rattle.driver.specs.working.Making.{Makes, IsSame, IsReady, HasLineIfCounted, Adds}
use Rattle.driver.specs.working.Stepping.{IsStepTaken}
use Rattle.driver.proofs.GoingOver.{ready_still}
use Rattle.driver.proofs.Lined.{ready_made}

same_history : (old new : Tables) → IsSame old new → history_in new ≡ history_in old
same_history old new same = rw same.steps refl

-- the report has no part in what is added
unreported : (root : Name) (h : History) (made : Made) → IsReady root h made
    → IsReady root h (record { step = made.step; reports = made.reports; other = made.other; report = None })
unreported root h made ready = record {
  before = ready.before;
  living = ready.living;
  allowed = ready.allowed;
  changes = record { reports = ready.changes.reports; other = ready.changes.other };
  line = ready.line;
}

pub silently_ready : (old middle : Tables) (p x : Name) (request : StepRequest) (d : StepKind) (t : Stamp) (n : ℕ) → Makes old.root (history_in old) p request (silently p d t n)
    → IsSame old middle → x ≡ p
    → IsReady middle.root (history_in middle) (record { step = step_of x d t; reports = n; other = None; report = None })
silently_ready old middle p x request d t n makes same is_x =
    rw is_x (ready_still old middle (silently p d t n) same (ready_made old.root (history_in old) p request (silently p d t n) makes (λ r none. absurd cc)))

pub openly_ready : (old middle : Tables) (p x y : Name) (request : StepRequest) (d : StepKind) (t : Stamp) (other : Option Other) (n : ℕ) (reported : Stamp) (a : ReportKind)
    → Makes old.root (history_in old) p request (openly p d t other n reported a) → HasLineIfCounted (numbered_report y n reported a) → IsSame old middle → x ≡ p → y ≡ p
    → IsReady middle.root (history_in middle) (record { step = step_of x d t; reports = n; other = other; report = None })
openly_ready old middle p x y request d t other n reported a makes line same is_x is_y =
    rw is_x (unreported middle.root (history_in middle) (openly p d t other n reported a)
    (ready_still old middle (openly p d t other n reported a) same
    (ready_made old.root (history_in old) p request (openly p d t other n reported a) makes
    (λ r is. subst HasLineIfCounted (ap (λ (z : Name). numbered_report z n reported a) is_y ∙ some_report r is) line))))
  where
    some_report : (r : Report) → Some (numbered_report p n reported a) ≡ Some r → numbered_report p n reported a ≡ r
    some_report r is = cc

step_taken : (old middle new : Tables) (asked : Step) (made : Made) (given : Option Report) → Makes old.root (history_in old) asked.process asked.request made → IsSame old middle
    → Adds middle made.step new → given ≡ made.report → IsStepTaken old asked new (Ok given)
step_taken old middle new asked made given makes same added is =
    let root : new.root ≡ old.root = added.root ∙ same.root in
    let history : history_in new ≡ made.step ∷ history_in old = added.history ∙ ap (λ (h : History). made.step ∷ h) (same_history old middle same) in
    let report : given ≡ report_of old.root (history_in old) made.step = is ∙ makes.changes.report in
    record {
      sound = added.sound;
      step = record {
        step = made.step;
        asked = record {
          process = makes.process;
          before = makes.before;
          living = ap (status old.root (history_in old)) makes.process ∙ makes.living;
          stamped = makes.stamped;
        };
        root = root;
        epoch = added.epoch ∙ same.epoch;
        history = history;
        lawful = added.sound.lawful;
        report = report;
      };
      reports = rw (root, history, report) refl;
      accepted = makes.verdict;
      refused = tt;
      unchanged = tt;
    }

pub silently_taken : (old middle new : Tables) (asked : Step) (x : Name) (d : StepKind) (t : Stamp) (n : ℕ)
    → Makes old.root (history_in old) asked.process asked.request (silently asked.process d t n) → IsSame old middle → x ≡ asked.process → Adds middle (step_of x d t) new
    → IsStepTaken old asked new (Ok None)
silently_taken old middle new asked x d t n makes same is_x added =
    step_taken old middle new asked (silently asked.process d t n) None makes same (subst (λ (z : Name). Adds middle (step_of z d t) new) is_x added) refl

pub openly_taken : (old middle new : Tables) (asked : Step) (x y : Name) (d : StepKind) (t : Stamp) (other : Option Other) (n : ℕ) (reported : Stamp) (a : ReportKind)
    → Makes old.root (history_in old) asked.process asked.request (openly asked.process d t other n reported a) → IsSame old middle → x ≡ asked.process → y ≡ asked.process
    → Adds middle (step_of x d t) new → IsStepTaken old asked new (Ok (Some (numbered_report y n reported a)))
openly_taken old middle new asked x y d t other n reported a makes same is_x is_y added =
    step_taken old middle new asked (openly asked.process d t other n reported a) (Some (numbered_report y n reported a)) makes same
    (subst (λ (z : Name). Adds middle (step_of z d t) new) is_x added) (ap (λ (z : Name). Some (numbered_report z n reported a)) is_y)

-- a step that is refused leaves all as it was
pub step_refused : (old : Tables) (asked : Step) (request : StepRequest) (fault : StepFault) → AreSound old → asked.request ≡ request → (fault ≢ faults.Memory → IsVerdict old.root (history_in old) asked.process request (Some fault))
    → IsStepTaken old asked old (Err fault)
step_refused old asked request fault sound is refused = record {
  sound = sound;
  step = tt;
  reports = tt;
  accepted = tt;
  refused = rw is refused;
  unchanged = refl;
}
