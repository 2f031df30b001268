-- One call, over any history in which its process lives: its step is allowed, and its line is the report of that step.
use Rattle.std.specs.Prelude.{◌≡◌, ◌≢◌, ℕ, Option, Some, None, List, [], ◌∷◌, ⊤}
use Rattle.report_line.specs.declared.call.Call.TheVariants as calls
use Rattle.report_line.specs.declared.report.Report.{Report}
use Rattle.report_line.specs.declared.step.StepKind.{StepKind}
use Rattle.report_line.specs.declared.step.Step.{Step}
use Rattle.report_line.specs.histories.History.{Name, History, Event, Unborn, Living, Retired, status, sending}
use Rattle.report_line.specs.histories.Lawful.{IsAllowed}
use Rattle.report_line.specs.Reading.{Spells}
use Rattle.report_line.specs.histories.StepReports.{report_of, reporting_steps}
use Rattle.process.specs.declared.process.Process.{Process}
use Rattle.process.specs.declared.handed.Message.{Message}
use Rattle.process.specs.declared.handed.Retirement.{Retirement}
use Rattle.process.specs.Steps.{HandsOver}
use Rattle.law_process.specs.Accounts.{Act, Send, Receive, Fork, Retire, Absorb, Doing, IsDone, step_kind_of, begun_by}
use Rattle.law_process.specs.Handing.{stamp_of, goes_on}
use Rattle.law_process.specs.Obeying.{line_given}

-- it lives by an event that left it so, and made as many reports
pub record LivesAs (root : Name) (h : History) (s : Process) : Type 0 where
  pub event : Event
  pub lives : status root h s.name ≡ Living event
  pub stamp : stamp_of event ≡ s.stamp
  pub reports : s.reports ≡ reporting_steps s.name h

-- the step of a call
abbrev pub step_of : Process → StepKind → Process → Step
step_of old step_kind new = record { process = old.name; step_kind = step_kind; stamp = new.stamp }

-- the message of this call is sent, with what it tells
abbrev pub IsSent : History → ℕ → Message → Type 0
IsSent h n m = (x : Event) × (sending h (n ∷ []) ≡ Some x) × (x.values ≡ m.events)

-- who left the retirement waits for its target, by an event with its stamp
abbrev pub Waits : Name → History → Retirement → Type 0
Waits root h r = (y : Event) × (status root h r.process ≡ Retired y r.target) × (stamp_of y ≡ r.stamp)

-- What the history has of what a call takes or names: a message that a call sends is new, one that it receives was sent; the name of a child
-- is new; and who is absorbed waits for that.
abbrev pub IsFrom : Name → History → ℕ → Act → Process → Type 0
IsFrom root h n (Send message) old = sending h (n ∷ []) ≡ None
IsFrom root h n (Receive from message) old = IsSent h from message
IsFrom root h n (Fork start line) old = (start.child ≢ root) × (status root h start.child ≡ Unborn)
IsFrom root h n (Absorb from retirement line) old = Waits root h retirement
IsFrom root h n act old = ⊤

-- What a call gives out is of the history then: the message is sent, the child lives as its start says, and who retired waits for the target.
abbrev pub IsGiven : Name → History → ℕ → Act → Type 0
IsGiven root h n (Send message) = IsSent h n message
IsGiven root h n (Fork start line) = LivesAs root h (begun_by start)
IsGiven root h n (Retire target retirement line) = Waits root h retirement
IsGiven root h n act = ⊤

-- There is one line where there is a report, and it is read as this report of this epoch.
abbrev pub IsReportLine : ℕ → Option Report → List (List ℕ) → Type 0
IsReportLine e o [] = o ≡ None
IsReportLine e o (line ∷ []) = (r : Report) × (o ≡ Some r) × Spells (calls.Report (record { epoch = e; report = r })) line
IsReportLine e o (line ∷ other ∷ lines) = ⊥

-- The step is allowed from the process's last event; its line is that of the report; and the process lives on as the call left it, if it does.
pub record IsAllowedCall (root : Name) (h : History) (n : ℕ) (d : Doing) (step_kind : StepKind) (before : Event) : Type 0 where
  pub allowed : IsAllowed root h before (step_of d.old step_kind d.new) step_kind
  pub told : IsReportLine d.old.epoch (report_of root h (step_of d.old step_kind d.new)) (line_given d.act)
  pub lives : (s : Process) → goes_on d.act d.new ≡ Some s → LivesAs root (step_of d.old step_kind d.new ∷ h) s
  pub gives : IsGiven root (step_of d.old step_kind d.new ∷ h) n d.act
  pub others : (s : Process) → s.name ≢ d.old.name → LivesAs root h s → LivesAs root (step_of d.old step_kind d.new ∷ h) s

abbrev pub EachCallIsAllowed : Type 0
EachCallIsAllowed =
    (root : Name) (h : History) (n : ℕ) (d : Doing) (step_kind : StepKind) (w : LivesAs root h d.old) → IsDone d → step_kind_of n d.act ≡ Some step_kind → IsFrom root h n d.act d.old
    → IsAllowedCall root h n d step_kind w.event

-- A message that is handed over once more is sent where the one that was handed in is: it may be received over the same histories.
abbrev pub HandedOverIsSent : Type 0
HandedOverIsSent = (h : History) (n : ℕ) (p : Process) (sent again : Message) → HandsOver p sent again → IsSent h n sent → IsSent h n again
