-- Working definitions: what the parts of a step answer.
use Rattle.std.specs.Prelude.{ℕ, ◌+◌, ◌≡◌, ◌≢◌, ◌⊎◌, ◌<◌, ◌≤◌, IsTrue, vec_len, vec_capacity, ◌∷◌, Option, Some, None, Result, Ok, Err, ⊤}
use Rattle.std.specs.Borrow.{Bor}
use Rattle.id_tree.specs.IdTree.{IdTree}
use Rattle.id_tree.specs.NormalForm.{IsId, depth_limit}
use Rattle.event_tree.specs.EventTree.{EventTree}
use Rattle.event_tree.specs.Event.{PassesLimit}
use Rattle.event_tree.specs.Grown.{IsGrown}
use Rattle.stamp.specs.declared.stamp.Stamp.{Stamp}
use Rattle.stamp.specs.Stamps.{IsStamp}
use Rattle.id_tree.specs.Split.{IsSplit, parts_depth}
use Rattle.stamp.specs.Operations.{IsEvent, IsFork, IsReceive, IsAbsorb, IsNormalJoin}
use Rattle.report_line.specs.histories.History.{Name, History, Event, Status, Unborn, Living, Retired, status, sending}
use Rattle.report_line.specs.declared.step.Step.{Step as Taken}
use Rattle.report_line.specs.histories.Lawful.{IsAllowed}
use Rattle.report_line.specs.histories.StepReports.{reporting_steps, report_of}
use Rattle.report_line.specs.declared.report.Report.{Report}
use Rattle.report_line.specs.declared.report.Report.TheVariants.{Begin, Numbered}
use Rattle.report_line.specs.declared.report.ReportKind.TheVariants as report_kinds
use Rattle.report_line.specs.declared.step.StepKind.{StepKind}
use Rattle.report_line.specs.declared.step.StepKind.TheVariants.{Fork, Retire, Absorb}
use Rattle.report_line.specs.Names.{is_name}
use Rattle.report_line.specs.Spelling.{AreFields}
use Rattle.law_admission.specs.HandedOver.{HasLine}
use Rattle.driver.specs.declared.step.StepRequest.{StepRequest}
use Rattle.driver.specs.declared.fault.StepFault.{StepFault}
use Rattle.driver.specs.declared.fault.StepFault.TheVariants as faults
use Rattle.driver.specs.declared.steps.Alive.{Alive}
use Rattle.driver.specs.declared.steps.NextReport.{NextReport}
use Rattle.driver.specs.declared.steps.ForkParts.{ForkParts}
use Rattle.indexmap.specs.IndexMap.{spare}
use Rattle.driver.specs.declared.tables.Tables.{Tables}
use Rattle.driver.specs.working.Made.{Made}
use Rattle.driver.specs.Stamping.{stamp_of, IsStamped}
use Rattle.driver.specs.Verdicts.{HasRetired, IsVerdict}
use Rattle.driver.specs.working.Tables.{Changes, IsMadeStep, AreSound, history_in}

-- the process lives: its stamp, and how many reports it made
pub record IsAlive (root : Name) (h : History) (p : Name) (a : Alive) : Type 0 where
  pub last : Event
  pub lives : status root h p ≡ Living last
  pub stamp : a.stamp.now ≡ stamp_of last
  pub reports : a.reports ≡ reporting_steps p h

-- it does not: it is not born, or it retired
abbrev pub IsNotAlive : Status → StepFault → Type 0
IsNotAlive now f = ((f ≡ faults.Unknown) × (now ≡ Unborn)) ⊎ ((f ≡ faults.Retired) × HasRetired now)

abbrev pub AliveTold : Name → History → Name → Result Alive StepFault → Type 0
AliveTold root h p (Ok a) = IsAlive root h p a
AliveTold root h p (Err f) = IsNotAlive (status root h p) f

-- an event, or a full clock
pub record IsEventMade (s t : Stamp) : Type 0 where
  pub event : IsEvent s t
  pub grown : IsGrown s.id s.events t.events
  pub fits : ¬ PassesLimit s.id s.events

abbrev pub EventTold : Stamp → Result Stamp StepFault → Type 0
EventTold s (Ok t) = IsEventMade s t
EventTold s (Err f) = (f ≡ faults.Memory) ⊎ ((f ≡ faults.ClockFull) × PassesLimit s.id s.events)

-- what a report at a stamp takes, the next one after so many
abbrev pub report_after : ℕ → Stamp → NextReport
report_after n t = record { number = n + 1; reported = t }

-- an event, and what its report takes
abbrev pub WorkTold : Stamp → ℕ → Result (Stamp × NextReport) StepFault → Type 0
WorkTold s n (Ok w) = IsEventMade s w.0 × (w.1 ≡ report_after n w.0)
WorkTold s n (Err f) = EventTold s (Err f)

-- what a fork takes whose report is the next one after so many, of an id, the stamp that is kept, the child and the part that it is given
abbrev pub parts_after : ℕ → IdTree → Stamp → Name → IdTree → ForkParts
parts_after n id kept child given = record {
  number = n + 1;
  reported = record { id = id; events = kept.events };
  action = report_kinds.Fork (record { kept = kept.id; child = child; given = given });
  given = given;
}

-- halves of an id after an event, or why there are none
pub record IsForkMade (s l r : Stamp) : Type 0 where
  pub fork : IsFork s l r
  pub split : IsSplit s.id l.id r.id
  pub grown : IsGrown s.id s.events l.events
  pub fits : ¬ PassesLimit s.id s.events
  pub shallow : ¬ (depth_limit < parts_depth s.id)

abbrev pub ForkTold : Stamp → Result (Stamp × Stamp) StepFault → Type 0
ForkTold s (Ok halves) = IsForkMade s halves.0 halves.1
ForkTold s (Err f) =
    (f ≡ faults.Memory) ⊎ (((f ≡ faults.ClockFull) × PassesLimit s.id s.events)
    ⊎ ((f ≡ faults.TooDeep) × (¬ PassesLimit s.id s.events) × (depth_limit < parts_depth s.id)))

-- an event on the join passes the limit
abbrev pub PassesJoined : Stamp → EventTree → Type 0
PassesJoined s came = (joined : EventTree) × IsNormalJoin s.events came joined × PassesLimit s.id joined

pub record IsReceiveMade (s : Stamp) (came : EventTree) (t : Stamp) : Type 0 where
  pub receive : IsReceive s came t
  pub fits : ¬ PassesJoined s came

abbrev pub ReceiveTold : Stamp → EventTree → Result Stamp StepFault → Type 0
ReceiveTold s came (Ok t) = IsReceiveMade s came t
ReceiveTold s came (Err f) = (f ≡ faults.Memory) ⊎ ((f ≡ faults.ClockFull) × PassesJoined s came)

pub record IsAbsorbMade (s retired t : Stamp) : Type 0 where
  pub absorb : IsAbsorb s retired t
  pub fits : ¬ PassesLimit s.id s.events

abbrev pub AbsorbTold : Stamp → Stamp → Result Stamp StepFault → Type 0
AbsorbTold s retired (Ok t) = IsAbsorbMade s retired t
AbsorbTold s retired (Err f) = (f ≡ faults.Memory) ⊎ ((f ≡ faults.ClockFull) × PassesLimit s.id s.events)

-- a message that was sent, or none
abbrev pub MessageTold : History → Name → Option (Bor EventTree) → Type 0
MessageTold h m None = sending h m ≡ None
MessageTold h m (Some came) = (sent : Event) × (sending h m ≡ Some sent) × (came.now ≡ sent.values)

-- a retirement into p that waits, or none
abbrev pub RetirementTold : Name → History → Name → Name → Option (Bor Stamp) → Type 0
RetirementTold root h p r None = (e : Event) → status root h r ≢ Retired e p
RetirementTold root h p r (Some s) = (e : Event) × (status root h r ≡ Retired e p) × (s.now ≡ stamp_of e)

-- the step that was asked is ready: stamped, allowed, and refused by no cause
pub record Makes (root : Name) (h : History) (p : Name) (request : StepRequest) (made : Made) : Type 0 where
  pub process : made.step.process ≡ p
  pub before : Event
  pub living : status root h p ≡ Living before
  pub stamped : IsStamped root h before request made.step
  pub allowed : IsAllowed root h before made.step made.step.step_kind
  pub verdict : IsVerdict root h p request None
  pub changes : IsMadeStep root h made

-- the same but for room
pub record IsSame (old new : Tables) : Type 0 where
  pub root : new.root ≡ old.root
  pub epoch : new.epoch ≡ old.epoch
  pub steps : new.steps.items ≡ old.steps.items
  pub known : new.known.entries ≡ old.known.entries
  pub messages : new.messages.entries ≡ old.messages.entries

-- there is room for one more step
pub record HasRoom (t : Tables) : Type 0 where
  pub steps : vec_len t.steps < vec_capacity t.steps
  pub known : 2 ≤ spare t.known
  pub messages : 0 < spare t.messages

-- the report of the step, if it makes one, has a line
abbrev pub HasLineOf : Name → History → Taken → Type 0
HasLineOf root h s = (r : Report) → report_of root h s ≡ Some r → HasLine r

-- what the parts of a step have that is kept: its names are names, and its trees are in normal form and within the limits
abbrev pub HasParts : StepKind → Type 0
HasParts (Fork c i) = IsTrue (is_name c) × IsId i
HasParts (Retire q) = IsTrue (is_name q)
HasParts (Absorb r) = IsTrue (is_name r)
HasParts _ = ⊤

-- the same of the whole step, and of the stamp before it
pub record HasWholeParts (s : Taken) (old : Stamp) : Type 0 where
  pub name : IsTrue (is_name s.process)
  pub stamp : IsStamp s.stamp
  pub step_kind : HasParts s.step_kind
  pub before : IsStamp old

-- a report that is counted from 1 has a line
abbrev pub HasLineIfCounted : Report → Type 0
HasLineIfCounted (Begin p) = IsTrue (is_name p)
HasLineIfCounted (Numbered r) = r.number ≢ 0 → AreFields r

-- the step may be added: its process lives, it is allowed, with it stands what it changes, and its report has a line
pub record IsReady (root : Name) (h : History) (made : Made) : Type 0 where
  pub before : Event
  pub living : status root h made.step.process ≡ Living before
  pub allowed : IsAllowed root h before made.step made.step.step_kind
  pub changes : Changes h made
  pub line : HasLineOf root h made.step

-- just this step was added
pub record Adds (old : Tables) (s : Taken) (new : Tables) : Type 0 where
  pub root : new.root ≡ old.root
  pub epoch : new.epoch ≡ old.epoch
  pub history : history_in new ≡ s ∷ history_in old
  pub sound : AreSound new
