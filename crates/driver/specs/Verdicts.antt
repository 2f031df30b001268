-- Which cause refuses a step, if one does.
use Rattle.std.specs.Prelude.{◌≡◌, ◌≢◌, ◌⊎◌, ◌<◌, Option, Some, None, ⊤}
use Rattle.id_tree.specs.NormalForm.{depth_limit}
use Rattle.id_tree.specs.Split.{parts_depth}
use Rattle.event_tree.specs.EventTree.{EventTree}
use Rattle.event_tree.specs.Event.{PassesLimit}
use Rattle.stamp.specs.Operations.{IsNormalJoin}
use Rattle.report_line.specs.histories.History.{Name, History, Event, Status, Unborn, Living, Retired, Absorbed, status, sending}
use Rattle.driver.specs.declared.step.StepRequest.{StepRequest}
use Rattle.driver.specs.declared.step.StepRequest.TheVariants.{Send, Receive, Fork, Retire, Absorb}
use Rattle.driver.specs.declared.fault.StepFault.{StepFault}
use Rattle.driver.specs.declared.fault.StepFault.TheVariants as faults

-- One test: where it applies, this is the fault; elsewhere the later tests decide.
abbrev pub Refuses : Type 0 → StepFault → Option StepFault → Type 0 → Type 0
Refuses applies fault answer later = (applies × (answer ≡ Some fault)) ⊎ ((¬ applies) × later)

-- the target of a retirement is not born
abbrev pub HasNoTarget : Name → History → StepRequest → Type 0
HasNoTarget root h (Retire q) = status root h q ≡ Unborn
HasNoTarget root h _ = ⊥

-- the process is not born, or the target is not
abbrev pub IsUnknown : Name → History → Name → StepRequest → Type 0
IsUnknown root h p request = (status root h p ≡ Unborn) ⊎ HasNoTarget root h request

-- it retired, and was perhaps absorbed
abbrev pub HasRetired : Status → Type 0
HasRetired (Retired last into) = ⊤
HasRetired Absorbed = ⊤
HasRetired _ = ⊥

-- a retirement of the process into itself
abbrev pub HasItself : Name → StepRequest → Type 0
HasItself p (Retire q) = q ≡ p
HasItself p _ = ⊥

-- the name of the child, or of the message, is known
abbrev pub HasTakenName : Name → History → StepRequest → Type 0
HasTakenName root h (Send m) = sending h m ≢ None
HasTakenName root h (Fork c) = status root h c ≢ Unborn
HasTakenName root h _ = ⊥

-- the message was not sent
abbrev pub HasNoMessage : History → StepRequest → Type 0
HasNoMessage h (Receive m) = sending h m ≡ None
HasNoMessage h _ = ⊥

-- no retirement of this process into p waits
abbrev pub HasNoRetirement : Name → History → Name → StepRequest → Type 0
HasNoRetirement root h p (Absorb r) = (e : Event) → status root h r ≢ Retired e p
HasNoRetirement root h p _ = ⊥

-- the event would make a value above the limit
abbrev pub IsFullFor : History → Event → StepRequest → Type 0
IsFullFor h e (Receive m) =
    (sent : Event) × (joined : EventTree) × (sending h m ≡ Some sent) × IsNormalJoin e.values sent.values joined × PassesLimit e.id joined
IsFullFor h e _ = PassesLimit e.id e.values

abbrev pub IsClockFull : History → Status → StepRequest → Type 0
IsClockFull h (Living e) request = IsFullFor h e request
IsClockFull h _ request = ⊥

-- a part of the id would be too deep
abbrev pub IsTooDeep : Status → StepRequest → Type 0
IsTooDeep (Living e) (Fork c) = depth_limit < parts_depth e.id
IsTooDeep _ _ = ⊥

-- The tests stand in their order, and the first that applies decides; want of memory is set aside.
abbrev pub IsVerdict : Name → History → Name → StepRequest → Option StepFault → Type 0
IsVerdict root h p request answer =
    Refuses (IsUnknown root h p request) faults.Unknown answer
    (Refuses (HasRetired (status root h p)) faults.Retired answer
    (Refuses (HasItself p request) faults.SelfTarget answer
    (Refuses (HasTakenName root h request) faults.Taken answer
    (Refuses (HasNoMessage h request) faults.NoMessage answer
    (Refuses (HasNoRetirement root h p request) faults.NotWaiting answer
    (Refuses (IsClockFull h (status root h p) request) faults.ClockFull answer
    (Refuses (IsTooDeep (status root h p) request) faults.TooDeep answer
    (answer ≡ None))))))))
