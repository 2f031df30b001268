-- Why calls are refused: of the faults that apply the first of their list is answered, and memory may be wanting for any.
use Rattle.std.specs.Prelude.{◌≡◌, ◌≢◌, ◌⊎◌, ℕ, ◌^◌, ◌-◌, ◌<◌, ◌≤◌, ⊤}
use Rattle.stamp.specs.declared.stamp.Stamp.{Stamp}
use Rattle.stamp.specs.Operations.{IsEventFault, IsForkFault, IsReceiveFault, IsAbsorbFault}
use Rattle.stamp.specs.declared.fault.StampFault.{StampFault}
use Rattle.stamp.specs.declared.fault.StampFault.TheVariants as stamps
use Rattle.id_tree.specs.IdTree.{Zero}
use Rattle.event_tree.specs.Event.{PassesLimit}
use Rattle.event_tree.specs.Values.{IsAtOrBelow}
use Rattle.process.specs.Leaves.{HasRoomFor}
use Rattle.report_line.specs.histories.History.{Name}
use Rattle.process.specs.declared.fault.ProcessFault.{ProcessFault}
use Rattle.process.specs.declared.fault.ProcessFault.TheVariants as faults
use Rattle.process.specs.declared.handed.Message.{Message}
use Rattle.process.specs.declared.handed.Retirement.{Retirement}
use Rattle.process.specs.declared.process.Process.{Process}

-- the greatest number that a report can have was given
abbrev pub IsWorn : Process → Type 0
IsWorn p = p.reports ≡ 2 ^ 32 - 1

-- an event on the stamp is refused
abbrev pub RefusesEvent : ProcessFault → Stamp → Type 0
RefusesEvent faults.NothingOwned s = IsEventFault stamps.NothingOwned s.id s.events
RefusesEvent faults.ClockFull s = IsEventFault stamps.ClockFull s.id s.events
RefusesEvent faults.Memory s = ⊤
RefusesEvent _ s = ⊥

-- a report is refused: no number is left, or the event is refused
abbrev pub RefusesReport : ProcessFault → Process → Type 0
RefusesReport faults.Worn p = IsWorn p
RefusesReport faults.Memory p = ⊤
RefusesReport fault p = (¬ IsWorn p) × RefusesEvent fault p.stamp

-- a receipt is refused, in this epoch and with this stamp
abbrev pub RefusesReceipt : ProcessFault → ℕ → Stamp → Message → Type 0
RefusesReceipt faults.Older epoch s m = m.epoch < epoch
RefusesReceipt faults.Newer epoch s m = epoch < m.epoch
RefusesReceipt faults.NothingOwned epoch s m = (m.epoch ≡ epoch) × IsReceiveFault stamps.NothingOwned s m.events
RefusesReceipt faults.ClockFull epoch s m = (m.epoch ≡ epoch) × IsReceiveFault stamps.ClockFull s m.events
RefusesReceipt faults.Memory epoch s m = ⊤
RefusesReceipt _ epoch s m = ⊥

-- a message is not handed over once more: it is of a newer epoch, or tells what the process does not know
abbrev pub RefusesAgain : ProcessFault → Process → Message → Type 0
RefusesAgain faults.Newer p m = p.epoch < m.epoch
RefusesAgain faults.NotKnown p m = (¬ (p.epoch < m.epoch)) × ¬ IsAtOrBelow m.events p.stamp.events
RefusesAgain faults.Memory p m = ⊤
RefusesAgain _ p m = ⊥

-- a stamp is not parted by halves
abbrev pub RefusesHalves : ProcessFault → Stamp → Type 0
RefusesHalves faults.NothingOwned s = IsForkFault stamps.NothingOwned s
RefusesHalves faults.ClockFull s = IsForkFault stamps.ClockFull s
RefusesHalves faults.TooDeep s = IsForkFault stamps.TooDeep s
RefusesHalves faults.Memory s = ⊤
RefusesHalves _ s = ⊥

-- a fork by halves is refused
abbrev pub RefusesFork : ProcessFault → Process → Name → Type 0
RefusesFork faults.Taken p child = child ≡ p.name
RefusesFork faults.Worn p child = (child ≢ p.name) × IsWorn p
RefusesFork faults.Memory p child = ⊤
RefusesFork fault p child = (child ≢ p.name) × (¬ IsWorn p) × RefusesHalves fault p.stamp

-- no event is counted on a stamp, or no leaf of this depth is cut off its id
abbrev pub RefusesCarved : ProcessFault → Stamp → ℕ → Type 0
RefusesCarved faults.NothingOwned s depth = IsEventFault stamps.NothingOwned s.id s.events
RefusesCarved faults.ClockFull s depth = IsEventFault stamps.ClockFull s.id s.events
RefusesCarved faults.TooDeep s depth = (s.id ≢ Zero) × (¬ PassesLimit s.id s.events) × ¬ HasRoomFor s.id depth
RefusesCarved faults.Memory s depth = ⊤
RefusesCarved _ s depth = ⊥

-- a fork that gives a leaf of this depth is refused
abbrev pub RefusesLeaf : ProcessFault → Process → Name → ℕ → Type 0
RefusesLeaf faults.Taken p child depth = child ≡ p.name
RefusesLeaf faults.Worn p child depth = (child ≢ p.name) × IsWorn p
RefusesLeaf faults.Memory p child depth = ⊤
RefusesLeaf fault p child depth = (child ≢ p.name) × (¬ IsWorn p) × RefusesCarved fault p.stamp depth

-- a retirement is refused
abbrev pub RefusesRetirement : ProcessFault → Process → Name → Type 0
RefusesRetirement faults.SelfTarget p target = target ≡ p.name
RefusesRetirement faults.Memory p target = ⊤
RefusesRetirement fault p target = (target ≢ p.name) × RefusesReport fault p

-- a stamp is not absorbed
abbrev pub RefusesSum : ProcessFault → Stamp → Stamp → Type 0
RefusesSum faults.NothingOwned s retired = IsAbsorbFault stamps.NothingOwned s retired
RefusesSum faults.ClockFull s retired = IsAbsorbFault stamps.ClockFull s retired
RefusesSum faults.Overlap s retired = IsAbsorbFault stamps.Overlap s retired
RefusesSum faults.Memory s retired = ⊤
RefusesSum _ s retired = ⊥

-- an absorption of a retirement that is for this process, and of the right epoch, is refused: no number is left, or its stamp is refused
abbrev pub RefusesStamp : ProcessFault → Process → Retirement → Type 0
RefusesStamp faults.Worn p r = IsWorn p
RefusesStamp faults.Memory p r = ⊤
RefusesStamp fault p r = (¬ IsWorn p) × RefusesSum fault p.stamp r.stamp

-- the retirement is another process's, into this one
abbrev pub IsForThis : Process → Retirement → Type 0
IsForThis p r = (r.target ≡ p.name) × (r.process ≢ p.name)

-- an absorption is refused: the retirement is not for this process, or of another epoch, or its stamp is refused
abbrev pub RefusesAbsorption : ProcessFault → Process → Retirement → Type 0
RefusesAbsorption faults.NotWaiting p r = ¬ IsForThis p r
RefusesAbsorption faults.Older p r = IsForThis p r × (r.epoch < p.epoch)
RefusesAbsorption faults.Newer p r = IsForThis p r × (p.epoch < r.epoch)
RefusesAbsorption faults.Memory p r = ⊤
RefusesAbsorption fault p r = IsForThis p r × (r.epoch ≡ p.epoch) × RefusesStamp fault p r

-- the same of a retirement that settlements kept, which may be of an older epoch
abbrev pub RefusesKept : ProcessFault → Process → Retirement → Type 0
RefusesKept faults.NotWaiting p r = ¬ IsForThis p r
RefusesKept faults.Newer p r = IsForThis p r × (p.epoch < r.epoch)
RefusesKept faults.Memory p r = ⊤
RefusesKept fault p r = IsForThis p r × (¬ (p.epoch < r.epoch)) × RefusesStamp fault p r

-- a return of the process to what was kept is refused: it has this epoch or a later one, or what was kept has; or that is another process's
abbrev pub RefusesReturn : ProcessFault → Process → Process → ℕ → Type 0
RefusesReturn faults.Older p kept epoch = (epoch ≤ p.epoch) ⊎ (epoch ≤ kept.epoch)
RefusesReturn faults.OtherProcess p kept epoch = (p.epoch < epoch) × (kept.epoch < epoch) × (kept.name ≢ p.name)
RefusesReturn _ p kept epoch = ⊥

-- the fault of a stamp as that of a process
abbrev pub fault_of : StampFault → ProcessFault
fault_of stamps.NothingOwned = faults.NothingOwned
fault_of stamps.ClockFull = faults.ClockFull
fault_of stamps.TooDeep = faults.TooDeep
fault_of stamps.Overlap = faults.Overlap
fault_of stamps.Memory = faults.Memory
