-- The operations of stamps: interval tree clocks 2008, in this project's profile.
use Rattle.std.specs.Prelude.{◌≡◌, ◌≢◌, ◌<◌, ⊤}
use Rattle.id_tree.specs.IdTree.{IdTree, Zero}
use Rattle.id_tree.specs.Points.{AreDisjoint, AreTogether, Overlap as ShareSome}
use Rattle.id_tree.specs.NormalForm.{depth_limit}
use Rattle.id_tree.specs.Split.{left_part, right_part, parts_depth}
use Rattle.event_tree.specs.EventTree.{EventTree}
use Rattle.event_tree.specs.NormalForm.{IsNormal}
use Rattle.event_tree.specs.Join.{IsJoin}
use Rattle.event_tree.specs.Event.{IsEventStep, PassesLimit}
use Rattle.event_tree.specs.Grown.{IsGrown}
use Rattle.stamp.specs.declared.stamp.Stamp.{Stamp}
use Rattle.stamp.specs.declared.fault.StampFault.{StampFault}
use Rattle.stamp.specs.declared.fault.StampFault.TheVariants.{NothingOwned, ClockFull, TooDeep, Overlap, Memory}

-- an event: the id stays, and the events take their step
pub record IsEvent (s t : Stamp) : Type 0 where
  pub id : t.id ≡ s.id
  pub step : IsEventStep s.id s.events t.events

-- a fork: an event, and then a half of the id for each, both with the events after it
pub record IsFork (s l r : Stamp) : Type 0 where
  pub step : IsEventStep s.id s.events l.events
  pub same : r.events ≡ l.events
  pub left : l.id ≡ left_part s.id
  pub right : r.id ≡ right_part s.id

-- the normal tree that has the greater value at each point
pub record IsNormalJoin (e f g : EventTree) : Type 0 where
  pub join : IsJoin e f g
  pub normal : IsNormal g

-- a receive: the events are joined with those that came, and then an event, which raises what the id owns
pub record IsReceive (s : Stamp) (came : EventTree) (t : Stamp) : Type 0 where
  pub id : t.id ≡ s.id
  pub joined : EventTree
  pub is_join : IsNormalJoin s.events came joined
  pub step : IsEventStep s.id joined t.events
  pub grown : IsGrown s.id joined t.events

-- an absorption: an event on the own stamp, which raises what the id owns, and then the retired one joins it
pub record IsAbsorb (s retired t : Stamp) : Type 0 where
  pub after : EventTree
  pub step : IsEventStep s.id s.events after
  pub grown : IsGrown s.id s.events after
  pub join : IsJoin after retired.events t.events
  pub disjoint : AreDisjoint s.id retired.id
  pub together : AreTogether s.id retired.id t.id

-- ---- the faults, of which that of the event comes first; memory may be wanting for any

abbrev pub IsEventFault : StampFault → IdTree → EventTree → Type 0
IsEventFault NothingOwned i e = i ≡ Zero
IsEventFault ClockFull i e = (i ≢ Zero) × PassesLimit i e
IsEventFault TooDeep i e = ⊥
IsEventFault Overlap i e = ⊥
IsEventFault Memory i e = ⊤

abbrev pub IsForkFault : StampFault → Stamp → Type 0
IsForkFault NothingOwned s = s.id ≡ Zero
IsForkFault ClockFull s = (s.id ≢ Zero) × PassesLimit s.id s.events
IsForkFault TooDeep s = (s.id ≢ Zero) × (¬ PassesLimit s.id s.events) × (depth_limit < parts_depth s.id)
IsForkFault Overlap s = ⊥
IsForkFault Memory s = ⊤

abbrev pub IsReceiveFault : StampFault → Stamp → EventTree → Type 0
IsReceiveFault NothingOwned s came = s.id ≡ Zero
IsReceiveFault ClockFull s came = (joined : EventTree) × IsNormalJoin s.events came joined × (s.id ≢ Zero) × PassesLimit s.id joined
IsReceiveFault TooDeep s came = ⊥
IsReceiveFault Overlap s came = ⊥
IsReceiveFault Memory s came = ⊤

abbrev pub IsAbsorbFault : StampFault → Stamp → Stamp → Type 0
IsAbsorbFault NothingOwned s retired = s.id ≡ Zero
IsAbsorbFault ClockFull s retired = (s.id ≢ Zero) × PassesLimit s.id s.events
IsAbsorbFault TooDeep s retired = ⊥
IsAbsorbFault Overlap s retired = (s.id ≢ Zero) × (¬ PassesLimit s.id s.events) × ShareSome s.id retired.id
IsAbsorbFault Memory s retired = ⊤
