-- Which histories are lawful (this project's profile of interval tree clocks, 2008): every raise and every division of ids that
-- a process may make.
use Rattle.std.specs.Prelude.{◌≡◌, ◌≢◌, Some, None, [], ◌∷◌}
use Rattle.id_tree.specs.IdTree.{IdTree}
use Rattle.id_tree.specs.Points.{Point, owns, OwnsSome, AreDisjoint, AreTogether}
use Rattle.event_tree.specs.EventTree.{EventTree}
use Rattle.event_tree.specs.Grown.{IsGrown}
use Rattle.event_tree.specs.Join.{IsJoin}
use Rattle.report_line.specs.declared.step.StepKind.{StepKind}
use Rattle.report_line.specs.declared.step.StepKind.TheVariants.{Work, Check, Present, Send, Receive, Fork, Retire, Absorb}
use Rattle.report_line.specs.declared.step.Step.{Step}
use Rattle.report_line.specs.histories.History.{Name, Message, History, Event, Unborn, Living, Retired, status, sending}

-- the two own the same points
abbrev pub IsSameId : IdTree → IdTree → Type 0
IsSameId i j = (t : Point) → owns i t ≡ owns j t

-- the id stays, and the values grow from these
pub record IsOwnWork (before : Event) (from : EventTree) (s : Step) : Type 0 where
  pub same_id : IsSameId s.stamp.id before.id
  pub grown : IsGrown before.id from s.stamp.events

-- the message was sent earlier, and the values grow from the join of the process's own and the message's
pub record IsLawfulReceive (h : History) (before : Event) (s : Step) (m : Message) : Type 0 where
  pub sent : Event
  pub is_sent : sending h m ≡ Some sent
  pub joined : EventTree
  pub is_join : IsJoin before.values sent.values joined
  pub own : IsOwnWork before joined s

-- the process's id is split between it and a child of a new name, which starts with the process's values
pub record IsLawfulFork (root : Name) (h : History) (before : Event) (s : Step) (child : Name) (given : IdTree) : Type 0 where
  pub grown : IsGrown before.id before.values s.stamp.events
  pub new_name : status root h child ≡ Unborn
  pub not_root : child ≢ root
  pub disjoint : AreDisjoint s.stamp.id given
  pub not_empty : OwnsSome s.stamp.id
  pub child_not_empty : OwnsSome given
  pub together : AreTogether s.stamp.id given before.id

-- the process takes over the id of a process that retired into it, and joins its values to its own, grown ones
pub record IsLawfulAbsorption (root : Name) (h : History) (before : Event) (s : Step) (retired : Name) : Type 0 where
  pub retirement : Event
  pub into_this : status root h retired ≡ Retired retirement s.process
  pub between : EventTree
  pub grown : IsGrown before.id before.values between
  pub joined : IsJoin between retirement.values s.stamp.events
  pub disjoint : AreDisjoint before.id retirement.id
  pub together : AreTogether before.id retirement.id s.stamp.id

-- what each kind of step asks of a step `s` after the steps `h`, where `before` is the process's last event
abbrev pub IsAllowed : Name → History → Event → Step → StepKind → Type 0
IsAllowed root h before s Work = IsOwnWork before before.values s
IsAllowed root h before s Check = IsOwnWork before before.values s
IsAllowed root h before s Present = IsOwnWork before before.values s
IsAllowed root h before s (Send m) = IsOwnWork before before.values s × (sending h m ≡ None)
IsAllowed root h before s (Receive m) = IsLawfulReceive h before s m
IsAllowed root h before s (Fork child given) = IsLawfulFork root h before s child given
IsAllowed root h before s (Retire target) = IsOwnWork before before.values s × (target ≢ s.process)
IsAllowed root h before s (Absorb retired) = IsLawfulAbsorption root h before s retired

-- a history of one named root and its descendants, in which each step is one of a living process, and allowed
pub data IsLawful (root : Name) : History → Type 0 where
  start : IsLawful root []
  next : {h : History} {s : Step} {before : Event}
      → IsLawful root h → status root h s.process ≡ Living before → IsAllowed root h before s s.step_kind → IsLawful root (s ∷ h)
