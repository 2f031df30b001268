-- The rules for a step, said of the events that occurred: the same rules as `IsAllowed`, which looks them up.
use Rattle.std.specs.Prelude.{◌≡◌, ◌≤◌, ◌≢◌, ◌↔◌, Some, ◌∷◌}
use Rattle.id_tree.specs.IdTree.{IdTree}
use Rattle.id_tree.specs.Points.{OwnsSome, AreDisjoint, AreTogether}
use Rattle.event_tree.specs.EventTree.{EventTree}
use Rattle.event_tree.specs.Grown.{IsGrown}
use Rattle.event_tree.specs.Join.{IsJoin}
use Rattle.report_line.specs.declared.step.StepKind.{StepKind}
use Rattle.report_line.specs.declared.step.StepKind.TheVariants.{Work, Check, Present, Send, Receive, Fork, Retire, Absorb}
use Rattle.report_line.specs.declared.step.Step.{Step}
use Rattle.report_line.specs.histories.History.{Name, Message, History, Does, Event, Unborn, Living, Retired, Absorbed, status, sending}
use Rattle.report_line.specs.histories.Lawful.{IsOwnWork, IsLawful}
use Rattle.report_line.specs.histories.Events.{Occurs}

-- The process lives, and this is its newest event.
pub record IsNewest (root : Name) (h : History) (p : Name) (x : Event) : Type 0 where
  pub occurs : Occurs root h x
  pub of_process : x.process ≡ p
  pub newest : (y : Event) → Occurs root h y → y.process ≡ p → y.number ≤ x.number
  pub not_retired : (q : Name) → x.kind ≢ Does (Retire q)

-- The process has no event.
abbrev pub IsNew : Name → History → Name → Type 0
IsNew root h p = (x : Event) → Occurs root h x → x.process ≢ p

-- Nobody did this.
abbrev pub IsNeverDone : Name → History → StepKind → Type 0
IsNeverDone root h a = (x : Event) → Occurs root h x → x.kind ≢ Does a

-- A fork splits the process's id between it and a child of a new name, which starts with the process's values.
pub record Forks (root : Name) (h : History) (before : Event) (s : Step) (child : Name) (given : IdTree) : Type 0 where
  pub grown : IsGrown before.id before.values s.stamp.events
  pub new_name : IsNew root h child
  pub not_root : child ≢ root
  pub disjoint : AreDisjoint s.stamp.id given
  pub not_empty : OwnsSome s.stamp.id
  pub child_not_empty : OwnsSome given
  pub together : AreTogether s.stamp.id given before.id

-- An absorption takes over the id and the values of a process that retired into this one and was not absorbed.
pub record Absorbs (root : Name) (h : History) (before : Event) (s : Step) (retired : Name) : Type 0 where
  pub retirement : Event
  pub occurs : Occurs root h retirement
  pub of_retired : retirement.process ≡ retired
  pub into_this : retirement.kind ≡ Does (Retire s.process)
  pub not_absorbed : IsNeverDone root h (Absorb retired)
  pub between : EventTree
  pub grown : IsGrown before.id before.values between
  pub joined : IsJoin between retirement.values s.stamp.events
  pub disjoint : AreDisjoint before.id retirement.id
  pub together : AreTogether before.id retirement.id s.stamp.id

-- What each action asks of a step `s` after the steps `h`, where `before` is the process's newest event. What is received
-- was sent by an event of `h`, and what is absorbed retired by one.
abbrev pub Obeys : Name → History → Event → Step → StepKind → Type 0
Obeys root h before s Work = IsOwnWork before before.values s
Obeys root h before s Check = IsOwnWork before before.values s
Obeys root h before s Present = IsOwnWork before before.values s
Obeys root h before s (Send m) = IsOwnWork before before.values s × IsNeverDone root h (Send m)
Obeys root h before s (Receive m) =
    (sent : Event) × Occurs root h sent × (sent.kind ≡ Does (Send m)) × ((joined : EventTree) × IsJoin before.values sent.values joined × IsOwnWork before joined s)
Obeys root h before s (Fork child given) = Forks root h before s child given
Obeys root h before s (Retire target) = IsOwnWork before before.values s × (target ≢ s.process)
Obeys root h before s (Absorb retired) = Absorbs root h before s retired

-- After a lawful history a step keeps it lawful exactly where its process lives and it obeys the rules.
abbrev pub RulesAreTheLaw : Type 0
RulesAreTheLaw =
    (root : Name) (h : History) (s : Step) → IsLawful root h
    → IsLawful root (s ∷ h) ↔ ((before : Event) × IsNewest root h s.process before × Obeys root h before s s.step_kind)

-- This retirement of the process into that one was not absorbed.
pub record IsWaiting (root : Name) (h : History) (p into : Name) (x : Event) : Type 0 where
  pub occurs : Occurs root h x
  pub of_process : x.process ≡ p
  pub retires : x.kind ≡ Does (Retire into)
  pub not_absorbed : IsNeverDone root h (Absorb p)

-- What is looked up is what it seems to be: who is not born has no event; a process lives by its newest event; one that waits
-- to be absorbed retired by that event; an absorbed one was absorbed; and a message carries the values of the event that sent it.
pub record LookUpsAreEvents (root : Name) (h : History) : Type 0 where
  pub unborn : (p : Name) → (status root h p ≡ Unborn) ↔ IsNew root h p
  pub living : (p : Name) (x : Event) → (status root h p ≡ Living x) ↔ IsNewest root h p x
  pub retired : (p into : Name) (x : Event) → (status root h p ≡ Retired x into) ↔ IsWaiting root h p into x
  pub absorbed : (p : Name) → (status root h p ≡ Absorbed) ↔ ((x : Event) × Occurs root h x × (x.kind ≡ Does (Absorb p)))
  pub sent : (m : Message) (x : Event) → (sending h m ≡ Some x) ↔ (Occurs root h x × (x.kind ≡ Does (Send m)))
