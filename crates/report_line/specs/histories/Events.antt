-- The events of a history, the edges between them, and what is in the past of an event.
use Rattle.std.specs.Prelude.{◌≡◌, Some, [], ◌∷◌}
use Rattle.id_tree.specs.IdTree.{IdTree}
use Rattle.report_line.specs.declared.step.StepKind.TheVariants.{Receive, Fork, Absorb}
use Rattle.report_line.specs.declared.step.Step.{Step}
use Rattle.report_line.specs.histories.History.{Name, Message, History, Event, birth_of_root, event_of, birth_by, Living, Retired, status, sending}

-- the events of a history
pub data Occurs (root : Name) : History → Event → Type 0 where
  root_birth : Occurs root [] (birth_of_root root)
  step : {h : History} {s : Step} → Occurs root (s ∷ h) (event_of h s)
  birth : {h : History} {s : Step} {child : Name} {given : IdTree}
      → s.step_kind ≡ Fork child given → Occurs root (s ∷ h) (birth_by h s child given)
  earlier : {h : History} {s : Step} {x : Event} → Occurs root h x → Occurs root (s ∷ h) x

-- the edges of a history: those that the newest step adds, and the earlier ones
pub data Edge (root : Name) : History → Event → Event → Type 0 where
  -- from the last event of a process to its next one
  to_next : {h : History} {s : Step} {last : Event}
      → status root h s.process ≡ Living last → Edge root (s ∷ h) last (event_of h s)
  -- from a fork to the birth
  to_birth : {h : History} {s : Step} {child : Name} {given : IdTree}
      → s.step_kind ≡ Fork child given → Edge root (s ∷ h) (event_of h s) (birth_by h s child given)
  -- from a send to each receive of its message
  to_receive : {h : History} {s : Step} {m : Message} {sent : Event}
      → s.step_kind ≡ Receive m → sending h m ≡ Some sent → Edge root (s ∷ h) sent (event_of h s)
  -- from a retirement to its absorption
  to_absorption : {h : History} {s : Step} {retired : Name} {retirement : Event}
      → s.step_kind ≡ Absorb retired → status root h retired ≡ Retired retirement s.process → Edge root (s ∷ h) retirement (event_of h s)
  earlier : {h : History} {s : Step} {a b : Event} → Edge root h a b → Edge root (s ∷ h) a b

-- `a` is in the past of `b`: they are the same, or a path of edges leads from `a` to `b`
pub data IsInPast (root : Name) (h : History) : Event → Event → Type 0 where
  same : {a : Event} → IsInPast root h a a
  along : {a b c : Event} → IsInPast root h a b → Edge root h b c → IsInPast root h a c
