-- Turns with settlements among them, over processes that obey, make a run that is obeyed; so each line is right for the current history.
use Rattle.std.specs.Prelude.{◌≡◌, ◌↔◌, ℕ, ◌<◌, List, [], ◌++◌, Contains, Some, length}
use Rattle.report_line.specs.histories.History.{Name}
use Rattle.chains.specs.declared.position.Position.{Position}
use Rattle.chains.specs.Elements.{name_of}
use Rattle.chains.specs.Greatest.{IsGreatestCut}
use Rattle.chains.specs.Held.{Held, counting}
use Rattle.chains.specs.Positions.{before_birth, position_in}
use Rattle.chains.specs.Processes.{known, IsKnown}
use Rattle.law_lines.specs.Headline.{IsGreatestClosedCut}
use Rattle.law_lines.specs.Places.{IsPremise}
use Rattle.law_lines.specs.Garbage.{IsNotAfter}
use Rattle.law_lines.specs.Runs.{Run, current, accepted as accepted_in, epoch as epoch_in, IsObeyed}
use Rattle.law_lines.specs.Settled.{position_for}
use Rattle.law_turns.specs.Traces.{Trace, turns_of, AreTurns, Extends, ProcessesObey}

-- What is held is what the run tells; and where nothing is accepted, nothing was settled.
pub record IsHeldAfter (run : Run) (held : Held) : Type 0 where
  pub list : accepted_in run ≡ held.accepted
  pub epoch : epoch_in run ≡ held.epoch
  pub unsettled : held.accepted ≡ [] → held.epoch ≡ 0

-- ---- a run with what happened

-- There is one: of a settlement nothing is asked but its turn.
abbrev pub TurnsMakeARun : Type 0
TurnsMakeARun =
    (root : Name) (run : Run) (held after : Held) (trace : Trace) → IsObeyed root run → IsHeldAfter run held → AreTurns held trace after
    → ProcessesObey root run trace → (later : Run) × Extends root run trace later

-- Each such run is obeyed, and has the accepted list and the epoch that are held then.
abbrev pub TheRunIsObeyed : Type 0
TheRunIsObeyed =
    (root : Name) (run later : Run) (held after : Held) (trace : Trace) → IsObeyed root run → IsHeldAfter run held → AreTurns held trace after
    → ProcessesObey root run trace → Extends root run trace later → IsObeyed root later × IsHeldAfter later after

-- There is one such run at most.
abbrev pub TheRunIsOne : Type 0
TheRunIsOne = (root : Name) (run a b : Run) (trace : Trace) → Extends root run trace a → Extends root run trace b → a ≡ b

-- From nothing, all of this at once.
abbrev pub FromNothing : Type 0
FromNothing =
    (root : Name) (after : Held) (trace : Trace) → AreTurns (counting []) trace after → ProcessesObey root [] trace
    → (later : Run) × Extends root [] trace later × IsObeyed root later × IsHeldAfter later after

-- The headline over turns: the accepted list that is held then agrees with the current history, and for each failed set its greatest
-- stamp-consistent cut is the greatest closed cut of the current history.
abbrev pub HeadlineOfTurns : Type 0
HeadlineOfTurns =
    (root : Name) (run later : Run) (held after : Held) (trace : Trace) → IsObeyed root run → IsHeldAfter run held → AreTurns held trace after
    → ProcessesObey root run trace → Extends root run trace later
    → IsPremise root (current later) after.accepted
    × ((failed : List ℕ) (line : List Position) → IsGreatestCut after.accepted failed line → IsGreatestClosedCut root (current later) after.accepted failed line)

-- ---- parts of a trace

-- Steps change nothing of what is held.
abbrev pub TurnsAlone : Type 0
TurnsAlone = (held after : Held) (trace : Trace) → AreTurns held (turns_of trace) after ↔ AreTurns held trace after

-- Of a trace in two parts the turns of each are turns.
abbrev pub TurnsInParts : Type 0
TurnsInParts =
    (held after : Held) (first second : Trace) → AreTurns held (first ++ second) after → (between : Held) × AreTurns held first between × AreTurns between second after

-- The processes obey in each part, so what is said of a trace holds behind each front of it.
abbrev pub ProcessesObeyInParts : Type 0
ProcessesObeyInParts =
    (root : Name) (run middle : Run) (first second : Trace) → ProcessesObey root run (first ++ second)
    → ProcessesObey root run first × (Extends root run first middle → ProcessesObey root middle second)

-- No line is below an earlier garbage line: of a trace in two parts, each line over what is held behind the second is in each
-- process, by name, at or after the line with every process failed over what was held behind the first.
abbrev pub NoLineIsBelowEarlierGarbage : Type 0
NoLineIsBelowEarlierGarbage =
    (root : Name) (run : Run) (held between after : Held) (first second : Trace) (all failed : List ℕ) (garbage line : List Position) (i : ℕ) (p : Name)
    → IsObeyed root run → IsHeldAfter run held → AreTurns held first between → AreTurns between second after → ProcessesObey root run (first ++ second)
    → ((q : ℕ) → q < length (known between.accepted) → Contains all q) → IsGreatestCut between.accepted all garbage
    → IsGreatestCut after.accepted failed line → name_of after.accepted i ≡ Some p
    → IsNotAfter (position_for (known between.accepted) garbage p) (position_in line i)

-- Who is not known any more was unborn in each earlier garbage line.
abbrev pub WhoIsGoneWasUnbornThen : Type 0
WhoIsGoneWasUnbornThen =
    (root : Name) (run : Run) (held between after : Held) (first second : Trace) (all : List ℕ) (garbage : List Position) (p : Name)
    → IsObeyed root run → IsHeldAfter run held → AreTurns held first between → AreTurns between second after → ProcessesObey root run (first ++ second)
    → ((q : ℕ) → q < length (known between.accepted) → Contains all q) → IsGreatestCut between.accepted all garbage
    → ¬ IsKnown after.accepted p → position_for (known between.accepted) garbage p ≡ before_birth
