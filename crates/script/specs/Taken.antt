-- Where the chains accepted each printed line, they hold what the world reported; so a settlement for known processes is taken.
use Rattle.std.specs.Prelude.{◌≡◌, ◌≢◌, ℕ, List, All, Some, length}
use Rattle.report_line.specs.declared.call.Call.{Call}
use Rattle.report_line.specs.histories.History.{Name, Unborn, status}
use Rattle.chains.specs.Held.{Held}
use Rattle.driver.specs.declared.fault.StepFault.TheVariants.{Memory}
use Rattle.driver.specs.declared.line.NamedPosition.{NamedPosition}
use Rattle.driver.specs.Chronicle.{Chronicle}
use Rattle.driver.specs.Lines.{reported}
use Rattle.driver.specs.Settling.{HasUnknownName, IsClosedLine}
use Rattle.script.specs.declared.end.Cause.{Cause}
use Rattle.script.specs.declared.end.Cause.TheVariants.{Fault}
use Rattle.script.specs.Driven.{Drives, Refuses}
use Rattle.script.specs.Printed.{IsHeldBehind, IsLineBehind}
use Rattle.script.specs.Spelling.{SpellsSettle}

-- The lines begin this world and were taken by it, this was printed, and each printed line was accepted by the chains, which hold
-- this: the front counts them all.
pub record IsAllAccepted (lines : List (List ℕ)) (w : Chronicle) (told : List Call) (held : Held) : Type 0 where
  pub driven : Drives lines (Some w) told
  pub behind : IsHeldBehind told held
  pub accepted : held.front ≡ length told

-- The chains hold what the world reported, in the same order, and are in its epoch.
abbrev pub ChainsHoldTheReports : Type 0
ChainsHoldTheReports =
    (lines : List (List ℕ)) (w : Chronicle) (told : List Call) (held : Held) → IsAllAccepted lines w told held
    → (held.accepted ≡ reported w) × (held.epoch ≡ w.epoch)

-- each of these processes is born in the world
abbrev pub AreBorn : Chronicle → List Name → Type 0
AreBorn w names = All (λ p. status w.root w.history p ≢ Unborn) names

-- For known processes the line that is behind what was printed names none that is unknown, and is a closed line of the world.
abbrev pub KnownSettlementIsClosed : Type 0
KnownSettlementIsClosed =
    (lines : List (List ℕ)) (w : Chronicle) (told : List Call) (held : Held) (names : List Name) (target : List NamedPosition)
    → IsAllAccepted lines w told held → AreBorn w names → IsLineBehind told names target
    → (¬ HasUnknownName w names target) × IsClosedLine w names target

-- So a line that settles for known processes is refused for want of memory alone.
abbrev pub KnownSettlementIsTaken : Type 0
KnownSettlementIsTaken =
    (lines : List (List ℕ)) (line : List ℕ) (w : Chronicle) (told : List Call) (held : Held) (names : List Name) (cause : Cause)
    → IsAllAccepted lines w told held → SpellsSettle names line → AreBorn w names → Refuses (Some w) told line cause → cause ≡ Fault Memory
