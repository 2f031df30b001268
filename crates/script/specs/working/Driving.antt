-- Working definitions: a script is driven line by line.
use Rattle.std.specs.Prelude.{◌≡◌, ℕ, ◌+◌, List, [], ◌∷◌, ◌++◌, length, map, Option, Some, Result, Ok, Err, ⊤}
use Rattle.std.specs.List.{flat_map, AllByRecursion}
use Rattle.report_line.specs.declared.report.Report.{Report}
use Rattle.report_line.specs.declared.report.Report.TheVariants.{Begin}
use Rattle.report_line.specs.declared.call.Call.{Call}
use Rattle.report_line.specs.declared.call.Call.TheVariants as calls
use Rattle.report_line.specs.declared.marked.MarkedReport.{MarkedReport}
use Rattle.report_line.specs.declared.reply.Reply.{Reply}
use Rattle.report_line.specs.Cutting.{ended, NoBreak}
use Rattle.report_line.specs.Reports.{unmarked}
use Rattle.report_line.specs.Spelling.{spelling}
use Rattle.chains.specs.Held.{Held, held_of}
use Rattle.chains.specs.Turns.{fine, IsTurnWith}
use Rattle.driver.specs.Chronicle.{Chronicle}
use Rattle.script.specs.declared.driving.Stop.{Stop}
use Rattle.script.specs.declared.driving.Stop.TheVariants as stops
use Rattle.script.specs.declared.end.End.{End}
use Rattle.script.specs.declared.end.End.TheVariants.{Refused, Memory}
use Rattle.script.specs.declared.printing.Printout.{Printout}
use Rattle.script.specs.Driven.{Drives, Refuses}
use Rattle.script.specs.Printed.{printed, report_lines, IsHeldBehind}
use Rattle.script.specs.Spelling.{SpellsRoot}

-- the lines of these reports
abbrev pub lines_of : List MarkedReport → List Call
lines_of reports = map (λ m. calls.Report m) reports

-- These lines were printed: their text, and how many they are. The last ones are reports that wait for their turns, and the chains hold
-- what they do once those in front of them took theirs.
pub record IsPrinted (told : List Call) (p : Printout) : Type 0 where
  pub text_is : p.text.items ≡ printed told
  pub counted : p.lines ≡ length told
  pub front : List Call
  pub parts : told ≡ front ++ lines_of p.pending.items
  pub behind : IsHeldBehind front (held_of p.chains)

-- whichever lines took their turns before, these reports take theirs behind them
abbrev pub TakeTurns : Held → List MarkedReport → Held → Type 0
TakeTurns held reports after = (front : List Call) → IsHeldBehind front held → IsHeldBehind (front ++ lines_of reports) after

-- one more line is printed
pub record PrintsLine (old : Printout) (line : Call) (new : Printout) : Type 0 where
  pub text_is : new.text.items ≡ old.text.items ++ ended (spelling line)
  pub counted : new.lines ≡ old.lines + 1

-- one more report is printed, whichever lines were before it
abbrev pub PrintsReport : Printout → MarkedReport → Printout → Type 0
PrintsReport old m new = (told : List Call) → IsPrinted told old → IsPrinted (told ++ calls.Report m ∷ []) new

-- one more line is printed, and takes its turn; no report waits
pub record PrintsAtOnce (old : Printout) (line : Call) (new : Printout) : Type 0 where
  pub prints : PrintsLine old line new
  pub none_waits : new.pending.items ≡ []
  pub reply : Reply
  pub turn : IsTurnWith fine (held_of old.chains) line reply (held_of new.chains)

-- why the next line stops the script
abbrev pub StopTold : Option Chronicle → List Call → List ℕ → Stop → Type 0
StopTold world told line (stops.Refused cause) = Refuses world told line cause
StopTold world told line stops.Memory = ⊤

-- the end of a script that this line stops
abbrev pub end_by : Stop → ℕ → End
end_by (stops.Refused cause) k = Refused k cause
end_by stops.Memory k = Memory

-- the line begins the world, and its report is printed
pub record Begins (line : List ℕ) (world : Chronicle) (p : Printout) : Type 0 where
  pub spells : SpellsRoot world.root line
  pub epoch : world.epoch ≡ 0
  pub first : world.history ≡ []
  pub prints : IsPrinted (calls.Report (unmarked (Begin world.root)) ∷ []) p

-- the world took the line, whichever lines it took before, and what it prints is printed
pub record IsTaken (lines : List (List ℕ)) (new : Chronicle) (p : Printout) : Type 0 where
  pub told : List Call
  pub driven : Drives lines (Some new) told
  pub prints : IsPrinted told p

-- the report of a step, if it has one, is printed with this epoch; or for want of memory nothing is
abbrev pub GivenTold : Printout → Printout → ℕ → Option Report → Result (Unit {0}) Stop → Type 0
GivenTold before after epoch given (Ok u) = (told : List Call) → IsPrinted told before → IsPrinted (told ++ report_lines epoch given) after
GivenTold before after epoch given (Err stop) = (after.text.items ≡ before.text.items) × (stop ≡ stops.Memory)

-- the line is taken; or it stops, and nothing is printed
abbrev pub StepTold : Chronicle → Chronicle → Printout → Printout → List ℕ → Result (Unit {0}) Stop → Type 0
StepTold old new before after line (Ok u) =
    (lines : List (List ℕ)) (told : List Call) → Drives lines (Some old) told → IsPrinted told before → IsTaken (lines ++ line ∷ []) new after
StepTold old new before after line (Err stop) =
    (after.text.items ≡ before.text.items) × ((told : List Call) → IsPrinted told before → StopTold (Some old) told line stop)

-- these lines were taken, and this is left of the script
pub record AreTaken (script rest : List ℕ) (p : Printout) (world : Chronicle) (count : ℕ) : Type 0 where
  pub front : List (List ℕ)
  pub whole : AllByRecursion NoBreak front
  pub script_is : script ≡ flat_map ended front ++ rest
  pub told : List Call
  pub driven : Drives front (Some world) told
  pub prints : IsPrinted told p
  pub counted : count ≡ length front
