-- What driving a world by a script prints, and how it ends.
use Rattle.std.specs.Prelude.{◌≡◌, ◌≢◌, ◌⊎◌, ℕ, ◌+◌, List, [], ◌∷◌, ◌++◌, length, Option, Some, None}
use Rattle.std.specs.List.{flat_map, AllByRecursion}
use Rattle.report_line.specs.declared.report.Report.{Report}
use Rattle.report_line.specs.declared.report.Report.TheVariants.{Begin}
use Rattle.report_line.specs.declared.call.Call.{Call}
use Rattle.report_line.specs.declared.call.Call.TheVariants as calls
use Rattle.report_line.specs.Cutting.{ended, NoBreak}
use Rattle.report_line.specs.Reports.{unmarked}
use Rattle.report_line.specs.Spelling.{spelling}
use Rattle.report_line.specs.histories.History.{Name}
use Rattle.report_line.specs.histories.StepReports.{reports}
use Rattle.driver.specs.declared.line.NamedPosition.{NamedPosition}
use Rattle.driver.specs.declared.step.Step.{Step}
use Rattle.driver.specs.declared.fault.StepFault.{StepFault}
use Rattle.driver.specs.declared.fault.StepFault.TheVariants as faults
use Rattle.driver.specs.Chronicle.{Chronicle}
use Rattle.driver.specs.Settling.{IsClosedLine, Settles, RefusesLine}
use Rattle.driver.specs.Stamping.{Takes}
use Rattle.driver.specs.Verdicts.{IsVerdict}
use Rattle.script.specs.declared.end.Cause.{Cause}
use Rattle.script.specs.declared.end.Cause.TheVariants.{Grammar, Fault}
use Rattle.script.specs.declared.end.End.{End}
use Rattle.script.specs.declared.end.End.TheVariants.{Done, Refused, Memory}
use Rattle.script.specs.Printed.{printed, report_lines, IsLineBehind}
use Rattle.script.specs.Spelling.{SpellsStep, SpellsRoot, SpellsSettle}

-- the script is these lines, each with its LF, and then a rest without one
abbrev pub AreLinesOf : List ℕ → List (List ℕ) → Type 0
AreLinesOf script lines = (rest : List ℕ) × AllByRecursion NoBreak lines × NoBreak rest × (script ≡ flat_map ended lines ++ rest)

-- The world after these lines, each of which was taken, and the lines that were printed. There is none before the first line, which
-- begins it. A step's report is printed with the world's epoch. At a settlement the world returns to the line that what was printed gives
-- for its failed processes, where that is a closed one; it is printed with the number of lines before it.
pub data Drives : List (List ℕ) → Option Chronicle → List Call → Type 0 where
  none : Drives [] None []
  begins : {line root : List ℕ} → SpellsRoot root line
      → Drives (line ∷ []) (Some (record { root = root; epoch = 0; history = [] })) (calls.Report (unmarked (Begin root)) ∷ [])
  goes_on : {lines : List (List ℕ)} {line : List ℕ} {step : Step} {old new : Chronicle} {given : Option Report} {told : List Call}
      → Drives lines (Some old) told → SpellsStep step line → Takes old step new given
      → Drives (lines ++ line ∷ []) (Some new) (told ++ report_lines new.epoch given)
  settles : {lines : List (List ℕ)} {line : List ℕ} {names : List Name} {target : List NamedPosition} {old new : Chronicle} {told : List Call}
      → Drives lines (Some old) told → SpellsSettle names line → IsLineBehind told names target
      → IsClosedLine old names target → Settles old target new
      → Drives (lines ++ line ∷ []) (Some new) (told ++ calls.Settle (length told) names ∷ [])

-- the world refuses the settlement of this line: this is why it does not return to the line that what was printed gives
pub record RefusesSettle (world : Chronicle) (told : List Call) (line : List ℕ) (fault : StepFault) : Type 0 where
  pub names : List Name
  pub spells : SpellsSettle names line
  pub target : List NamedPosition
  pub behind : IsLineBehind told names target
  pub refuses : RefusesLine world names target fault

-- the world refuses the step of this line: this is the first fault that applies to it, or memory is wanting
pub record RefusesStep (world : Chronicle) (line : List ℕ) (fault : StepFault) : Type 0 where
  pub step : Step
  pub spells : SpellsStep step line
  pub refuses : fault ≢ faults.Memory → IsVerdict world.root world.history step.process step.request (Some fault)

-- The world refuses the line that comes next: it is no step and no settlement, or this is why it is not taken. Want of memory may come
-- in place of any fault, and of a beginning.
abbrev pub Refuses : Option Chronicle → List Call → List ℕ → Cause → Type 0
Refuses None told line Grammar = (root : List ℕ) → ¬ SpellsRoot root line
Refuses None told line (Fault fault) = (fault ≡ faults.Memory) × ((root : List ℕ) × SpellsRoot root line)
Refuses (Some world) told line Grammar = ((step : Step) → ¬ SpellsStep step line) × ((names : List Name) → ¬ SpellsSettle names line)
Refuses (Some world) told line (Fault fault) = RefusesStep world line fault ⊎ RefusesSettle world told line fault

-- how it ends behind so many lines that were taken, where these are the later ones
abbrev pub EndsAt : End → ℕ → List (List ℕ) → Option Chronicle → List Call → Type 0
EndsAt Done n later world told = later ≡ []
EndsAt (Refused k cause) n later world told =
    (line : List ℕ) × (more : List (List ℕ)) × (later ≡ line ∷ more) × (k ≡ n + 1) × Refuses world told line cause
EndsAt Memory n later world told = later ≢ []

-- The script's first lines were taken, what they print was printed, and it ended so.
pub record IsDriven (script text : List ℕ) (end : End) : Type 0 where
  pub front : List (List ℕ)
  pub later : List (List ℕ)
  pub lines : AreLinesOf script (front ++ later)
  pub world : Option Chronicle
  pub told : List Call
  pub driven : Drives front world told
  pub text_is : text ≡ printed told
  pub ends : EndsAt end (length front) later world told

-- ---- without settlements

-- the reports of a world: of its beginning, and then of its history, in order
abbrev pub reports_of : Option Chronicle → List Report
reports_of None = []
reports_of (Some world) = Begin world.root ∷ reports world.root world.history

-- no line settles
abbrev pub NoneSettles : List (List ℕ) → Type 0
NoneSettles lines = AllByRecursion (λ line. (names : List Name) → ¬ SpellsSettle names line) lines

-- a script without settlements prints the reports of its world, without marks
abbrev pub PrintsReports : Type 0
PrintsReports =
    (lines : List (List ℕ)) (world : Option Chronicle) (told : List Call) → Drives lines world told → NoneSettles lines
    → printed told ≡ flat_map (λ r. ended (spelling (calls.Report (unmarked r)))) (reports_of world)
