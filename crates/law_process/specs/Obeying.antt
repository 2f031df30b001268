-- The laws: who makes the calls so obeys the rules.
use Rattle.std.specs.Prelude.{ℕ, ◌++◌, List, [], ◌∷◌, ⊤}
use Rattle.report_line.specs.declared.call.Call.TheVariants as calls
use Rattle.report_line.specs.declared.report.Report.{Report}
use Rattle.report_line.specs.histories.History.{Name}
use Rattle.report_line.specs.histories.Lawful.{IsLawful}
use Rattle.report_line.specs.Reading.{Spells}
use Rattle.report_line.specs.Reports.{unmarked}
use Rattle.report_line.specs.histories.StepReports.{reports}
use Rattle.chains.specs.Held.{Held, counting}
use Rattle.law_lines.specs.Runs.{Run, current}
use Rattle.law_turns.specs.Traces.{Extends, AreTurns, ProcessesObey}
use Rattle.law_process.specs.Accounts.{Act, Check, Present, Fork, Retire, Absorb, Did, Took, Account, traced}
use Rattle.law_process.specs.Handing.{AreHandedOver}

-- From nothing: where the turns are turns of a coordinator, and what is handed over is what the calls gave, the processes obey. So the
-- headline holds of each of its lines, over any number of settlements.
abbrev pub StepsOfCallsObey : Type 0
StepsOfCallsObey =
    (root : Name) (account : Account) (after : Held) → AreTurns (counting []) (traced 0 account) after → AreHandedOver root [] [] account
    → ProcessesObey root [] (traced 0 account)

-- ---- where nothing was settled

-- the account has no turns
abbrev pub IsOfCalls : Account → Type 0
IsOfCalls [] = ⊤
IsOfCalls (Did d ∷ account) = IsOfCalls account
IsOfCalls (Took call reply ∷ account) = ⊥

-- the line that a call gave, if it gave one
abbrev pub line_given : Act → List (List ℕ)
line_given (Check line) = line ∷ []
line_given (Present line) = line ∷ []
line_given (Fork start line) = line ∷ []
line_given (Retire target retirement line) = line ∷ []
line_given (Absorb from retirement line) = line ∷ []
line_given act = []

-- the lines that the calls gave, the oldest first
abbrev pub lines_given : Account → List (List ℕ)
lines_given [] = []
lines_given (Did d ∷ account) = line_given d.act ++ lines_given account
lines_given (Took call reply ∷ account) = lines_given account

-- each line is that of the report at its place
abbrev pub AreLinesOf : List (List ℕ) → List Report → Type 0
AreLinesOf [] [] = ⊤
AreLinesOf (line ∷ lines) (r ∷ rs) = Spells (calls.Report (unmarked r)) line × AreLinesOf lines rs
AreLinesOf [] (r ∷ rs) = ⊥
AreLinesOf (line ∷ lines) [] = ⊥

-- The steps of the calls are a lawful history, and the lines are those of its reports, in order.
abbrev pub StepsOfCallsAreLawful : Type 0
StepsOfCallsAreLawful =
    (root : Name) (account : Account) → IsOfCalls account → AreHandedOver root [] [] account
    → (run : Run) × Extends root [] (traced 0 account) run × IsLawful root (current run) × AreLinesOf (lines_given account) (reports root (current run))
