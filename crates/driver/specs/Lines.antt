-- A line by names: where each process is to return to.
use Rattle.std.specs.Prelude.{◌≡◌, ℕ, List, [], ◌∷◌, Some, map, slice_get, if◌then◌else◌}
use Rattle.std.specs.Str.{bytes_eq}
use Rattle.report_line.specs.declared.report.Report.{Report}
use Rattle.report_line.specs.declared.report.Report.TheVariants.{Begin}
use Rattle.report_line.specs.histories.History.{Name}
use Rattle.report_line.specs.histories.StepReports.{reports}
use Rattle.chains.specs.declared.position.Position.{Position}
use Rattle.chains.specs.Processes.{known}
use Rattle.chains.specs.Positions.{before_birth}
use Rattle.driver.specs.declared.line.NamedPosition.{NamedPosition}
use Rattle.driver.specs.Chronicle.{Chronicle}

-- what a world reported: BEGIN, and the reports of its history in order
abbrev pub reported : Chronicle → List Report
reported w = Begin w.root ∷ reports w.root w.history

abbrev pub names_of : List NamedPosition → List Name
names_of line = map (λ x. x.name) line

-- each process is named at most once
abbrev pub IsNamedOnce : List NamedPosition → Type 0
IsNamedOnce line = (i j : ℕ) (p : Name) → slice_get (names_of line) i ≡ Some p → slice_get (names_of line) j ≡ Some p → i ≡ j

-- the position of a process; who is not named is unborn
abbrev pub position_of : List NamedPosition → Name → Position
position_of [] p = before_birth
position_of (x ∷ line) p = if bytes_eq p x.name then x.position else position_of line p

-- the line as one position of each known process, in order of birth
abbrev pub positions_by : List NamedPosition → List Report → List Position
positions_by line accepted = map (position_of line) (known accepted)
