-- Which line a question asks for.
use Rattle.std.specs.Prelude.{◌≡◌, List}
use Rattle.report_line.specs.declared.call.Call.{Call}
use Rattle.report_line.specs.declared.call.Call.TheVariants as calls
use Rattle.chains.specs.Processes.{Name, known}
use Rattle.chains.specs.Held.{Held}

-- the call asks for the line of these failed processes: of those that it names, or for GARBAGE of all that are known
abbrev pub AsksForLine : Held → Call → List Name → Type 0
AsksForLine held (calls.Line listed) names = names ≡ listed
AsksForLine held calls.Garbage names = names ≡ known held.accepted
AsksForLine held _ names = ⊥
