-- Working definitions: what the steps of the tests answer.
use Rattle.std.specs.Prelude.{◌≡◌, ◌⊎◌, ℕ, List, Option, Some, None, Result, Ok, Err, ⊤}
use Rattle.std.specs.Fmt.{decimal}
use Rattle.report_line.specs.declared.code.Code.{Code}
use Rattle.report_line.specs.declared.code.Code.TheVariants.{Full, OutOfMemory}
use Rattle.report_line.specs.declared.report.ReportKind.{ReportKind}
use Rattle.report_line.specs.declared.report.ReportKind.TheVariants.{Absorb}
use Rattle.report_line.specs.declared.report.Report.{Report}
use Rattle.report_line.specs.declared.report.Report.TheVariants.{Begin, Numbered}
use Rattle.chains.specs.declared.refusal.No.{No}
use Rattle.chains.specs.Processes.{Name, IsKnown}
use Rattle.chains.specs.Elements.{name_of}

-- the number of a process, or none where it is not known
abbrev pub IsPlaceOf : List Report → Name → Option ℕ → Type 0
IsPlaceOf accepted p None = ¬ IsKnown accepted p
IsPlaceOf accepted p (Some i) = name_of accepted i ≡ Some p

-- the number of the process that reports; a root that begins has none yet
abbrev pub IsNumberIn : List Report → Report → Option ℕ → Type 0
IsNumberIn accepted (Begin p) number = number ≡ None
IsNumberIn accepted (Numbered r) number = IsPlaceOf accepted r.process number

abbrev pub IsNoAbsorb : ReportKind → Type 0
IsNoAbsorb (Absorb retired) = ⊥
IsNoAbsorb _ = ⊤

abbrev pub no_memory : No
no_memory = record { code = OutOfMemory; name = None; value = None }

-- a refusal with this value, if it was made
abbrev pub RefusesWith : {E : Type 0} → No → Code → Name → Result (List ℕ) E → Type 0
RefusesWith refusal code name (Ok value) = refusal ≡ record { code = code; name = Some name; value = Some value }
RefusesWith refusal code name (Err e) = refusal ≡ no_memory

-- a refusal with this number, if it was made
abbrev pub IsRefusalWith : No → Code → ℕ → Type 0
IsRefusalWith refusal code n = (refusal ≡ record { code = code; name = None; value = Some (decimal n) }) ⊎ (refusal ≡ no_memory)

-- a refusal by this limit
abbrev pub IsFull : No → ℕ → Type 0
IsFull refusal limit = IsRefusalWith refusal Full limit
