-- The words for the cause by which a step is refused.
use Rattle.std.specs.Prelude.{ℕ, List, codes}
use Rattle.driver.specs.declared.fault.StepFault.{StepFault}
use Rattle.driver.specs.declared.fault.StepFault.TheVariants as faults
use Rattle.script.specs.declared.end.Cause.{Cause}
use Rattle.script.specs.declared.end.Cause.TheVariants.{Grammar, Fault}

abbrev pub fault_words : StepFault → List ℕ
fault_words faults.Unknown = codes "unknown process"
fault_words faults.Retired = codes "retired"
fault_words faults.SelfTarget = codes "self target"
fault_words faults.Taken = codes "name taken"
fault_words faults.NoMessage = codes "no message"
fault_words faults.NotWaiting = codes "not waiting"
fault_words faults.NotClosed = codes "not closed"
fault_words faults.ClockFull = codes "clock full"
fault_words faults.TooDeep = codes "too deep"
fault_words faults.Memory = codes "memory"

abbrev pub cause_words : Cause → List ℕ
cause_words Grammar = codes "grammar"
cause_words (Fault fault) = fault_words fault
