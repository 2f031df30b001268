-- The number of each fault.
use Rattle.std.specs.Prelude.{ℤ, negsuc}
use Rattle.process.specs.declared.fault.ProcessFault.{ProcessFault}
use Rattle.process.specs.declared.fault.ProcessFault.TheVariants as refusals
use Rattle.process_c.specs.declared.fault.Fault.{Fault}
use Rattle.process_c.specs.declared.fault.Fault.TheVariants as faults

-- -1 for memory, and -5 to -16 for the others in their order; `negsuc n` is the number below -n
abbrev pub number_of_refusal : ProcessFault → ℤ
number_of_refusal refusals.Memory = negsuc 0
number_of_refusal refusals.SelfTarget = negsuc 4
number_of_refusal refusals.Taken = negsuc 5
number_of_refusal refusals.NotWaiting = negsuc 6
number_of_refusal refusals.Older = negsuc 7
number_of_refusal refusals.Newer = negsuc 8
number_of_refusal refusals.Worn = negsuc 9
number_of_refusal refusals.NothingOwned = negsuc 10
number_of_refusal refusals.ClockFull = negsuc 11
number_of_refusal refusals.TooDeep = negsuc 12
number_of_refusal refusals.Overlap = negsuc 13
number_of_refusal refusals.OtherProcess = negsuc 14
number_of_refusal refusals.NotKnown = negsuc 15

abbrev pub number_of : Fault → ℤ
number_of faults.State = negsuc 1
number_of faults.Text = negsuc 2
number_of faults.Name = negsuc 3
number_of (faults.Refused fault) = number_of_refusal fault
