-- Why a record file is not told of as it was at an earlier front.
use Rattle.std.specs.Prelude.{◌≡◌, ℕ, List, ◌++◌, codes}
use Rattle.std.specs.Fmt.{decimal}
use Rattle.report_line.specs.Cutting.{ended}
use Rattle.client_link.specs.Links.{LinkState}
use Rattle.earlier_file.specs.Earlier.{IsRefusedAt}
use Rattle.earlier_file.specs.declared.fault.EarlierFault.{EarlierFault}
use Rattle.earlier_file.specs.declared.fault.EarlierFault.TheVariants as early
use Rattle.recline.specs.Outcome.{Tells}

-- the words of a fault; those of a file that is foreign or damaged are those of one that is opened
abbrev pub earlier_fault_words : EarlierFault → List ℕ
earlier_fault_words early.Foreign = codes "foreign"
earlier_fault_words (early.Damaged k) = codes "damaged " ++ decimal k
earlier_fault_words (early.Short n) = codes "short " ++ decimal n
earlier_fault_words early.Memory = codes "memory"

abbrev pub earlier_fault_line : EarlierFault → List ℕ
earlier_fault_line fault = ended (codes "recline: " ++ earlier_fault_words fault)

-- the fault was told, and is one of these bytes
pub record HasNoFront {F : Type 0} (faults_told : F → LinkState) (front : ℕ) (bytes : List ℕ) (faults faults_after : F) (status : ℕ) : Type 0 where
  pub fault : EarlierFault
  pub refused : IsRefusedAt front bytes fault
  pub status_is : status ≡ 3
  pub faults_are : Tells (faults_told faults) (faults_told faults_after) (earlier_fault_line fault)
