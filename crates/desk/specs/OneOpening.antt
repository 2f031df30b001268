-- Records, and a file of them, come to one thing that is held; and a file that a crash leaves opens again.
use Rattle.std.specs.Prelude.{◌≡◌, ◌⊎◌, ℕ, List, ◌∷◌, ◌++◌, []}
use Rattle.record_file.specs.File.{Said, Stands}
use Rattle.chains.specs.Held.{Held}
use Rattle.desk.specs.Files.{IsPending, MayStandFor}
use Rattle.desk.specs.Openings.{RefusesFile, IsNotOfTheFile}
use Rattle.desk.specs.Records.{Admits, Opens}
use Rattle.desk.specs.declared.fault.DeskFault.{DeskFault}
use Rattle.desk.specs.declared.turn.Turn.{Turn}

-- opening comes to one thing, whoever opens
abbrev pub RecordsOpenToOne : Type 0
RecordsOpenToOne = (said : List Said) (held other : Held) → Opens said held → Opens said other → held ≡ other

-- and so it does where only the file is known
abbrev pub FilesOpenToOne : Type 0
FilesOpenToOne =
    (file : List ℕ) (said others : List Said) (held other : Held) → Stands said file → Stands others file → Opens said held → Opens others other → held ≡ other

-- What opening found is what these records say and hold, or that and one more record, which is admitted over it.
abbrev pub IsFoundAgain : List Said → Held → List Said → Held → Type 0
IsFoundAgain said held found now = ((found ≡ said) × (now ≡ held)) ⊎ ((one : Said) × (found ≡ said ++ one ∷ []) × Admits held one now)

-- An opening of the file, by whichever program, is refused for nothing that the file says, and finds these records, or these and one more.
pub record OpensAgain (said : List Said) (held : Held) (file : List ℕ) : Type 0 where
  pub refused : (fault : DeskFault) → RefusesFile file fault → IsNotOfTheFile fault
  pub finds : (found : List Said) (now : Held) → Stands found file → Opens found now → IsFoundAgain said held found now

-- Each file that a crash leaves of a desk's disk opens again. The premises are what holds of each desk: opening its records comes to what it
-- holds, a pending record is admitted over that, and a crash leaves such files (`admitted`, `pending` and `left` of `IsLawfulDesk`).
abbrev pub FilesOpenAgain : Type 0
FilesOpenAgain =
    (said : List Said) (held : Held) (turns : List Turn) (file : List ℕ) → Opens said held
    → ((one : Said) → IsPending held.epoch turns one → (after : Held) × Admits held one after)
    → MayStandFor said held.epoch turns file → OpensAgain said held file

-- And so does one that it leaves in the middle of a call, with the record of that call, which is admitted.
abbrev pub FilesOfACallOpenAgain : Type 0
FilesOfACallOpenAgain =
    (said : List Said) (held after : Held) (one : Said) (file : List ℕ) → Opens said held → Admits held one after
    → Stands (said ++ one ∷ []) file → OpensAgain said held file
