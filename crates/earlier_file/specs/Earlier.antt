-- A record file as it was when it had its first records alone.
use Rattle.std.specs.Prelude.{◌≡◌, ◌⊎◌, ℕ, ◌<◌, ◌≤◌, List, [], ◌∷◌, ◌++◌, length, take}
use Rattle.record_file.specs.File.{Said, Spelled, AreFit, header, opened, second_version, Stands, IsForeign, IsDamaged}
use Rattle.record_file.specs.Opening.{IsOpenedWith}
use Rattle.record_file.specs.Reading.{IsReading}
use Rattle.earlier_file.specs.declared.fault.FileFault.{FileFault}
use Rattle.earlier_file.specs.declared.fault.FileFault.TheVariants as file
use Rattle.earlier_file.specs.declared.fault.EarlierFault.{EarlierFault}
use Rattle.earlier_file.specs.declared.fault.EarlierFault.TheVariants.{Foreign, Damaged, Short, Memory}

-- the file begins with so many records, whatever stands behind them, and the other one is of these as they stand there: the same header, the
-- same bytes, a closed gate, and nothing else
pub record HasFirst (front : ℕ) (file earlier : List ℕ) : Type 0 where
  pub version : ℕ
  pub records : List Spelled
  pub fit : AreFit version records
  pub number : length records ≡ front
  pub gate : ℕ
  pub rest : List ℕ
  pub bytes : file ≡ header version ++ (opened records ++ gate ∷ rest)
  pub earlier_is : earlier ≡ header version ++ (opened records ++ 0 ∷ [])

-- The file of the first records of this one. One of at most 9 bytes has none, and is made one of the second version.
abbrev pub IsFirst : ℕ → List ℕ → List ℕ → Type 0
IsFirst front file earlier =
    ((length file ≤ 9) × (front ≡ 0) × (earlier ≡ header second_version ++ 0 ∷ []))
    ⊎ ((10 ≤ length file) × HasFirst front file earlier)

-- the file has so many records, and more are wanted
pub record HasTooFew (front : ℕ) (file : List ℕ) (number : ℕ) : Type 0 where
  pub said : List Said
  pub stands : Stands said file
  pub number_is : number ≡ length said
  pub more : number < front

-- Why there are no first records: damage counts in one of them alone. Where memory is wanting they are there.
abbrev pub IsRefusedAt : ℕ → List ℕ → EarlierFault → Type 0
IsRefusedAt front bytes Foreign = IsForeign bytes
IsRefusedAt front bytes (Damaged k) = IsDamaged k bytes × (k ≤ front)
IsRefusedAt front bytes (Short n) = HasTooFew front bytes n
IsRefusedAt front bytes Memory = (earlier : List ℕ) × IsFirst front bytes earlier

-- Where a file is of records that say this, the other one is read as the first of these, with the version that the file is opened with, and
-- ends behind their closed gate.
abbrev pub IsReadAsFirst : ℕ → List ℕ → List ℕ → Type 0
IsReadAsFirst front bytes earlier =
    (version : ℕ) (said : List Said) → IsOpenedWith version bytes → Stands said bytes
    → IsReading earlier version (take front said) (length earlier)

-- how a fault of the file is handed on
abbrev pub from_file : FileFault → EarlierFault
from_file file.Foreign = Foreign
from_file (file.Damaged k) = Damaged k
