-- What reading the bytes of a file finds.
use Rattle.std.specs.Prelude.{◌≡◌, ◌≢◌, ℕ, ◌+◌, ◌≤◌, List, ◌∷◌, ◌++◌, length, drop}
use Rattle.record_file.specs.File.{Said, Form, Spelled, bytes_in, header, opened, all_said, IsFit, AreFit, IsNoRecord}
use Rattle.record_file.specs.declared.reading.ReadFault.{ReadFault}
use Rattle.record_file.specs.declared.reading.ReadFault.TheVariants.{Foreign, Damaged, Memory}

-- The bytes begin with a record of this epoch and line that may stand in a file of this version. After it come these bytes, at least its
-- gate.
pub record IsSplit (version epoch : ℕ) (line behind bytes : List ℕ) : Type 0 where
  pub form : Form
  pub fit : IsFit version (record { form = form; epoch = epoch; line = line })
  pub some : 1 ≤ length behind
  pub is : bytes ≡ bytes_in form epoch line ++ behind

-- the header of this version, records that say this, a closed gate that ends at this offset, then anything
pub record IsReading (file : List ℕ) (version : ℕ) (said : List Said) (end : ℕ) : Type 0 where
  pub records : List Spelled
  pub fit : AreFit version records
  pub say : all_said records ≡ said
  pub gate : ℕ
  pub closed : gate ≢ 1
  pub rest : List ℕ
  pub bytes : file ≡ header version ++ (opened records ++ gate ∷ rest)
  pub size : end ≡ 9 + length (opened records)

-- Working definitions from here on: how far the bytes of a file were read.

-- records that say this, which end where the rest begins
pub record IsSoFar (version : ℕ) (bytes : List ℕ) (said : List Said) (rest : List ℕ) : Type 0 where
  pub records : List Spelled
  pub fit : AreFit version records
  pub say : all_said records ≡ said
  pub is : bytes ≡ opened records ++ rest

-- the k-th open gate has no record behind it
pub record HasNoRecord (version : ℕ) (k : ℕ) (bytes : List ℕ) : Type 0 where
  pub said : List Said
  pub number : k ≡ length said + 1
  pub rest : List ℕ
  pub none : IsNoRecord version rest
  pub so_far : IsSoFar version bytes said (1 ∷ rest)

abbrev pub IsWalkFault : ℕ → List ℕ → ReadFault → Type 0
IsWalkFault version bytes Foreign = ⊥
IsWalkFault version bytes (Damaged k) = HasNoRecord version k bytes
IsWalkFault version bytes Memory = Unit {0}

-- the records up to the gate at this offset of the file were read
abbrev pub IsReadTo : List ℕ → ℕ → List Said → ℕ → Type 0
IsReadTo file version said at = IsSoFar version (drop 8 file) said (drop at file)
