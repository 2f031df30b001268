-- Records that are passed from gate to gate.
use Rattle.std.specs.Prelude.{◌≡◌, ◌≢◌, ℕ, ◌+◌, ◌<◌, ◌≤◌, List, ◌∷◌, ◌++◌, length, get_or, drop, take}
use Rattle.record_file.specs.File.{Spelled, AreFit, header, opened, IsNoRecord, IsForeign, IsDamaged}
use Rattle.earlier_file.specs.declared.fault.FileFault.{FileFault}
use Rattle.earlier_file.specs.declared.fault.FileFault.TheVariants.{Foreign, Damaged}
use Rattle.earlier_file.specs.declared.walking.Gate.{Gate}

-- so many records stand in front of the gate at this offset
pub record IsWalked (version count at : ℕ) (bytes : List ℕ) : Type 0 where
  pub records : List Spelled
  pub fit : AreFit version records
  pub number : length records ≡ count
  pub inside : at < length bytes
  pub is : bytes ≡ opened records ++ drop at bytes

-- the k-th open gate has no record behind it
pub record HasNone (version k : ℕ) (bytes : List ℕ) : Type 0 where
  pub records : List Spelled
  pub fit : AreFit version records
  pub number : k ≡ length records + 1
  pub rest : List ℕ
  pub none : IsNoRecord version rest
  pub is : bytes ≡ opened records ++ 1 ∷ rest

abbrev pub IsDamagedWithin : ℕ → ℕ → List ℕ → FileFault → Type 0
IsDamagedWithin version most bytes Foreign = ⊥
IsDamagedWithin version most bytes (Damaged k) = HasNone version k bytes × (k ≤ most)

abbrev pub IsUnheaded : List ℕ → FileFault → Type 0
IsUnheaded file Foreign = IsForeign file
IsUnheaded file (Damaged k) = ⊥

-- the gate of a file behind so many records at most, and a closed one where there are fewer
pub record IsPlaced (most : ℕ) (file : List ℕ) (gate : Gate) : Type 0 where
  pub head : take 8 file ≡ header gate.version
  pub behind_header : 8 ≤ gate.at
  pub inside : gate.at < length file
  pub records : List Spelled
  pub fit : AreFit gate.version records
  pub number : length records ≡ gate.count
  pub few : gate.count ≤ most
  pub is : drop 8 file ≡ opened records ++ drop gate.at file
  pub stops : gate.count < most → get_or file gate.at 0 ≢ 1

abbrev pub IsUnplaced : ℕ → List ℕ → FileFault → Type 0
IsUnplaced most file Foreign = IsForeign file
IsUnplaced most file (Damaged k) = IsDamaged k file × (k ≤ most)
