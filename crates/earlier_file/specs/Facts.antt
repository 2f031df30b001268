-- What the bytes tell of a record file.
use Rattle.std.specs.Prelude.{◌≡◌, ◌⊎◌, ℕ, ◌+◌, ◌≤◌, List, length}
use Rattle.record_file.specs.File.{Said, second_version, IsForeign, IsDamaged}
use Rattle.record_file.specs.Reading.{IsReading}
use Rattle.earlier_file.specs.declared.fault.FileFault.{FileFault}
use Rattle.earlier_file.specs.declared.fault.FileFault.TheVariants.{Foreign, Damaged}
use Rattle.earlier_file.specs.declared.found.FileFacts.{FileFacts}

-- a file of this version and so many records, with so many bytes behind its closed gate
pub record HasRecordsAndTail (file : List ℕ) (version records tail : ℕ) : Type 0 where
  pub said : List Said
  pub end : ℕ
  pub reading : IsReading file version said end
  pub number : length said ≡ records
  pub behind : end + tail ≡ length file

-- One of at most 9 bytes is taken for a new one: it becomes one of the second version, has no records, and nothing of it is kept.
abbrev pub AreFacts : List ℕ → FileFacts → Type 0
AreFacts bytes told =
    ((length bytes ≤ 9) × (told.version ≡ second_version) × (told.records ≡ 0) × (told.tail ≡ 0))
    ⊎ ((10 ≤ length bytes) × HasRecordsAndTail bytes told.version told.records told.tail)

abbrev pub IsUnread : List ℕ → FileFault → Type 0
IsUnread bytes Foreign = IsForeign bytes
IsUnread bytes (Damaged k) = IsDamaged k bytes
