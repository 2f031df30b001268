-- A record that is in the file, and not yet in its list.
use Rattle.std.specs.Prelude.{◌≡◌, ◌≢◌, ◌↔◌, ℕ, ◌≤◌, List, [], ◌∷◌, ◌++◌}
use Rattle.line_disk.specs.Disk.{View}
use Rattle.record_file.specs.File.{Said, Spelled, long, header, opened, record_of, all_said, AreFit, IsFit}

-- the long record that says this
abbrev pub long_record : Said → Spelled
long_record one = record { form = long; epoch = one.0; line = one.1 }

-- The file is the header, records that say this, a closed gate, and behind it the long record of one thing more and a closed gate.
pub record IsStaged (said : List Said) (one : Said) (file : List ℕ) : Type 0 where
  pub version : ℕ
  pub records : List Spelled
  pub fit : AreFit version records
  pub say : all_said records ≡ said
  pub gate : ℕ
  pub closed : gate ≢ 1
  pub next_fit : IsFit version (long_record one)
  pub bytes : file ≡ header version ++ (opened records ++ gate ∷ (record_of (long_record one) ++ 0 ∷ []))

-- At a moment of the call a crash left such a file, and no other.
pub record WasStaged (said : List Said) (one : Said) (old new : View) : Type 0 where
  pub moment : ℕ
  pub later : old.clock ≤ moment
  pub sooner : moment ≤ new.clock
  pub file : List ℕ
  pub staged : IsStaged said one file
  pub only : (c : List ℕ) → new.image moment c ↔ (c ≡ file)
