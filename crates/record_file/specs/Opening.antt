-- What opening a file answers, and what a crash inside it leaves.
use Rattle.std.specs.Prelude.{◌≡◌, ◌⊎◌, ◌↔◌, ℕ, ◌<◌, ◌≤◌, List, length, take}
use Rattle.line_disk.specs.Disk.{View, Leaves, Rests, one_more}
use Rattle.record_file.specs.File.{Said, second_version, header, Stands, IsForeign, IsDamaged}
use Rattle.record_file.specs.declared.fault.OpenFault.{OpenFault}
use Rattle.record_file.specs.declared.fault.OpenFault.TheVariants.{Foreign, Damaged, Device, Memory}

-- the version that a file is opened with: that of its header; a file of at most 9 bytes becomes one of the second version
abbrev pub IsOpenedWith : ℕ → List ℕ → Type 0
IsOpenedWith version file = ((length file ≤ 9) × (version ≡ second_version)) ⊎ ((10 ≤ length file) × (take 8 file ≡ header version))

-- when a file is refused
abbrev pub IsRefused : List ℕ → OpenFault → Type 0
IsRefused file Foreign = IsForeign file
IsRefused file (Damaged k) = IsDamaged k file
IsRefused file Device = Unit {0}
IsRefused file Memory = Unit {0}

-- the device failed where the fault is the device's, and only there
abbrev pub CountsFault : OpenFault → ℕ → ℕ → Type 0
CountsFault Foreign old new = new ≡ old
CountsFault (Damaged k) old new = new ≡ old
CountsFault Device old new = new ≡ one_more old
CountsFault Memory old new = new ≡ old

-- a file that stands for what this one stands for, if it stands for something
abbrev pub KeepsRecords : List ℕ → List ℕ → Type 0
KeepsRecords old new = (said : List Said) → Stands said old → Stands said new

-- A file that stands for what this one stands for. Of one that is no new file it is the front: at most a tail is gone. Where this one
-- stands for nothing, it is this one.
abbrev pub KeepsFile : List ℕ → List ℕ → Type 0
KeepsFile old new = KeepsRecords old new × ((10 ≤ length old → new ≡ take (length new) old) × (((said : List Said) → ¬ Stands said old) → new ≡ old))

-- Up to the first sync a crash leaves what it could leave at the call. From that moment on it leaves a file that has P.
pub record IsSynced (P : List ℕ → Type 0) (old new : View) : Type 0 where
  pub moment : ℕ
  pub later : old.clock ≤ moment
  pub sooner : moment ≤ new.clock
  pub past : (k : ℕ) (c : List ℕ) → k ≤ old.clock → new.image k c ↔ old.image k c
  pub before : (k : ℕ) (c : List ℕ) → old.clock < k → k < moment → new.image k c → Leaves old c
  pub after : (k : ℕ) (c : List ℕ) → moment ≤ k → k ≤ new.clock → new.image k c → P c

-- the first sync did not succeed, and nothing was done
abbrev pub IsUntouched : View → View → Type 0
IsUntouched old new = Rests old new

-- What a crash inside an opening with this fault leaves: a file that is refused stays as it is, and so does each file
-- where memory is wanting; where the device fails, one that stands for nothing does.
abbrev pub LeavesRefused : OpenFault → View → View → Type 0
LeavesRefused Foreign old new = IsSynced (λ c. c ≡ old.seen) old new
LeavesRefused (Damaged k) old new = IsSynced (λ c. c ≡ old.seen) old new
LeavesRefused Device old new = IsUntouched old new ⊎ IsSynced (KeepsFile old.seen) old new
LeavesRefused Memory old new = IsUntouched old new ⊎ IsSynced (λ c. c ≡ old.seen) old new

-- what holds with a fault that is not the device's
abbrev pub OnRefused : OpenFault → Type 0 → Type 0
OnRefused Foreign P = P
OnRefused (Damaged k) P = P
OnRefused Device P = Unit {0}
OnRefused Memory P = P
