-- What a disk's calls do to its file, and what a crash may leave of it.
use Rattle.std.specs.Prelude.{◌≡◌, ◌↔◌, ℕ, ◌+◌, ◌-◌, ◌^◌, ◌<◌, ◌≤◌, min, max, List, [], ◌++◌, length, take, drop, Result, Ok, Err}
use Rattle.line_disk.specs.declared.fault.DiskFault.{DiskFault}
use Rattle.line_disk.specs.declared.fault.DiskFault.TheVariants.{Device, Memory}

-- A disk at a moment.
pub record View : Type 1 where
  -- what a read gives
  pub seen : List ℕ
  -- this moment; it never falls
  pub clock : ℕ
  -- what a crash at a moment up to this one could leave
  pub image : ℕ → List ℕ → Type 0

-- a disk of which nothing is kept
abbrev pub nothing_kept : View
nothing_kept = record { seen = []; clock = 0; image = λ k c. ⊥ }

-- what a crash now could leave
abbrev pub Leaves : View → List ℕ → Type 0
Leaves disk file = disk.image disk.clock file

-- a crash now leaves this and nothing else
abbrev pub LeavesOnly : View → List ℕ → Type 0
LeavesOnly disk file = (c : List ℕ) → Leaves disk c → c ≡ file

-- Of a file whose n bytes at an offset are being written: they and what is past the old end are any bytes,
-- the others stay, and the length lies between the old one and that of the whole write.
pub record IsTorn (at n : ℕ) (old new : List ℕ) : Type 0 where
  pub before : take at new ≡ take at old
  pub after : drop (at + n) new ≡ drop (at + n) old
  pub no_shorter : length old ≤ length new
  pub no_longer : length new ≤ max (length old) (at + n)

-- Of a file that is being cut to n bytes: it has lost some of those behind, or none.
pub record IsShortened (n : ℕ) (old new : List ℕ) : Type 0 where
  pub no_shorter : min n (length old) ≤ length new
  pub no_longer : length new ≤ length old
  pub front : new ≡ take (length new) old

-- the file after a write
abbrev pub written : List ℕ → ℕ → List ℕ → List ℕ
written file at bytes = take at file ++ bytes ++ drop (at + length bytes) file

-- A call: what a crash could leave at the moments up to it stays as it was, and at each moment since it
-- is what a crash at the call could leave, after this step.
pub record Passes (step : List ℕ → List ℕ → Type 0) (old new : View) : Type 0 where
  pub later : old.clock ≤ new.clock
  pub past : (k : ℕ) (c : List ℕ) → k ≤ old.clock → new.image k c ↔ old.image k c
  pub since : (k : ℕ) (c : List ℕ) → old.clock < k → k ≤ new.clock → new.image k c → (d : List ℕ) × Leaves old d × step d c

-- a call that changes nothing
abbrev pub Rests : View → View → Type 0
Rests old new = Passes (λ d c. c ≡ d) old new × (new.seen ≡ old.seen)

-- a call that did nothing: what a read gives and what a crash could leave is as it was
abbrev pub DidNothing : View → View → Type 0
DidNothing old new = (new.seen ≡ old.seen) × ((c : List ℕ) → Leaves new c ↔ Leaves old c)

-- a whole write: a crash could leave just what it could leave before, with the written range and what is past the end torn
abbrev pub DidWrite : ℕ → List ℕ → View → View → Type 0
DidWrite at bytes old new = (new.seen ≡ written old.seen at bytes) × ((c : List ℕ) → Leaves new c ↔ ((d : List ℕ) × Leaves old d × IsTorn at (length bytes) d c))

-- a whole cut
abbrev pub DidCut : ℕ → View → View → Type 0
DidCut n old new = (new.seen ≡ take n old.seen) × ((c : List ℕ) → Leaves new c ↔ ((d : List ℕ) × Leaves old d × IsShortened n d c))

-- a whole sync
abbrev pub DidSync : View → View → Type 0
DidSync old new = (new.seen ≡ old.seen) × LeavesOnly new old.seen

-- the count of failures after one more; it stays at its limit
abbrev pub one_more : ℕ → ℕ
one_more count = min (count + 1) (2 ^ 64 - 1)

-- a call that answers a fault of the device is counted, and no other is
abbrev pub Counts : {T : Type 0} → Result T DiskFault → ℕ → ℕ → Type 0
Counts (Ok _) old new = new ≡ old
Counts (Err Device) old new = new ≡ one_more old
Counts (Err Memory) old new = new ≡ old

-- the same, of a call that never answers want of memory
abbrev pub CountsDevice : {T : Type 0} → Result T DiskFault → ℕ → ℕ → Type 0
CountsDevice (Ok _) old new = new ≡ old
CountsDevice (Err Device) old new = new ≡ one_more old
CountsDevice (Err Memory) old new = ⊥

-- A crash at any moment from the one of a call on leaves a file that has P. What it could leave before stays as it was.
pub record LeavesAlways (P : List ℕ → Type 0) (old new : View) : Type 0 where
  pub later : old.clock ≤ new.clock
  pub past : (k : ℕ) (c : List ℕ) → k ≤ old.clock → new.image k c ↔ old.image k c
  pub each : (k : ℕ) (c : List ℕ) → old.clock ≤ k → k ≤ new.clock → new.image k c → P c
