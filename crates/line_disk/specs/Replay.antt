-- What a disk in memory holds, and what a crash could leave of it, by the calls that it did.
use Rattle.std.specs.Prelude.{◌≡◌, ℕ, zero, suc, List, [], ◌∷◌, length, take, if◌then◌else◌, nat_le}
use Rattle.line_disk.specs.Disk.{View, IsTorn, IsShortened, written}
use Rattle.line_disk.specs.Calls.{Call, Write, Cut, Sync, Idle}

-- the file after a call
abbrev pub after_call : List ℕ → Call → List ℕ
after_call file (Write at bytes) = if nat_le at (length file) then written file at bytes else file
after_call file (Cut n) = take n file
after_call file Sync = file
after_call file Idle = file

-- the file after some calls
abbrev pub after_calls : List ℕ → List Call → List ℕ
after_calls file [] = file
after_calls file (call ∷ calls) = after_calls (after_call file call) calls

-- what a crash after a call could leave, where a crash before it could leave these
abbrev pub left_by : List ℕ → (List ℕ → Type 0) → Call → List ℕ → Type 0
left_by file images (Write at bytes) c = (d : List ℕ) × images d × IsTorn at (length bytes) d c
left_by file images (Cut n) c = (d : List ℕ) × images d × IsShortened n d c
left_by file images Sync c = c ≡ file
left_by file images Idle c = images c

-- what a crash after some calls could leave
abbrev pub left_by_calls : List ℕ → (List ℕ → Type 0) → List Call → List ℕ → Type 0
left_by_calls file images [] c = images c
left_by_calls file images (call ∷ calls) c = left_by_calls (after_call file call) (left_by file images call) calls c

-- a disk that held these bytes at first, all of them durable, and then did these calls
abbrev pub replay : List ℕ → List Call → View
replay first calls = record {
  seen = after_calls first calls;
  clock = length calls;
  image = λ k c. left_by_calls first (λ f. f ≡ first) (take k calls) c;
}

-- the file after the first n bytes of a write
abbrev pub after_part : List ℕ → Call → ℕ → List ℕ
after_part file (Write at bytes) n = if nat_le at (length file) then written file at (take n bytes) else file
after_part file (Cut m) n = file
after_part file Sync n = file
after_part file Idle n = file

-- the file after k calls and the first n bytes of the next one, if that is a write
abbrev pub image_at : List ℕ → List Call → ℕ → ℕ → List ℕ
image_at file [] k n = file
image_at file (call ∷ calls) zero n = after_part file call n
image_at file (call ∷ calls) (suc k) n = image_at (after_call file call) calls k n
