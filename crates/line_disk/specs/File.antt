-- What callers see of a disk over a file.
use Rattle.std.specs.Prelude.{ℕ, List, Option}
use Rattle.line_disk.specs.Device.{Done, Leaving, Unread, held, view_by}
use Rattle.line_disk.specs.Disk.{View}
use Rattle.line_disk.specs.working.FileShadow.{first_of, calls_of}
use Rattle.line_disk.specs.declared.file.FileDisk.{FileDisk}
use Rattle.line_disk.specs.declared.trouble.FileTrouble.{FileTrouble}

-- what the file held when it was opened: the bytes that were read, and behind them those that no code has seen
abbrev pub file_first : {P : Type 0} → Unread → FileDisk P → List ℕ
file_first unread disk = first_of unread disk.shadow

-- the calls on it since, the newest first
abbrev pub file_calls : {P : Type 0} → FileDisk P → List Done
file_calls disk = calls_of disk.shadow

-- how many calls of it failed
abbrev pub file_failures : {P : Type 0} → FileDisk P → ℕ
file_failures disk = disk.failures.count

-- the first call of it that failed, if one did
abbrev pub file_trouble : {P : Type 0} → FileDisk P → Option FileTrouble
file_trouble disk = disk.failures.first

-- what it holds now
abbrev pub file_holds : {P : Type 0} → Unread → FileDisk P → List ℕ
file_holds unread disk = held (first_of unread disk.shadow) (calls_of disk.shadow)

-- what is seen of it as a disk
abbrev pub file_view : {P : Type 0} → Leaving → Unread → FileDisk P → View
file_view leaves unread disk = view_by leaves (first_of unread disk.shadow) (calls_of disk.shadow)
