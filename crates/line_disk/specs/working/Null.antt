-- What callers see of a disk that keeps nothing.
use Rattle.std.specs.Prelude.{ℕ}
use Rattle.line_disk.specs.declared.null.NullDisk.{NullDisk}

-- how many calls failed
abbrev pub null_failures : NullDisk → ℕ
null_failures disk = disk.failures
