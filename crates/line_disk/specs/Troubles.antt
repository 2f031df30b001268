-- What is told of the first call of a file that failed.
use Rattle.std.specs.Prelude.{◌≡◌, Option, Some, None, Result, Ok, Err}
use Rattle.line_disk.specs.declared.fault.DiskFault.{DiskFault}
use Rattle.line_disk.specs.declared.fault.DiskFault.TheVariants.{Device, Memory}
use Rattle.line_disk.specs.declared.trouble.FileCall.{FileCall}
use Rattle.line_disk.specs.declared.trouble.FileTrouble.{FileTrouble}

-- this call failed: what was told first stays, and where nothing was this call is told now
abbrev pub KeepsFirst : FileCall → Option FileTrouble → Option FileTrouble → Type 0
KeepsFirst call (Some first) new = new ≡ Some first
KeepsFirst call None new = (first : FileTrouble) × (new ≡ Some first) × (first.call ≡ call)

-- the same by a call's answer: where it is no fault of the device, what was told is as it was
abbrev pub TellsFirst : {T : Type 0} → FileCall → Result T DiskFault → Option FileTrouble → Option FileTrouble → Type 0
TellsFirst call (Ok _) old new = new ≡ old
TellsFirst call (Err Memory) old new = new ≡ old
TellsFirst call (Err Device) old new = KeepsFirst call old new
