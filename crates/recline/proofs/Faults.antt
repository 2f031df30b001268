-- Faults that are not of a device.
use Rattle.std.proofs.Common.{◌≡◌}
use Rattle.desk.specs.declared.fault.DeskFault.TheVariants.{Device, Memory}

pub memory_is_not_device : Memory ≡ Device → ⊥
memory_is_not_device is = cc
