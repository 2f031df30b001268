-- Working definitions: how a fault is handed on.
use Rattle.line_disk.specs.declared.fault.DiskFault.{DiskFault}
use Rattle.line_disk.specs.declared.fault.DiskFault.TheVariants as disk
use Rattle.record_file.specs.declared.reading.ReadFault.{ReadFault}
use Rattle.record_file.specs.declared.reading.ReadFault.TheVariants as read
use Rattle.record_file.specs.declared.fault.OpenFault.{OpenFault}
use Rattle.record_file.specs.declared.fault.OpenFault.TheVariants.{Foreign, Damaged, Device, Memory}

abbrev pub from_disk : DiskFault → OpenFault
from_disk disk.Device = Device
from_disk disk.Memory = Memory

abbrev pub from_read : ReadFault → OpenFault
from_read read.Foreign = Foreign
from_read (read.Damaged k) = Damaged k
from_read read.Memory = Memory
