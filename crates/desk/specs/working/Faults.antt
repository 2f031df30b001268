-- Working definition: how a fault of the store is told on.
use Rattle.record_file.specs.declared.fault.OpenFault.{OpenFault}
use Rattle.record_file.specs.declared.fault.OpenFault.TheVariants as store
use Rattle.desk.specs.declared.fault.DeskFault.{DeskFault}
use Rattle.desk.specs.declared.fault.DeskFault.TheVariants.{Foreign, Damaged, Device, Memory}

abbrev pub from_store : OpenFault → DeskFault
from_store store.Foreign = Foreign
from_store (store.Damaged k) = Damaged k
from_store store.Device = Device
from_store store.Memory = Memory
