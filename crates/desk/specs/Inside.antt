-- Working definition: what a desk is seen as, by what it keeps.
use Rattle.line_disk.specs.declared.disk.Disk.{Ghosts}
use Rattle.record_file.specs.Store.{disk_of, found_records, is_stopped}
use Rattle.chains.specs.Held.{held_of, held_with}
use Rattle.desk.specs.Desks.{DeskState}
use Rattle.desk.specs.declared.desk.Desk.TheInside.{Inside}

abbrev pub desk_in : {D : Type 0} {g : Ghosts D} → Inside D g → DeskState D
desk_in desk = record {
  held = held_with desk.chains (is_stopped desk.store);
  opening = held_of desk.opening;
  found = found_records desk.store;
  turns = desk.turns.items;
  disk = disk_of desk.store;
}
