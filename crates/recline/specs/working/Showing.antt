-- Parts of what the command `show` answers.
use Rattle.std.specs.Prelude.{◌≡◌, ℕ, List}
use Rattle.record_file.specs.File.{Stands}
use Rattle.earlier_file.specs.declared.found.FileFacts.{FileFacts}
use Rattle.desk.specs.Records.{Opens}
use Rattle.desk.specs.Desks.{DeskState}
use Rattle.line_disk.specs.declared.memory.MemoryDisk.{MemoryDisk}
use Rattle.recline.specs.declared.showing.Form.{Form}
use Rattle.recline.specs.Showing.{shown_text}

-- the desk was opened over a file of these bytes
abbrev pub IsDeskOf : List ℕ → DeskState MemoryDisk → Type 0
IsDeskOf bytes desk = Stands desk.found bytes × Opens desk.found desk.held

abbrev pub IsTextOf : List ℕ → FileFacts → DeskState MemoryDisk → Form → List ℕ → Type 0
IsTextOf bytes facts desk form text = text ≡ shown_text form facts desk.held desk.found
