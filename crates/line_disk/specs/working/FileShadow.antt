-- Working definitions: what is known of a file by its calls.
use Rattle.std.specs.Prelude.{ℕ, List, ◌++◌}
use Rattle.line_disk.specs.Device.{Done, Unread}
use Rattle.line_disk.specs.working.Log.{steps_in}
use Rattle.line_disk.specs.declared.file_shadow.FileShadow.{FileShadow}

-- the bytes that were read when it was opened
abbrev pub read_of : FileShadow → List ℕ
read_of shadow = shadow.read.value.items

-- how many stood behind them
abbrev pub unread_of : FileShadow → ℕ
unread_of shadow = shadow.unread.value

-- what the file held when it was opened
abbrev pub first_of : Unread → FileShadow → List ℕ
first_of unread shadow = read_of shadow ++ unread (read_of shadow) (unread_of shadow)

-- the calls on it since, the newest first
abbrev pub calls_of : FileShadow → List Done
calls_of shadow = steps_in shadow.log
