-- Working definitions: the calls that a disk in memory notes.
use Rattle.std.specs.Prelude.{ℕ, List, [], ◌∷◌, ◌++◌, replicate}
use Rattle.line_disk.specs.Calls as calls
use Rattle.line_disk.specs.Calls.{Call}
use Rattle.line_disk.specs.declared.change.Change.{Change}
use Rattle.line_disk.specs.declared.change.Change.TheVariants.{Write, Cut, Sync}
use Rattle.line_disk.specs.declared.change.Noted.{Noted}

abbrev pub call_of : Change → Call
call_of (Write at bytes) = calls.Write at bytes.items
call_of (Cut n) = calls.Cut n
call_of Sync = calls.Sync

-- each change, behind the calls before it that did nothing
abbrev pub noted_calls : List Noted → List Call
noted_calls [] = []
noted_calls (noted ∷ later) = replicate noted.idle calls.Idle ++ (call_of noted.change ∷ noted_calls later)

-- these changes, and then so many calls that did nothing
abbrev pub calls_in : List Noted → ℕ → List Call
calls_in changes idle = noted_calls changes ++ replicate idle calls.Idle
