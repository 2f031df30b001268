-- How far a record came in a turn, by the reply.
use Rattle.std.specs.Prelude.{ℕ, List, [], ◌∷◌, ◌++◌, ⊤}
use Rattle.line_disk.specs.Disk.{View, Leaves, LeavesAlways}
use Rattle.record_file.specs.File.{Said, Stands}
use Rattle.record_file.specs.Staging.{WasStaged}
use Rattle.report_line.specs.declared.call.Call.{Call}
use Rattle.report_line.specs.declared.reply.Outcome.TheVariants.{Before, Unknown}
use Rattle.report_line.specs.declared.reply.Reply.{Reply}
use Rattle.report_line.specs.declared.reply.Reply.TheVariants.{Accepted, Settled, Fail}
use Rattle.desk.specs.Records.{IsRecordOf}

-- This record stood whole behind the closed gate of a file of the earlier ones, before that gate was written. Then the gate was opened,
-- and a crash leaves a file of them all.
abbrev pub IsWritten : List Said → Said → View → View → Type 0
IsWritten said one old new = WasStaged said one old new × ((c : List ℕ) → Leaves new c → Stands (said ++ one ∷ []) c)

-- With OK and SETTLED the record was written; with FAIL before a crash left the file without it at each moment of the turn; with
-- FAIL unknown the record was in the file, and its gate was under way.
abbrev pub IsPlaced : Reply → List Said → Said → View → View → Type 0
IsPlaced (Accepted front) said one old new = IsWritten said one old new
IsPlaced (Settled epoch front) said one old new = IsWritten said one old new
IsPlaced (Fail Before) said one old new = LeavesAlways (Stands said) old new
IsPlaced (Fail Unknown) said one old new = WasStaged said one old new
IsPlaced _ said one old new = ⊤

-- the same, of the record of a call
abbrev pub IsPlacedBy : Reply → List Said → ℕ → Call → View → View → Type 0
IsPlacedBy reply said epoch call old new = (one : Said) → IsRecordOf epoch call one → IsPlaced reply said one old new
