-- What a record file says of turns.
use Rattle.std.specs.Prelude.{◌≡◌, ◌⊎◌, ℕ, ◌≤◌, List, [], ◌∷◌, ◌++◌, length, Contains, false, ⊤}
use Rattle.line_disk.specs.Disk.{one_more}
use Rattle.record_file.specs.File.{Said, Stands, line_limit}
use Rattle.report_line.specs.declared.call.Call.{Call}
use Rattle.report_line.specs.declared.call.Call.TheVariants as calls
use Rattle.report_line.specs.declared.reply.Outcome.TheVariants.{Before, Unknown}
use Rattle.report_line.specs.declared.reply.Reply.{Reply}
use Rattle.report_line.specs.declared.reply.Reply.TheVariants.{Accepted, Settled, Fail}
use Rattle.chains.specs.Held.{Held}
use Rattle.chains.specs.Processes.{IsKnown}
use Rattle.desk.specs.declared.turn.Turn.{Turn}
use Rattle.desk.specs.Records.{line_of, settle_line, IsRecordOf}

-- a report or a settlement whose line, without a mark, is no longer than a record holds, or another call
abbrev pub IsShort : Call → Type 0
IsShort (calls.Report m) = length (line_of m.report) ≤ line_limit
IsShort (calls.Settle front names) = length (settle_line front names) ≤ line_limit
IsShort _ = ⊤

-- The calls of which memory may be wanting without a turn: a question for the state of a process that is known, over a store that
-- is not stopped. No other question is answered by a text that takes memory, and a report's or a settlement's want of memory is a reply.
abbrev pub MayWantMemory : Held → Call → Type 0
MayWantMemory held (calls.State p) = (held.stopped ≡ false) × IsKnown held.accepted p
MayWantMemory held _ = ⊥

-- a turn with this record was answered FAIL unknown: it may be in the file
abbrev pub IsPending : ℕ → List Turn → Said → Type 0
IsPending epoch turns one = (turn : Turn) × Contains turns turn × IsRecordOf epoch turn.call one × (turn.receipt.reply ≡ Fail Unknown)

-- the file stands for these records, or for them and one that is pending
abbrev pub MayStandFor : List Said → ℕ → List Turn → List ℕ → Type 0
MayStandFor said epoch turns file = Stands said file ⊎ ((one : Said) × IsPending epoch turns one × Stands (said ++ one ∷ []) file)

-- the same, or for the records and that of this call, whose turn is under way
abbrev pub StandsWhile : List Said → ℕ → List Turn → Call → List ℕ → Type 0
StandsWhile said epoch turns call file = MayStandFor said epoch turns file ⊎ ((one : Said) × IsRecordOf epoch call one × Stands (said ++ one ∷ []) file)

-- the replies of turns that call the device
abbrev pub UsesDevice : Reply → Type 0
UsesDevice (Accepted front) = ⊤
UsesDevice (Settled epoch front) = ⊤
UsesDevice (Fail Before) = ⊤
UsesDevice (Fail Unknown) = ⊤
UsesDevice _ = ⊥

-- the device failed where the reply is FAIL before or FAIL unknown, and only there
abbrev pub CountsReply : Reply → ℕ → ℕ → Type 0
CountsReply (Fail Before) old new = new ≡ one_more old
CountsReply (Fail Unknown) old new = new ≡ one_more old
CountsReply _ old new = new ≡ old
