-- Questions in one opening of a record file and in later ones: no line is below an earlier garbage line.
use Rattle.std.specs.Prelude.{◌≡◌, ℕ, List, [], ◌∷◌, ◌++◌, ⊤}
use Rattle.record_file.specs.File.{Said}
use Rattle.report_line.specs.Reports.{unmarked}
use Rattle.report_line.specs.Spelling.{HasSpelling}
use Rattle.report_line.specs.declared.call.Call.{Call}
use Rattle.report_line.specs.declared.call.Call.TheVariants as calls
use Rattle.report_line.specs.declared.reply.Reply.{Reply}
use Rattle.chains.specs.Processes.{Name}
use Rattle.chains.specs.Held.{Held}
use Rattle.line_answer.specs.Questions.{IsLineFor}
use Rattle.law_turns.specs.Traces.{Trace, Stepped, Turned, AreTurns, ProcessesObey}
use Rattle.desk.specs.declared.turn.Turn.{Turn}
use Rattle.desk.specs.Files.{UsesDevice}
use Rattle.desk.specs.Lawful.{unstopped}
use Rattle.desk.specs.Records.{Opens, recorded}
use Rattle.desk.specs.Replays.{Replays}
use Rattle.session.specs.Exchanges.{Exchange, ReplayTo}
use Rattle.session.specs.SessionText.{Mean}
use Rattle.session.specs.Current.{traced, trace_of, recorded_in, AreInOrder}

-- ---- what a file says by the time of a question

-- a report or a settlement for which the device is called has a line, which a record can hold
abbrev pub IsRecordable : Call → Reply → Type 0
IsRecordable (calls.Report m) reply = UsesDevice reply → HasSpelling (calls.Report (unmarked m.report))
IsRecordable (calls.Settle front names) reply = UsesDevice reply → HasSpelling (calls.Settle front names)
IsRecordable call reply = ⊤

-- and so it is with each turn of the trace
abbrev pub AreRecordable : Trace → Type 0
AreRecordable [] = ⊤
AreRecordable (Stepped e s ∷ trace) = AreRecordable trace
AreRecordable (Turned call reply ∷ trace) = IsRecordable call reply × AreRecordable trace

-- A file of the records that were found was opened, and the turns since then come to what is held: by then these are its records,
-- those that were found and those of the turns.
pub record IsHeldOver (said : List Said) (held : Held) : Type 0 where
  pub found : List Said
  pub opening : Held
  pub opened : Opens found opening
  pub turns : Trace
  pub come : AreTurns opening turns held
  pub recordable : AreRecordable turns
  pub said_is : said ≡ found ++ recorded_in turns

-- Whoever opens these records comes to what is held, over a store that is not stopped.
abbrev pub WhatIsHeldIsOpened : Type 0
WhatIsHeldIsOpened = (said : List Said) (held : Held) → IsHeldOver said held → Opens said (unstopped held)

-- So it is at each place in a session over a desk that was opened, whose turns are of calls that were read.
abbrev pub SessionsAreOverFiles : Type 0
SessionsAreOverFiles =
    (found : List Said) (opening at : Held) (lines : List (List ℕ)) (exchanges before later : List Exchange) → Opens found opening
    → Mean lines exchanges → exchanges ≡ before ++ later → ReplayTo opening before at
    → AreRecordable (traced before) × IsHeldOver (found ++ recorded_in (traced before)) at

-- And so it is behind turns of a desk that clients share.
abbrev pub DesksAreOverFiles : Type 0
DesksAreOverFiles =
    (found : List Said) (opening at : Held) (turns : List Turn) → Opens found opening → AreRecordable (trace_of turns) → Replays opening turns at
    → IsHeldOver (found ++ recorded turns) at

-- Each file that is opened has such a trace of turns: there is none whose records cannot be told so.
abbrev pub EachFileHasATrace : Type 0
EachFileHasATrace = (said : List Said) (held : Held) → Opens said held → (turns : Trace) × (recorded_in turns ≡ said) × AreRecordable turns

-- ---- no line is below an earlier garbage line

-- Of two questions, in one opening of a file or in two: where the records by the later one begin with those by the one for GARBAGE, its
-- line is not below that, whatever was turned down, failed, stopped or opened again in between. The processes obey from the first record on.
abbrev pub NoLineIsBelowGarbageOverFiles : Type 0
NoLineIsBelowGarbageOverFiles =
    (root : Name) (said more : List Said) (first at : Held) (call : Call) (lowest text : List ℕ) (earlier since : Trace)
    → IsHeldOver said first → IsLineFor first calls.Garbage lowest
    → IsHeldOver (said ++ more) at → IsLineFor at call text
    → recorded_in earlier ≡ said → recorded_in since ≡ more → AreRecordable (earlier ++ since) → ProcessesObey root [] (earlier ++ since)
    → AreInOrder first at lowest text
