-- What the command `explain` answers.
use Rattle.std.specs.Prelude.{◌≡◌, ◌⊎◌, ℕ, true, false, List, [], ◌++◌, codes}
use Rattle.std.specs.Io.KnownBytes.{Appends, Consumes, IsAtEnd}
use Rattle.report_line.specs.Cutting.{ended}
use Rattle.client_link.specs.Links.{LinkState, IsSound, IsFault}
use Rattle.line_explain.specs.declared.explained.Explained.{Explained}
use Rattle.line_explain.specs.Streams.{Explain, told_lines, are_calls, IsTooLong}
use Rattle.recline.specs.Outcome.{Tells}
use Rattle.recline.specs.Driving.{HasFewReads, ReadsInVain}
use Rattle.recline.specs.declared.explaining.LinesEnd.{LinesEnd}
use Rattle.recline.specs.declared.explaining.LinesEnd.TheVariants as ends

-- The status of the process: each line is a call, or one is not, or a device or memory failed.
abbrev pub lines_status : LinesEnd → ℕ
lines_status (ends.Told true) = 0
lines_status (ends.Told false) = 4
lines_status ends.Memory = 3
lines_status ends.Device = 3

-- the fault line; where all lines were explained there is none
abbrev pub lines_fault : LinesEnd → List ℕ
lines_fault (ends.Told calls) = []
lines_fault ends.Memory = ended (codes "recline: memory")
lines_fault ends.Device = ended (codes "recline: device")

-- all that was taken was handed on, unless nothing was read yet
abbrev pub Flushes : LinkState → LinkState → List ℕ → Type 0
Flushes old new stream = (new.waiting ≡ []) ⊎ ((stream ≡ []) × (new.waiting ≡ old.waiting))

-- These bytes were read, and of this stream each whole line was explained, and a line that is too long: that was written, and
-- no more.
pub record HasExplained (old new : LinkState) (bytes stream : List ℕ) (told : List Explained) : Type 0 where
  pub consumed : Consumes old.left new.left bytes
  pub explain : Explain stream told
  pub written : Appends old.held new.held (told_lines 1 told)
  pub flushed : Flushes old new stream

-- these bytes were read, and of what is said of their lines a part was written, be it all but the flush, and a call failed
pub record ExplainsPart (old new : LinkState) (stream : List ℕ) : Type 0 where
  pub told : List Explained
  pub consumed : Consumes old.left new.left stream
  pub explain : Explain stream told
  pub part : List ℕ
  pub more : List ℕ
  pub text_is : told_lines 1 told ≡ part ++ more
  pub written : Appends old.held new.held part
  pub fault : IsFault old new

-- What was done over a link: all that there was to read was read, or all up to a line that is too long, and explained; or memory was
-- wanting for the lines of the last piece. On a fault a write failed; or a read did, or the stream had no end, where all lines of what
-- was read are explained.
abbrev pub IsExplainedOver : LinkState → LinkState → LinesEnd → Type 0
IsExplainedOver old new (ends.Told calls) =
    (stream : List ℕ) × (told : List Explained) × HasExplained old new stream stream told × (calls ≡ are_calls told) × (IsAtEnd new.left ⊎ IsTooLong stream) × IsSound old new
IsExplainedOver old new ends.Memory = (stream piece : List ℕ) × (told : List Explained) × HasExplained old new (stream ++ piece) stream told × IsSound old new
IsExplainedOver old new ends.Device =
    ((stream : List ℕ) × ExplainsPart old new stream)
    ⊎ ((stream : List ℕ) × (told : List Explained) × HasExplained old new stream stream told × ReadsInVain old new)

-- The lines that the client's link gave were explained; the status and the fault line say how that ended.
pub record ExplainsOn {K F : Type 0} (client_told : K → LinkState) (faults_told : F → LinkState) (client client_after : K) (faults faults_after : F) (status : ℕ) : Type 0 where
  pub end : LinesEnd
  pub explained : IsExplainedOver (client_told client) (client_told client_after) end
  pub few : HasFewReads (client_told client) (client_told client_after)
  pub status_is : status ≡ lines_status end
  pub faults_are : Tells (faults_told faults) (faults_told faults_after) (lines_fault end)
