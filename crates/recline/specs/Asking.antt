-- What is answered to one question over the bytes of a record file.
use Rattle.std.specs.Prelude.{◌≡◌, ◌≢◌, ◌⊎◌, ◌==◌, nat_eq, ℕ, ◌-◌, Bool, false, if◌then◌else◌, List, [], ◌∷◌, ◌++◌, codes, length, take, drop, None, Some, ⊤}
use Rattle.std.specs.List.{starts_with}
use Rattle.std.specs.Io.KnownBytes.{Appends}
use Rattle.line_disk.specs.Tape.{disk_view, disk_failures}
use Rattle.line_disk.specs.declared.memory.MemoryDisk.{MemoryDisk}
use Rattle.record_file.specs.File.{Said, Stands}
use Rattle.report_line.specs.Cutting.{NoBreak, ended}
use Rattle.report_line.specs.declared.call.Call.{Call}
use Rattle.report_line.specs.declared.call.Call.TheVariants as calls
use Rattle.report_line.specs.declared.reply.Reply.TheVariants as replies
use Rattle.chains.specs.Processes.{Name}
use Rattle.chains.specs.Held.{Held}
use Rattle.law_lines.specs.Headline.{IsRightLine}
use Rattle.line_answer.specs.Asking.{AsksForLine}
use Rattle.desk.specs.Desks.{DeskState}
use Rattle.desk.specs.Lawful.{IsLawfulDesk}
use Rattle.desk.specs.Records.{Opens}
use Rattle.desk.specs.declared.fault.DeskFault.TheVariants as opening
use Rattle.client_link.specs.Links.{LinkState}
use Rattle.session.specs.Ends.{Ended, Leaves}
use Rattle.session.specs.Exchanges.{Exchange}
use Rattle.session.specs.SessionText.{Means, exchange_line}
use Rattle.session.specs.Turned.{IsExchange, ShowsChosen}
use Rattle.session.specs.declared.flush_policy.FlushPolicy.TheVariants as flush_policies
use Rattle.session.specs.declared.kind.SessionEndKind.{SessionEndKind}
use Rattle.session.specs.declared.kind.SessionEndKind.TheVariants as kinds
use Rattle.recline.specs.Driving.{WritesAll, WritesPart}
use Rattle.recline.specs.Outcome.{IsNotOpened, IsOpened, Tells, open_fault_line}
use Rattle.recline.specs.declared.asking.Question.{Question}
use Rattle.recline.specs.declared.asking.Question.TheVariants.{Line, Garbage}

-- the line that a client would send: for the line of the failed processes that are listed so, or for the garbage line
abbrev pub question_line : Question → List ℕ
question_line (Line names) = codes "LINE " ++ names.now
question_line Garbage = codes "GARBAGE"

-- no LF is among its names, so that it is one line
abbrev pub IsOneLine : Question → Type 0
IsOneLine (Line names) = NoBreak names.now
IsOneLine Garbage = ⊤

-- ---- the status and the fault line

-- whether the reply is a LINE: no other reply begins with L
abbrev pub is_line : List ℕ → Bool
is_line [] = false
is_line (b ∷ bs) = b == 76

-- the name in the reply `NO 3 NAME -`, whose line has 8 bytes beside it
abbrev pub name_in : List ℕ → List ℕ
name_in reply = take (length reply - 8) (drop 5 reply)

-- why a question is refused, by the line of its reply
abbrev pub refusal_line : List ℕ → List ℕ
refusal_line reply =
    if starts_with nat_eq reply (codes "NO 3 ") then ended (codes "recline: unknown " ++ name_in reply)
    else if starts_with nat_eq reply (codes "NO 14 ") then ended (codes "recline: nothing begun")
    else if starts_with nat_eq reply (codes "NO 16 ") then ended (codes "recline: memory")
    else ended (codes "recline: no list of names")

-- the status, by the line of the reply: a line was shown, or the question was refused
abbrev pub asked_status : List ℕ → ℕ
asked_status reply = if is_line reply then 0 else 4

-- the fault line; a line that is shown has none
abbrev pub asked_fault : List ℕ → List ℕ
asked_fault reply = if is_line reply then [] else refusal_line reply

-- The reply was written to the client and handed on, and the status and the fault line say what it is; or a part of it was written, and a
-- call of the client failed.
abbrev pub HandsOver : {F : Type 0} → (F → LinkState) → List ℕ → LinkState → LinkState → F → F → ℕ → Type 0
HandsOver faults_told reply client client_after faults faults_after status =
    (WritesAll client client_after reply × (status ≡ asked_status reply) × Tells (faults_told faults) (faults_told faults_after) (asked_fault reply))
    ⊎ (WritesPart client client_after reply × (status ≡ 3) × Tells (faults_told faults) (faults_told faults_after) (open_fault_line opening.Device))

-- A session with a question has its whole reply: it ended with its input, or with a line that is too long. One line in memory ends no session
-- otherwise, unless memory is missing.
abbrev pub HasReply : SessionEndKind → Type 0
HasReply kinds.End = ⊤
HasReply kinds.TooLong = ⊤
HasReply _ = ⊥

-- ---- what was done

-- a link in memory that gives these bytes, and to which nothing was written
abbrev pub asking : List ℕ → LinkState
asking bytes = record { left = Some bytes; held = Some []; waiting = []; reads = 0; failures = 0; stalls = 0; ended = None }

-- what is premised of a disk in memory
abbrev pub keeps_always : MemoryDisk → Type 0
keeps_always disk = Unit {0}

-- A session over this desk with a client that sends these bytes and no more, in memory. What it wrote is the whole reply, which was handed
-- over.
pub record IsAskedOf {F : Type 0} (faults_told : F → LinkState) (sent : List ℕ) (desk after : DeskState MemoryDisk) (client client_after : LinkState) (faults faults_after : F) (status : ℕ) : Type 0 where
  pub link : LinkState
  pub kind : SessionEndKind
  pub replies : ℕ
  pub session : Ended keeps_always (λ (state : LinkState). state) flush_policies.EachRead (asking sent) link desk after kind replies
  pub leaves : Leaves kind (asking sent) link
  pub reply : List ℕ
  pub reply_is : link.held ≡ Some reply
  pub whole : HasReply kind
  pub handed : HandsOver faults_told reply client client_after faults faults_after status

-- memory was missing: nothing was written to the client
pub record AsksNone {F : Type 0} (faults_told : F → LinkState) (client client_after : LinkState) (faults faults_after : F) (status : ℕ) : Type 0 where
  pub client_rests : client_after ≡ client
  pub status_is : status ≡ 3
  pub faults_are : Tells (faults_told faults) (faults_told faults_after) (open_fault_line opening.Memory)

-- it was asked of this desk
abbrev pub AsksDesk : {F : Type 0} → (F → LinkState) → List ℕ → DeskState MemoryDisk → DeskState MemoryDisk → LinkState → LinkState → F → F → ℕ → Type 0
AsksDesk faults_told sent desk after client client_after faults faults_after status =
    IsAskedOf faults_told sent desk after client client_after faults faults_after status
    ⊎ AsksNone faults_told client client_after faults faults_after status

-- the file on this disk was opened, and it was asked of the desk of it
pub record AsksOpened {F : Type 0} (faults_told : F → LinkState) (disk : MemoryDisk) (sent : List ℕ) (client client_after : LinkState) (faults faults_after : F) (status : ℕ) : Type 0 where
  pub desk : DeskState MemoryDisk
  pub after : DeskState MemoryDisk
  pub opened : IsOpened keeps_always disk_view disk desk
  pub asks : AsksDesk faults_told sent desk after client client_after faults faults_after status
  pub lawful : IsLawfulDesk keeps_always disk_view after

-- the file on this disk was not opened
abbrev pub AsksUnopened : {F : Type 0} → (F → LinkState) → MemoryDisk → LinkState → LinkState → F → F → ℕ → Type 0
AsksUnopened faults_told disk client client_after faults faults_after status =
    (disk_after : MemoryDisk) × IsNotOpened keeps_always disk_view disk_failures faults_told disk disk_after client client_after faults faults_after status

abbrev pub AsksOver : {F : Type 0} → (F → LinkState) → MemoryDisk → List ℕ → LinkState → LinkState → F → F → ℕ → Type 0
AsksOver faults_told disk sent client client_after faults faults_after status =
    AsksOpened faults_told disk sent client client_after faults faults_after status
    ⊎ AsksUnopened faults_told disk client client_after faults faults_after status

-- it was so over a copy of these bytes
pub record AsksCopy {F : Type 0} (faults_told : F → LinkState) (bytes sent : List ℕ) (client client_after : LinkState) (faults faults_after : F) (status : ℕ) : Type 0 where
  pub disk : MemoryDisk
  pub seen : (disk_view disk).seen ≡ bytes
  pub over : AsksOver faults_told disk sent client client_after faults faults_after status

abbrev pub AsksOn : {F : Type 0} → (F → LinkState) → List ℕ → List ℕ → LinkState → LinkState → F → F → ℕ → Type 0
AsksOn faults_told bytes sent client client_after faults faults_after status =
    AsksCopy faults_told bytes sent client client_after faults faults_after status
    ⊎ AsksNone faults_told client client_after faults faults_after status

-- ---- one question, one answer

-- what is shown as a LINE is right over what is held: the greatest closed cut of every lawful history that agrees with what was accepted
abbrev pub ShowsRight : Held → Exchange → Type 0
ShowsRight held exchange =
    (text : List ℕ) → exchange.shown ≡ replies.Line text → (names : List Name) × AsksForLine held exchange.call names × IsRightLine held names text

-- a LINE is shown; or none is, so that the question was refused
abbrev pub ShowsLine : Exchange → Type 0
ShowsLine exchange = (text : List ℕ) × (exchange.shown ≡ replies.Line text)

abbrev pub ShowsNoLine : Exchange → Type 0
ShowsNoLine exchange = (text : List ℕ) → exchange.shown ≢ replies.Line text

-- the calls that a question is read as: it asks for a line, or is no call, or memory was wanting
abbrev pub IsAsked : Call → Type 0
IsAsked (calls.Line names) = ⊤
IsAsked calls.Garbage = ⊤
IsAsked (calls.Bad n) = ⊤
IsAsked calls.Unread = ⊤
IsAsked _ = ⊥

-- The line took one turn over what is held, and its reply was written and handed on.
pub record IsReplied (held : Held) (line : List ℕ) (old new : LinkState) : Type 0 where
  pub exchange : Exchange
  pub after : Held
  pub means : Means line exchange.call
  pub asked : IsAsked exchange.call
  pub turned : IsExchange held exchange after
  pub right : ShowsRight held exchange
  pub chosen : ShowsChosen held exchange
  pub written : Appends old.held new.held (exchange_line exchange)
  pub nothing_waits : new.waiting ≡ []

-- The bytes are a file of records that are admitted, and the line was answered over what that comes to.
pub record IsAnswered (bytes line : List ℕ) (old new : LinkState) : Type 0 where
  pub said : List Said
  pub held : Held
  pub stands : Stands said bytes
  pub opened : Opens said held
  pub replied : IsReplied held line old new

-- the line was answered by a LINE
abbrev pub IsAnsweredByLine : List ℕ → List ℕ → LinkState → LinkState → Type 0
IsAnsweredByLine bytes line old new = (answered : IsAnswered bytes line old new) × ShowsLine answered.replied.exchange

-- the line was answered by another reply, and the fault line says why
pub record IsRefused {F : Type 0} (faults_told : F → LinkState) (bytes line : List ℕ) (old new : LinkState) (faults faults_after : F) : Type 0 where
  pub answered : IsAnswered bytes line old new
  pub none : ShowsNoLine answered.replied.exchange
  pub told : Tells (faults_told faults) (faults_told faults_after) (refusal_line (exchange_line answered.replied.exchange))
