-- Working definitions: the parts of a session.
use Rattle.std.specs.Prelude.{◌≡◌, ◌≢◌, ℕ, ◌+◌, ◌<◌, ◌≤◌, ◌⊎◌, List, [], ◌∷◌, ◌++◌, length, Option, Some, None, IsSome, IsNone, Result, Ok, Err, ⊤}
use Rattle.std.specs.Io.KnownBytes.{Appends, Consumes, IsAtEnd}
use Rattle.desk.specs.Desks.{DeskState}
use Rattle.desk.specs.Files.{MayWantMemory}
use Rattle.desk.specs.Lawful.{turn_limit}
use Rattle.desk.specs.declared.turn.TurnFault.{TurnFault}
use Rattle.desk.specs.declared.turn.TurnFault.TheVariants as refusals
use Rattle.report_line.specs.declared.call.Call.{Call}
use Rattle.report_line.specs.declared.call.Call.TheVariants as calls
use Rattle.report_line.specs.declared.fault.LineFault.{LineFault}
use Rattle.report_line.specs.declared.fault.LineFault.TheVariants as faults
use Rattle.report_line.specs.declared.reply.Reply.{Reply}
use Rattle.report_line.specs.Cutting.{Stand, ended, cut_from, cut_of}
use Rattle.report_line.specs.Replies.{reply_text}
use Rattle.coordinator.specs.Passes.{PassEntry}
use Rattle.coordinator.specs.declared.fault.CallFault.{CallFault}
use Rattle.coordinator.specs.declared.fault.CallFault.TheVariants as refused
use Rattle.session.specs.Exchanges.{Exchange}
use Rattle.session.specs.declared.kind.SessionEndKind.{SessionEndKind}
use Rattle.session.specs.declared.kind.SessionEndKind.TheVariants as kinds
use Rattle.client_link.specs.declared.link.LinkFault.{LinkFault}
use Rattle.client_link.specs.Links.{up, LinkState, IsSound, IsFault, IsFlush, Puts}
use Rattle.session.specs.SessionText.{Mean, NoBye, LastSaysBye, ServedOver, IsWorn, IsUnmade, IsForeign, session_text, ending_line, ending_count, IsCutShort, IsCutInReply, joined, most_reads, AreNonEmptyReads, IsSession}
use Rattle.session.specs.Turned.{MakesTurns}
use Rattle.session.specs.declared.flush_policy.FlushPolicy.{FlushPolicy}
use Rattle.session.specs.declared.flush_policy.FlushPolicy.TheVariants as flush_policies
use Rattle.session.specs.Ends.{IsPrompt, EachHasGone}

-- ---- a turn

-- the call that a line is read as
abbrev pub call_read : Result Call LineFault → Call
call_read (Ok call) = call
call_read (Err faults.Grammar) = calls.Bad 1
call_read (Err faults.Memory) = calls.Unread

-- why a call took no turn: all were made; or it is a question that takes memory, which was wanting
abbrev pub TakesNone : {D : Type 0} → DeskState D → Call → TurnFault → Type 0
TakesNone desk call refusals.Worn = length desk.turns ≡ turn_limit
TakesNone desk call refusals.Memory = (length desk.turns ≢ turn_limit) × MayWantMemory desk.held call

-- why the session ends then
abbrev pub ended_by : TurnFault → SessionEndKind
ended_by refusals.Worn = kinds.Worn
ended_by refusals.Memory = kinds.Memory

-- the call took its turn, and this is shown; or it took none
abbrev pub MakesTurn : {D : Type 0} → (D → Type 0) → DeskState D → Call → DeskState D → Result Reply TurnFault → Type 0
MakesTurn keeps desk call after (Ok shown) = (reply : Reply) × MakesTurns keeps desk (record { call = call; reply = reply; shown = shown } ∷ []) after
MakesTurn keeps desk call after (Err fault) = (after ≡ desk) × TakesNone desk call fault

-- why the session ends where a coordinator's call made no turn
abbrev pub refused_as : CallFault → SessionEndKind
refused_as (refused.Foreign front seen turns last) = kinds.Foreign
refused_as refused.Worn = kinds.Worn
refused_as refused.Memory = kinds.Memory

-- the reply that is shown last was sent, with an LF
abbrev pub PutsLast : {E : Type 0} → List PassEntry → LinkState → LinkState → Result (Unit {0}) E → Type 0
PutsLast entries old new result = (before : List PassEntry) (last : PassEntry) → entries ≡ before ++ last ∷ [] → Puts old new result (ended (reply_text last.shown))

-- ---- what turns are made over

-- What the turns of exchanges do to what they are made over, and what a session text knows of it, fit together: no turns do
-- nothing, turns may be made one after the other, and why a call has none is told from the beginning on.
pub record AreLawful {S : Type 0} (makes : S → List Exchange → S → Type 0) (grounds : S → ServedOver) : Type 0 where
  pub none : (s : S) → makes s [] s
  pub one_by_one : (s mid after : S) (es fs : List Exchange) → makes s es mid → makes mid fs after → makes s (es ++ fs) after
  pub worn : (s mid : S) (es fs : List Exchange) → makes s es mid → IsWorn (grounds mid) fs → IsWorn (grounds s) (es ++ fs)
  pub unmade : (s mid : S) (later : List (List ℕ)) (es fs : List Exchange) → makes s es mid → IsUnmade (grounds mid) later fs → IsUnmade (grounds s) later (es ++ fs)
  pub foreign : (s mid : S) (es fs : List Exchange) → makes s es mid → IsForeign (grounds mid) fs → IsForeign (grounds s) (es ++ fs)

-- ---- lines

-- the replies were written, and no more
abbrev pub IsSaid : List Exchange → List ℕ → ℕ → Type 0
IsSaid turned text count = (text ≡ session_text turned) × (count ≡ length turned)

-- How far lines were answered, where serving them ends so, over this; None where all of them were.
abbrev pub HowFar : Option SessionEndKind → ServedOver → List (List ℕ) → List Exchange → List ℕ → ℕ → Type 0
HowFar None grounds later turned text count = NoBye turned × (later ≡ []) × IsSaid turned text count
HowFar (Some kinds.Bye) grounds later turned text count = LastSaysBye turned × IsSaid turned text count
HowFar (Some kinds.Worn) grounds later turned text count = NoBye turned × ((later ≢ []) × IsWorn grounds turned) × IsSaid turned text count
HowFar (Some kinds.Foreign) grounds later turned text count = NoBye turned × ((later ≢ []) × IsForeign grounds turned) × IsSaid turned text count
HowFar (Some kinds.Memory) grounds later turned text count = NoBye turned × IsUnmade grounds later turned × IsSaid turned text count
HowFar (Some kinds.WriteFailed) grounds later turned text count = IsCutInReply turned text count
HowFar _ grounds later turned text count = ⊥

-- the calls that failed, where it ends so
abbrev pub FaultsAt : Option SessionEndKind → LinkState → LinkState → Type 0
FaultsAt (Some kinds.ReadFailed) old new = (new.failures ≡ up 1 old.failures) × (new.stalls ≡ old.stalls) × (new.ended ≡ old.ended)
FaultsAt (Some kinds.WriteFailed) old new = IsFault old new
FaultsAt _ old new = IsSound old new

-- lines were served: so many replies were written whole
pub record Serves {S : Type 0} (makes : S → List Exchange → S → Type 0) (grounds : S → ServedOver) (old new : LinkState) (lines : List (List ℕ)) (state after : S) (end : Option SessionEndKind) (count : ℕ) : Type 0 where
  pub front : List (List ℕ)
  pub later : List (List ℕ)
  pub turned : List Exchange
  pub text : List ℕ
  pub lines_are : lines ≡ front ++ later
  pub mean : Mean front turned
  pub turns : makes state turned after
  pub how : HowFar end (grounds state) later turned text count
  pub written : Appends old.held new.held text
  pub faults : FaultsAt end old new
  pub left : new.left ≡ old.left
  pub reads : new.reads ≡ old.reads

-- the replies written whole to one line
abbrev pub one_reply : Option SessionEndKind → ℕ
one_reply None = 1
one_reply (Some kinds.Bye) = 1
one_reply _ = 0

-- where a line got no turn nothing was written
abbrev pub WritesNothing : {K : Type 0} → Option SessionEndKind → K → K → Type 0
WritesNothing (Some kinds.Worn) old new = new ≡ old
WritesNothing (Some kinds.Foreign) old new = new ≡ old
WritesNothing (Some kinds.Memory) old new = new ≡ old
WritesNothing _ old new = ⊤

-- why a session ends behind a hand-on, where it ended so before it
abbrev pub end_after : {E : Type 0} → Result (Unit {0}) E → Option SessionEndKind → Option SessionEndKind
end_after (Ok _) end = end
end_after (Err e) end = Some kinds.WriteFailed

-- The reply to a line at which the session ends so was handed on, or that failed; or nothing was done, where there is none, or where they
-- are not handed on one by one.
abbrev pub Flushes : FlushPolicy → Option SessionEndKind → LinkState → LinkState → Option SessionEndKind → Type 0
Flushes when end old new result =
    ((when ≡ flush_policies.EachReply → one_reply end ≡ 0) × (result ≡ end) × (new ≡ old))
    ⊎ ((one_reply end ≡ 1) × ((tried : Result (Unit {0}) LinkFault) × IsFlush old new tried × (result ≡ end_after tried end)))

-- Lines were served; where each reply is handed on, and none waited before, all earlier ones had gone before each turn, the last one
-- where it is counted, and where it goes on none waits.
pub record ServesLines {S K : Type 0} (makes : S → List Exchange → S → Type 0) (grounds : S → ServedOver) (told : K → LinkState) (when : FlushPolicy) (old new : K) (lines : List (List ℕ)) (state after : S) (end : Option SessionEndKind) (count : ℕ) : Type 0 where
  pub served : Serves makes grounds (told old) (told new) lines state after end count
  pub gone : when ≡ flush_policies.EachReply → (told old).waiting ≡ [] → EachHasGone told old served.turned count
  pub rests : when ≡ flush_policies.EachReply → (told old).waiting ≡ [] → end ≡ None → (told new).waiting ≡ []

-- ---- reads

-- how a read ends whose lines were served to this end, where the stream stands so
abbrev pub Follows : Option SessionEndKind → Stand → Option SessionEndKind → Type 0
Follows None stand end = (IsSome stand × (end ≡ None)) ⊎ (IsNone stand × (end ≡ Some kinds.TooLong))
Follows (Some kind) stand end = end ≡ Some kind

-- How far the lines that a read completes were answered, where the session ends so, over this; None where it goes on.
abbrev pub StepsTo : Option SessionEndKind → ServedOver → Stand → List (List ℕ) → List (List ℕ) → List Exchange → List ℕ → ℕ → Type 0
StepsTo (Some kinds.Bye) grounds stand front later turned text count = LastSaysBye turned × IsSaid turned text count
StepsTo (Some kinds.Worn) grounds stand front later turned text count = NoBye turned × ((later ≢ []) × IsWorn grounds turned) × IsSaid turned text count
StepsTo (Some kinds.Foreign) grounds stand front later turned text count = NoBye turned × ((later ≢ []) × IsForeign grounds turned) × IsSaid turned text count
StepsTo (Some kinds.Memory) grounds stand front later turned text count =
    NoBye turned × ((front ≡ []) ⊎ IsUnmade grounds later turned) × IsSaid turned text count
StepsTo (Some kinds.TooLong) grounds stand front later turned text count = NoBye turned × (later ≡ []) × IsNone stand × IsSaid turned text count
StepsTo (Some kinds.WriteFailed) grounds stand front later turned text count = IsCutInReply turned text count
StepsTo (Some kinds.Endless) grounds stand front later turned text count = ⊥
StepsTo _ grounds stand front later turned text count = NoBye turned × (later ≡ []) × IsSome stand × IsSaid turned text count

-- where nothing was written behind the last hand-on, nothing more waits; and the end is the reader's
abbrev pub IsQuiet : Option SessionEndKind → LinkState → LinkState → Type 0
IsQuiet (Some kinds.End) old new = (new.waiting ≡ old.waiting) × IsAtEnd new.left
IsQuiet (Some kinds.ReadFailed) old new = new.waiting ≡ old.waiting
IsQuiet _ old new = ⊤

-- a read that does not end the session gave bytes
abbrev pub GaveBy : Option SessionEndKind → List ℕ → Type 0
GaveBy (Some kinds.End) piece = piece ≡ []
GaveBy (Some kinds.ReadFailed) piece = piece ≡ []
GaveBy _ piece = 0 < length piece

-- one read, and the lines that it completes from where the stream stands
pub record Steps {S : Type 0} (makes : S → List Exchange → S → Type 0) (grounds : S → ServedOver) (old new : LinkState) (stand stand_after : Stand) (state after : S) (end : Option SessionEndKind) (count : ℕ) : Type 0 where
  pub piece : List ℕ
  pub front : List (List ℕ)
  pub later : List (List ℕ)
  pub turned : List Exchange
  pub text : List ℕ
  pub lines_are : (cut_from stand piece).0 ≡ front ++ later
  pub mean : Mean front turned
  pub turns : makes state turned after
  pub how : StepsTo end (grounds state) (cut_from stand piece).1 front later turned text count
  pub stands : end ≡ None → (cut_from stand piece).1 ≡ stand_after
  pub consumed : Consumes old.left new.left piece
  pub written : Appends old.held new.held text
  pub faults : FaultsAt end old new
  pub quiet : IsQuiet end old new
  pub gave : GaveBy end piece
  pub reads : new.reads ≡ up 1 old.reads

-- the same, where each reply is handed on: all earlier ones had gone before each turn, and the last one where it is counted
pub record StepsOn {S K : Type 0} (makes : S → List Exchange → S → Type 0) (grounds : S → ServedOver) (told : K → LinkState) (when : FlushPolicy) (old new : K) (stand stand_after : Stand) (state after : S) (end : Option SessionEndKind) (count : ℕ) : Type 0 where
  pub steps : Steps makes grounds (told old) (told new) stand stand_after state after end count
  pub gone : when ≡ flush_policies.EachReply → (told old).waiting ≡ [] → EachHasGone told old steps.turned count

-- ---- a session

-- so many reads were made, and each line that they complete was answered
pub record Going {S K : Type 0} (makes : S → List Exchange → S → Type 0) (told : K → LinkState) (when : FlushPolicy) (link now : K) (stand : Stand) (state after : S) (reads count : ℕ) : Type 0 where
  pub pieces : List (List ℕ)
  pub turned : List Exchange
  pub made : length pieces ≡ reads
  pub mean : Mean (cut_of (joined pieces)).0 turned
  pub stands : (cut_of (joined pieces)).1 ≡ stand
  pub is_open : IsSome stand
  pub no_bye : NoBye turned
  pub gave : AreNonEmptyReads pieces
  pub turns : makes state turned after
  pub consumed : Consumes (told link).left (told now).left (joined pieces)
  pub written : Appends (told link).held (told now).held (session_text turned)
  pub count_is : count ≡ length turned
  pub reads_are : (told now).reads ≡ up reads (told link).reads
  pub sound : IsSound (told link) (told now)
  pub prompt : IsPrompt told link pieces turned
  pub gone : when ≡ flush_policies.EachReply → EachHasGone told link turned count

-- the ending line was written and all was handed on, or that failed
pub record Closing (kind : SessionEndKind) (old new : LinkState) (count : ℕ) (end : SessionEndKind) (total : ℕ) : Type 0 where
  pub left : new.left ≡ old.left
  pub reads : new.reads ≡ old.reads
  pub closed : ((end ≡ kind) × (total ≡ count + ending_count kind) × Appends old.held new.held (ending_line kind) × IsSound old new × (new.waiting ≡ []))
      ⊎ ((end ≡ kinds.WriteFailed) × IsFault old new
      × (((total ≡ count) × ((part : List ℕ) × IsCutShort (ending_line kind) part × Appends old.held new.held part))
      ⊎ ((total ≡ count) × Appends old.held new.held (ending_line kind))))

-- Behind the end of the reader, and where a call of the link failed, there is nothing to write, and all was handed on or
-- cannot be.
abbrev pub Closes : SessionEndKind → LinkState → LinkState → ℕ → SessionEndKind → ℕ → Type 0
Closes kinds.End old new count end total = (end ≡ kinds.End) × (total ≡ count) × (new ≡ old)
Closes kinds.ReadFailed old new count end total = (end ≡ kinds.ReadFailed) × (total ≡ count) × (new ≡ old)
Closes kinds.WriteFailed old new count end total = (end ≡ kinds.WriteFailed) × (total ≡ count) × (new ≡ old)
Closes kind old new count end total = Closing kind old new count end total

-- what each read gave, the session text of it, which was written, and the exchanges, which are the turns that were made
pub record Ran {S K : Type 0} (makes : S → List Exchange → S → Type 0) (grounds : S → ServedOver) (told : K → LinkState) (when : FlushPolicy) (link final : K) (state after : S) (kind : SessionEndKind) (count : ℕ) : Type 0 where
  pub pieces : List (List ℕ)
  pub turned : List Exchange
  pub text : List ℕ
  pub session : IsSession (grounds state) pieces kind turned text count
  pub turns : makes state turned after
  pub consumed : Consumes (told link).left (told final).left (joined pieces)
  pub written : Appends (told link).held (told final).held text
  pub reads : (told final).reads ≡ up (length pieces) (told link).reads
  pub few : length pieces ≤ most_reads
  pub prompt : IsPrompt told link pieces turned
  pub gone : when ≡ flush_policies.EachReply → EachHasGone told link turned count
