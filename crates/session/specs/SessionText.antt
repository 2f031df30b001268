-- What a session writes: the reply to each line that it reads, and how it ends. No accepted list is spoken of here.
use Rattle.std.specs.Prelude.{◌≡◌, ◌≢◌, ◌⊎◌, ℕ, ◌+◌, ◌<◌, List, [], ◌∷◌, ◌++◌, length, IsSome, IsNone, codes, ⊤}
use Rattle.std.specs.List.{flat_map, AllByRecursion}
use Rattle.report_line.specs.declared.call.Call.{Call}
use Rattle.report_line.specs.declared.call.Call.TheVariants as calls
use Rattle.report_line.specs.Cutting.{Stand, ended, cut_of}
use Rattle.report_line.specs.Reading.{Spells}
use Rattle.report_line.specs.Replies.{reply_text}
use Rattle.desk.specs.Lawful.{turn_limit}
use Rattle.coordinator.specs.Passes.{PassState}
use Rattle.session.specs.Exchanges.{Exchange}
use Rattle.session.specs.declared.kind.SessionEndKind.{SessionEndKind}
use Rattle.session.specs.declared.kind.SessionEndKind.TheVariants as kinds

-- ---- lines and calls

-- The line is read as this call: the one that it spells, or that it spells none, or memory was wanting.
abbrev pub Means : List ℕ → Call → Type 0
Means line call = Spells call line ⊎ ((call ≡ calls.Bad 1) × ((c : Call) → ¬ Spells c line)) ⊎ (call ≡ calls.Unread)

-- each line is read as the call of its exchange
abbrev pub Mean : List (List ℕ) → List Exchange → Type 0
Mean [] [] = ⊤
Mean (line ∷ lines) (exchange ∷ exchanges) = Means line exchange.call × Mean lines exchanges
Mean [] (exchange ∷ exchanges) = ⊥
Mean (line ∷ lines) [] = ⊥

-- the client says that it is done
abbrev pub SaysBye : Exchange → Type 0
SaysBye exchange = exchange.call ≡ calls.Bye

abbrev pub NoBye : List Exchange → Type 0
NoBye exchanges = AllByRecursion (λ e. ¬ SaysBye e) exchanges

-- the last exchange, and no other, said bye
pub record LastSaysBye (exchanges : List Exchange) : Type 0 where
  pub before : List Exchange
  pub last : Exchange
  pub exchanges_are : exchanges ≡ before ++ last ∷ []
  pub none_before : NoBye before
  pub bye : SaysBye last

-- Over what the calls of a session take their turns: a desk that made so many turns before, a pass as it was before, or passes of one
-- coordinator after the other, each of them new.
pub data ServedOver : Type 0 where
  at_desk : ℕ → ServedOver
  at_pass : PassState → ServedOver
  at_passes : ServedOver

-- the question that at a desk may for want of memory get no turn: that for a state
abbrev pub IsQuestion : Call → Type 0
IsQuestion (calls.State p) = ⊤
IsQuestion _ = ⊥

-- the first of these lines is such a question
pub record StartsWithQuestion (lines : List (List ℕ)) : Type 0 where
  pub line : List ℕ
  pub later : List (List ℕ)
  pub call : Call
  pub lines_are : lines ≡ line ∷ later
  pub means : Means line call
  pub question : IsQuestion call

-- All turns that a desk makes were made, some of them before the session; who has a pass does not know how many others made. Where the
-- turns of one coordinator are made another one follows.
abbrev pub IsWorn : ServedOver → List Exchange → Type 0
IsWorn (at_desk made) turned = made + length turned ≡ turn_limit
IsWorn (at_pass pass) turned = ⊤
IsWorn at_passes turned = ⊥

-- for want of memory the first of these later lines may get no turn: at a desk only that question, where a turn is left
abbrev pub IsUnmade : ServedOver → List (List ℕ) → List Exchange → Type 0
IsUnmade (at_desk made) later turned = StartsWithQuestion later × ¬ IsWorn (at_desk made) turned
IsUnmade (at_pass pass) later turned = later ≢ []
IsUnmade at_passes later turned = later ≢ []

-- the pass has seen a turn or a front, which another coordinator may not have; each coordinator gives a pass of its own
abbrev pub IsForeign : ServedOver → List Exchange → Type 0
IsForeign (at_desk made) turned = ⊥
IsForeign at_passes turned = ⊥
IsForeign (at_pass pass) turned = (turned ≢ []) ⊎ ((0 < pass.front) ⊎ (pass.entries ≢ []))

-- ---- the text

-- the line of an exchange
abbrev pub exchange_line : Exchange → List ℕ
exchange_line exchange = ended (reply_text exchange.shown)

-- the text of the exchanges: one line each
abbrev pub session_text : List Exchange → List ℕ
session_text exchanges = flat_map exchange_line exchanges

-- the ending line of a session, which is no reply to a line; most ends have none
abbrev pub ending_line : SessionEndKind → List ℕ
ending_line kinds.TooLong = ended (codes "BAD 2")
ending_line kinds.Worn = ended (codes "NO 17 - 65536")
ending_line kinds.Memory = ended (codes "NO 16 - -")
ending_line _ = []

-- how many ending lines were written whole
abbrev pub ending_count : SessionEndKind → ℕ
ending_count kinds.TooLong = 1
ending_count kinds.Worn = 1
ending_count kinds.Memory = 1
ending_count _ = 0

-- the text is a part of the line, less than all of it
abbrev pub IsCutShort : List ℕ → List ℕ → Type 0
IsCutShort line text = (more : List ℕ) × (line ≡ text ++ more) × (0 < length more)

-- the replies were written, and behind them the ending line: so many lines
abbrev pub IsWhole : SessionEndKind → List Exchange → List ℕ → ℕ → Type 0
IsWhole kind turned text count = (text ≡ session_text turned ++ ending_line kind) × (count ≡ length turned + ending_count kind)

-- the reply to the last exchange was cut, or was written and could not be handed on, and no earlier one said bye
pub record IsCutInReply (turned : List Exchange) (text : List ℕ) (count : ℕ) : Type 0 where
  pub before : List Exchange
  pub last : Exchange
  pub turned_are : turned ≡ before ++ last ∷ []
  pub none_before : NoBye before
  pub part : List ℕ
  pub cut : IsCutShort (exchange_line last) part ⊎ (part ≡ exchange_line last)
  pub text_is : text ≡ session_text before ++ part
  pub count_is : count ≡ length before

-- all was written, and could not be handed on: an ending line is not counted then
abbrev pub IsUnflushed : SessionEndKind → List Exchange → List ℕ → ℕ → Type 0
IsUnflushed kind turned text count = (text ≡ session_text turned ++ ending_line kind) × (count ≡ length turned)

-- the ending line was cut
pub record IsCutInEnding (kind : SessionEndKind) (turned : List Exchange) (text : List ℕ) (count : ℕ) : Type 0 where
  pub part : List ℕ
  pub short : IsCutShort (ending_line kind) part
  pub text_is : text ≡ session_text turned ++ part
  pub count_is : count ≡ length turned

-- ---- how a session ends

-- what reads gave, one after the other
abbrev pub joined : List (List ℕ) → List ℕ
joined pieces = flat_map (λ piece. piece) pieces

-- how many reads a session makes at most
abbrev pub most_reads : ℕ
most_reads = 1048576

-- the lines that got a turn are just those that were complete before the last read
abbrev pub IsLastPieceRefused : List (List ℕ) → List (List ℕ) → Type 0
IsLastPieceRefused pieces front =
    (before : List (List ℕ)) × (last : List ℕ) × (pieces ≡ before ++ last ∷ []) × (front ≡ (cut_of (joined before)).0)

-- Which lines got a turn where a session ends so, other than by a write, that begins over this: of what these reads gave, behind
-- whose lines the stream stands so, the front lines did, with these exchanges, and the later ones did not.
abbrev pub EndReason : SessionEndKind → ServedOver → List (List ℕ) → Stand → List (List ℕ) → List (List ℕ) → List Exchange → Type 0
EndReason kinds.Bye grounds pieces stand front later turned = LastSaysBye turned
EndReason kinds.Worn grounds pieces stand front later turned = NoBye turned × (later ≢ []) × IsWorn grounds turned
EndReason kinds.Foreign grounds pieces stand front later turned = NoBye turned × (later ≢ []) × IsForeign grounds turned
EndReason kinds.Memory grounds pieces stand front later turned =
    NoBye turned × (IsLastPieceRefused pieces front ⊎ IsUnmade grounds later turned)
EndReason kinds.TooLong grounds pieces stand front later turned = NoBye turned × (later ≡ []) × IsNone stand
EndReason kinds.Endless grounds pieces stand front later turned = NoBye turned × (later ≡ []) × IsSome stand × (length pieces ≡ most_reads)
EndReason kinds.WriteFailed grounds pieces stand front later turned = ⊥
EndReason _ grounds pieces stand front later turned = NoBye turned × (later ≡ []) × IsSome stand

-- a failed write or hand-on cuts the text, in a reply or in the ending line; or all was written, and could not be handed on
abbrev pub IsCutOff : ServedOver → List (List ℕ) → Stand → List (List ℕ) → List (List ℕ) → List Exchange → List ℕ → ℕ → Type 0
IsCutOff grounds pieces stand front later turned text count =
    IsCutInReply turned text count
    ⊎ ((kind : SessionEndKind) × EndReason kind grounds pieces stand front later turned × (IsCutInEnding kind turned text count ⊎ IsUnflushed kind turned text count))

abbrev pub Ends : SessionEndKind → ServedOver → List (List ℕ) → Stand → List (List ℕ) → List (List ℕ) → List Exchange → List ℕ → ℕ → Type 0
Ends kinds.WriteFailed grounds pieces stand front later turned text count = IsCutOff grounds pieces stand front later turned text count
Ends kind grounds pieces stand front later turned text count = EndReason kind grounds pieces stand front later turned × IsWhole kind turned text count

-- each of these reads gave bytes
abbrev pub AreNonEmptyReads : List (List ℕ) → Type 0
AreNonEmptyReads pieces = AllByRecursion (λ piece. 0 < length piece) pieces

-- each read gave bytes, but for the last one where that was the end of the reader, or failed
abbrev pub GaveAll : SessionEndKind → List (List ℕ) → Type 0
GaveAll kinds.End pieces = (before : List (List ℕ)) × (pieces ≡ before ++ [] ∷ []) × AreNonEmptyReads before
GaveAll kinds.ReadFailed pieces = (before : List (List ℕ)) × (pieces ≡ before ++ [] ∷ []) × AreNonEmptyReads before
GaveAll _ pieces = AreNonEmptyReads pieces

-- A session that begins over this and whose reads gave these pieces ended so: with the exchanges that took turns, the one whose
-- reply was cut included, with this text, and so many lines of it whole.
pub record IsSession (grounds : ServedOver) (pieces : List (List ℕ)) (kind : SessionEndKind) (turned : List Exchange) (text : List ℕ) (count : ℕ) : Type 0 where
  pub front : List (List ℕ)
  pub later : List (List ℕ)
  pub lines_are : (cut_of (joined pieces)).0 ≡ front ++ later
  pub gave : GaveAll kind pieces
  pub mean : Mean front turned
  pub ends : Ends kind grounds pieces (cut_of (joined pieces)).1 front later turned text count
