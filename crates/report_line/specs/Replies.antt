-- The text of each reply, without LF.
use Rattle.std.specs.Prelude.{ℕ, Bool, true, false, List, [], ◌++◌, Option, Some, None, codes, ⊤}
use Rattle.std.specs.Fmt.{decimal}
use Rattle.report_line.specs.declared.code.Code.{Code}
use Rattle.report_line.specs.declared.code.Code.TheVariants.{NothingBegun, OtherRoot, UnknownProcess, Ended, WrongNumber, NotWaiting, WrongId, NotGrown, NameTaken, WrongParts, WrongTarget, NotJoined, Full, OutOfMemory, OtherFront, OtherEpoch}
use Rattle.report_line.specs.declared.pieces.ReplyPiece.{ReplyPiece}
use Rattle.report_line.specs.declared.pieces.ReplyPiece.TheVariants as pieces
use Rattle.report_line.specs.declared.reply.Outcome.{Outcome}
use Rattle.report_line.specs.declared.reply.Outcome.TheVariants.{Before, Unknown, Stopped}
use Rattle.report_line.specs.declared.reply.Reply.{Reply}
use Rattle.report_line.specs.declared.reply.Reply.TheVariants as replies

-- the number of a refusal
abbrev pub code_number : Code → ℕ
code_number NothingBegun = 14
code_number OtherRoot = 13
code_number UnknownProcess = 3
code_number Ended = 4
code_number WrongNumber = 5
code_number NotWaiting = 11
code_number WrongId = 6
code_number NotGrown = 7
code_number NameTaken = 8
code_number WrongParts = 9
code_number WrongTarget = 10
code_number NotJoined = 12
code_number Full = 15
code_number OutOfMemory = 16
code_number OtherFront = 18
code_number OtherEpoch = 19

-- the word for what became of a report whose writing failed
abbrev pub outcome_word : Outcome → List ℕ
outcome_word Before = codes "before"
outcome_word Unknown = codes "unknown"
outcome_word Stopped = codes "stopped"

-- whether a process lives
abbrev pub live_word : Bool → List ℕ
live_word true = codes "live"
live_word false = codes "retired"

-- what is absent is `-`
abbrev pub or_dash : Option (List ℕ) → List ℕ
or_dash None = codes "-"
or_dash (Some text) = text

-- the replies that are written
abbrev pub HasText : Reply → Type 0
HasText (replies.Taken front) = ⊥
HasText _ = ⊤

-- the text of a reply
unfoldable pub reply_text : Reply → List ℕ
reply_text (replies.Accepted front) = codes "OK " ++ decimal front
reply_text (replies.Old front) = codes "OLD " ++ decimal front
reply_text (replies.No code name value) = codes "NO " ++ decimal (code_number code) ++ codes " " ++ or_dash name ++ codes " " ++ or_dash value
reply_text (replies.Bad number) = codes "BAD " ++ decimal number
reply_text (replies.Fail outcome) = codes "FAIL " ++ outcome_word outcome
reply_text (replies.Line text) = codes "LINE " ++ text
reply_text (replies.State name reports elements live id) = codes "STATE " ++ name ++ codes " " ++ decimal reports ++ codes " " ++ decimal elements ++ codes " " ++ live_word live ++ codes " " ++ id
reply_text (replies.Settled epoch front) = codes "SETTLED " ++ decimal epoch ++ codes " " ++ decimal front
reply_text replies.Bye = codes "BYE"
reply_text (replies.Taken front) = []

-- the text of a piece that a reply is made of
abbrev pub piece_text : ReplyPiece → List ℕ
piece_text (pieces.Text bytes) = bytes.now
piece_text (pieces.Number n) = decimal n
