-- What contracts see of a pass.
use Rattle.std.specs.Prelude.{◌≡◌, ℕ, ◌+◌, ◌<◌, ◌≤◌, ◌⊎◌, List, [], ◌∷◌, ◌++◌, All, Option, Some, None, MatchOption, ⊤}
use Rattle.report_line.specs.declared.call.Call.{Call}
use Rattle.report_line.specs.declared.call.Call.TheVariants as calls
use Rattle.report_line.specs.declared.reply.Reply.{Reply}
use Rattle.report_line.specs.declared.reply.Reply.TheVariants.{Accepted, Old, Line, Settled, Taken}
use Rattle.chains.specs.Processes.{Name}
use Rattle.chains.specs.Held.{Held}
use Rattle.chains.specs.Turns.{no_memory}
use Rattle.reasons.specs.Shown.{IsShown}
use Rattle.law_lines.specs.Headline.{IsRightLine}
use Rattle.line_answer.specs.Asking.{AsksForLine}
use Rattle.line_answer.specs.Questions.{IsChosenFor}
use Rattle.desk.specs.declared.turn.Receipt.{Receipt}
use Rattle.desk.specs.Lawful.{unstopped}
use Rattle.desk.specs.Records.{IsOpened}

-- a call, the receipt of its turn, and the reply that is shown for it
pub record PassEntry : Type 0 where
  pub call : Call
  pub receipt : Receipt
  pub shown : Reply

pub record PassState : Type 0 where
  -- from 1, in the order in which the passes were handed out
  pub number : ℕ
  -- the longest front that a receipt told
  pub front : ℕ
  -- how many turns its share of the ledger counts
  pub share : ℕ
  pub entries : List PassEntry

-- ---- entries in a row

-- the numbers of the turns rise, from above this one on
abbrev pub Rises : ℕ → List PassEntry → Type 0
Rises last [] = ⊤
Rises last (e ∷ es) = (last < e.receipt.turn) × Rises e.receipt.turn es

abbrev pub last_turn_after : ℕ → List PassEntry → ℕ
last_turn_after last [] = last
last_turn_after last (e ∷ es) = last_turn_after e.receipt.turn es

-- the number of the last turn, or 0
abbrev pub last_turn : List PassEntry → ℕ
last_turn es = last_turn_after 0 es

-- the last reply that was shown
abbrev pub LastShown : List PassEntry → Option Reply → Type 0
LastShown es None = es ≡ []
LastShown es (Some reply) = (before : List PassEntry) × (last : PassEntry) × (es ≡ before ++ last ∷ []) × (reply ≡ last.shown)

-- ---- what is shown

-- the front that a reply tells
abbrev pub front_of : Reply → Option ℕ
front_of (Accepted front) = Some front
front_of (Old front) = Some front
front_of (Taken front) = Some front
front_of (Settled epoch front) = Some front
front_of _ = None

-- the epoch that a reply tells
abbrev pub epoch_of : Reply → Option ℕ
epoch_of (Settled epoch front) = Some epoch
epoch_of _ = None

-- A reply is shown as it is. Where it says that a line was taken, what is shown in its place is that memory was wanting, or a line.
abbrev pub MayShow : Reply → Reply → Type 0
MayShow (Taken front) shown = (shown ≡ no_memory) ⊎ ((text : List ℕ) × (shown ≡ Line text))
MayShow reply shown = shown ≡ reply

-- Over what is held, which opening some records comes to and whose front and epoch are those that the reply tells, this is shown for the
-- call and the reply of its turn. A line that is shown is right: it is the greatest closed cut of every lawful history that agrees. And its text is the one
-- that the rounds choose.
pub record IsShownOver (held : Held) (call : Call) (reply shown : Reply) : Type 0 where
  pub opened : IsOpened (unstopped held)
  pub front : (n : ℕ) → front_of reply ≡ Some n → held.front ≡ n
  pub epoch : (e : ℕ) → epoch_of reply ≡ Some e → held.epoch ≡ e
  pub shows : IsShown held call reply shown
  pub right : (text : List ℕ) → shown ≡ Line text → (names : List Name) × AsksForLine held call names × IsRightLine held names text
  pub chosen : (text : List ℕ) → shown ≡ Line text → IsChosenFor held call text

-- ---- one entry more

-- the longest front that was seen, before and after a reply
abbrev pub Sees : ℕ → Reply → ℕ → Type 0
Sees old reply new = MatchOption (front_of reply) (new ≡ old) (λ front. (old ≤ front) × (new ≡ front))

-- the pass has just one entry more, which is for this call
pub record IsOneEntry (old : PassState) (call : Call) (entry : PassEntry) (new : PassState) : Type 0 where
  pub number : new.number ≡ old.number
  pub entries : new.entries ≡ old.entries ++ entry ∷ []
  pub call_is : entry.call ≡ call
  pub above : All (λ e. e.receipt.turn < entry.receipt.turn) old.entries
  pub share : new.share ≡ old.share + 1
  pub front : Sees old.front entry.receipt.reply new.front

-- the pass has one entry more for this call, and shows there what is shown over what opening some records comes to
pub record IsAnswered (old : PassState) (call : Call) (new : PassState) : Type 0 where
  pub entry : PassEntry
  pub one : IsOneEntry old call entry new
  pub held : Held
  pub shows : IsShownOver held call entry.receipt.reply entry.shown

-- a call other than a question for a line
abbrev pub IsPlain : Call → Type 0
IsPlain (calls.Line names) = ⊥
IsPlain calls.Garbage = ⊥
IsPlain _ = ⊤

abbrev pub line_call : List Name → Call
line_call names = calls.Line names

-- how many passes are handed out at most
abbrev pub pass_limit : ℕ
pass_limit = 8192

-- the parts of a ledger: one for each pass, and one that the coordinator keeps
abbrev pub ledger_parts : ℕ
ledger_parts = pass_limit + 1

-- a pass without entries
abbrev pub new_pass : ℕ → PassState
new_pass number = record { number = number; front = 0; share = 0; entries = [] }

abbrev pub IsNewPass : PassState → Type 0
IsNewPass p = (0 < p.number) × (p.number ≤ pass_limit) × (p ≡ new_pass p.number)
