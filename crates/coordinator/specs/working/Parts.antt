-- Working definitions: the parts of a call.
use Rattle.std.specs.Prelude.{◌≡◌, ◌⊎◌, ℕ, List, [], ◌∷◌, ◌++◌, Option, Some, None}
use Rattle.report_line.specs.declared.call.Call.{Call}
use Rattle.report_line.specs.declared.reply.Reply.{Reply}
use Rattle.report_line.specs.declared.reply.Reply.TheVariants.{Line, Taken}
use Rattle.chains.specs.Held.{Held}
use Rattle.chains.specs.Folded.{IsReached}
use Rattle.chains.specs.Turns.{no_memory}
use Rattle.line_answer.specs.Questions.{IsAnswer}
use Rattle.coordinator.specs.Passes.{PassEntry, PassState}

-- the reply that is shown: the one that stands in its place, if one does
abbrev pub in_place_of : Reply → Option Reply → Reply
in_place_of reply None = reply
in_place_of reply (Some line) = line

-- what is shown for a reply until its line is computed
abbrev pub first_shown : Reply → Reply
first_shown (Taken front) = no_memory
first_shown reply = reply

-- the last receipt says that a line was taken at this front
abbrev pub LastTaken : List PassEntry → ℕ → Type 0
LastTaken es front = (before : List PassEntry) × (last : PassEntry) × (es ≡ before ++ last ∷ []) × (last.receipt.reply ≡ Taken front)

-- the entry with a line that is shown
abbrev pub with_line : PassEntry → List ℕ → PassEntry
with_line e text = record { call = e.call; receipt = e.receipt; shown = Line text }

-- the last entry shows this line, and all else stays
abbrev pub IsShownInstead : PassState → List ℕ → PassState → Type 0
IsShownInstead old text new =
    (before : List PassEntry) × (last : PassEntry) × (old.entries ≡ before ++ last ∷ [])
    × (new ≡ record { number = old.number; front = old.front; share = old.share; entries = before ++ with_line last text ∷ [] })

-- the last entry shows the line that this call asks for over what is held, or all is as it was
abbrev pub MayShowLine : Held → Call → PassState → PassState → Type 0
MayShowLine held call old new = (new ≡ old) ⊎ ((text : List ℕ) × IsReached held × IsAnswer held call text × IsShownInstead old text new)
