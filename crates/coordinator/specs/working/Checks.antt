-- Working definitions: lines that are held against what was accepted.
use Rattle.std.specs.Prelude.{◌≡◌, ℕ, ◌+◌, ◌<◌, List, Some, All, slice_get, ⊤}
use Rattle.report_line.specs.declared.reply.Reply.TheVariants.{Line}
use Rattle.chains.specs.Kept.{Kept}
use Rattle.chains.specs.Held.{Held, held_of}
use Rattle.desk.specs.Lawful.{unstopped}
use Rattle.desk.specs.declared.turn.Turn.{Turn}
use Rattle.coordinator.specs.declared.marking.Owner.{Owner}
use Rattle.coordinator.specs.declared.fault.CloseFault.{CloseFault}
use Rattle.coordinator.specs.declared.fault.CloseFault.TheVariants.{Stranger, Missing, Memory}
use Rattle.line_answer.specs.Questions.{IsLineFor}
use Rattle.coordinator.specs.Passes.{PassEntry, PassState}
use Rattle.coordinator.specs.Closing.{ShowsRightly, ShowsWrongly}
use Rattle.coordinator.specs.working.Marks.{owner_at}

-- the chains hold what is held, but for whether the store is stopped
abbrev pub HaveSame : Kept → Held → Type 0
HaveSame k held = held_of k ≡ unstopped held

-- the entry shows no line, or the one that its call asks for over what is held
abbrev pub RightOver : Held → PassEntry → Type 0
RightOver held e = (text : List ℕ) → e.shown ≡ Line text → IsLineFor held e.call text

-- the entry shows another line
abbrev pub WrongOver : Held → PassEntry → Type 0
WrongOver held e = (text : List ℕ) × (e.shown ≡ Line text) × ¬ IsLineFor held e.call text

-- the entry that stands there, if one does, is right over what is held
abbrev pub IsRightAt : List PassState → Held → Owner → Type 0
IsRightAt passes held o = (p : PassState) (e : PassEntry) → slice_get passes o.pass ≡ Some p → slice_get p.entries o.entry ≡ Some e → RightOver held e

-- so are all that stand at these
abbrev pub AreRight : List PassState → Held → List Owner → Type 0
AreRight passes held os = All (IsRightAt passes held) os

-- the entry of this turn that stands there, if it does
abbrev pub IsEntryOf : List PassState → Owner → ℕ → PassState → PassEntry → Type 0
IsEntryOf passes o turn p e = (slice_get passes o.pass ≡ Some p) × (slice_get p.entries o.entry ≡ Some e) × (e.receipt.turn ≡ turn)

-- the entry of the turn is right
abbrev pub IsCheckedOver : Held → List PassState → Owner → ℕ → Type 0
IsCheckedOver held passes o turn = (p : PassState) (e : PassEntry) → IsEntryOf passes o turn p e → RightOver held e

-- the entry of the turn is wrong, and its pass has this number
abbrev pub IsWrongNumber : Held → List PassState → Owner → ℕ → ℕ → Type 0
IsWrongNumber held passes o turn number = (p : PassState) × (e : PassEntry) × IsEntryOf passes o turn p e × (p.number ≡ number) × (0 < number) × WrongOver held e

abbrev pub IsWrongOver : Held → List PassState → Owner → ℕ → CloseFault → Type 0
IsWrongOver held passes o turn (Stranger number) = IsWrongNumber held passes o turn number
IsWrongOver held passes o turn (Missing shares turns) = ⊥
IsWrongOver held passes o turn Memory = ⊤

-- the entries of the first turns are right over what the turns before each replay to
abbrev pub AreCheckedTo : Held → List Turn → List PassState → List Owner → ℕ → Type 0
AreCheckedTo opening ts passes owners n =
    (i : ℕ) (p : PassState) (e : PassEntry) → i < n → IsEntryOf passes (owner_at owners i) (i + 1) p e → ShowsRightly opening ts e

-- an entry shows a line that is wrong over what the turns before its own replay to
abbrev pub IsWrongThere : Held → List Turn → List PassState → CloseFault → Type 0
IsWrongThere opening ts passes (Stranger number) =
    (o : Owner) × (p : PassState) × (e : PassEntry) × IsEntryOf passes o e.receipt.turn p e × (p.number ≡ number) × (0 < number) × ShowsWrongly opening ts e
IsWrongThere opening ts passes (Missing shares turns) = ⊥
IsWrongThere opening ts passes Memory = ⊤
