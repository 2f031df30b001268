-- The headline for each LINE of a session, over the current history: what was made and was not undone by a settlement.
use Rattle.std.specs.Prelude.{◌≡◌, ℕ, ◌-◌, List, [], ◌∷◌, ◌++◌, length, take, Some}
use Rattle.record_file.specs.File.{Said}
use Rattle.report_line.specs.declared.call.Call.TheVariants as calls
use Rattle.report_line.specs.declared.reply.Reply.TheVariants.{Line}
use Rattle.chains.specs.Elements.{name_of}
use Rattle.chains.specs.Held.{Held, counting}
use Rattle.chains.specs.Positions.{before_birth, position_in}
use Rattle.chains.specs.Processes.{Name, known, IsKnown}
use Rattle.reasons.specs.declared.certificate.Certificate.{Certificate}
use Rattle.reasons.specs.Certificates.{IsForNames, positions_of}
use Rattle.reasons.specs.CertificateText.{certificate_text}
use Rattle.law_lines.specs.Headline.{IsGreatestClosedCut}
use Rattle.law_lines.specs.Garbage.{IsNotAfter}
use Rattle.law_lines.specs.Runs.{Run, current, IsObeyed}
use Rattle.law_lines.specs.Settled.{position_for}
use Rattle.law_turns.specs.Obeyed.{IsHeldAfter}
use Rattle.law_turns.specs.Traces.{Trace, Stepped, Turned, turns_of, AreTurns, Extends, ProcessesObey}
use Rattle.desk.specs.declared.turn.Turn.{Turn}
use Rattle.desk.specs.Records.{recorded_by, Opens}
use Rattle.desk.specs.Replays.{Replays}
use Rattle.coordinator.specs.Passes.{PassEntry}
use Rattle.coordinator.specs.Closing.{ShowsRightly}
use Rattle.session.specs.Exchanges.{Exchange, ReplayTo}
use Rattle.line_answer.specs.Asking.{AsksForLine}
use Rattle.session.specs.Headline.{EachLineIsRight}

-- ---- what happened

-- the calls of these exchanges with their replies
abbrev pub traced : List Exchange → Trace
traced [] = []
traced (e ∷ es) = Turned e.call e.reply ∷ traced es

-- Behind a run and what was held then, the exchanges took their turns, and in between processes that obey made the steps of the
-- trace.
pub record IsTraceOf (root : Name) (run : Run) (exchanges : List Exchange) (trace : Trace) : Type 0 where
  pub turns : turns_of trace ≡ traced exchanges
  pub processes : ProcessesObey root run trace

-- ---- each line is right

-- The text is that of a certificate for just these names, and its line is the greatest closed cut of the current history of the run.
pub record IsRightNow (root : Name) (run : Run) (held : Held) (names : List Name) (text : List ℕ) : Type 0 where
  pub certificate : Certificate
  pub text_is : text ≡ certificate_text held.accepted certificate
  pub for_names : IsForNames held.accepted names certificate
  pub line : IsGreatestClosedCut root (current run) held.accepted certificate.failed (positions_of certificate.line)

-- Whatever happened before a question to which a LINE is shown, with settlements or without: it made one run, and the line is
-- right over its current history.
abbrev pub EachLineIsRightNow : Type 0
EachLineIsRightNow =
    (root : Name) (run : Run) (held at : Held) (exchanges before later : List Exchange) (exchange : Exchange) (text : List ℕ) (trace : Trace)
    → IsObeyed root run → IsHeldAfter run held → EachLineIsRight held exchanges → exchanges ≡ before ++ exchange ∷ later → ReplayTo held before at
    → exchange.shown ≡ Line text → IsTraceOf root run before trace
    → (now : Run) × Extends root run trace now × ((names : List Name) × AsksForLine at exchange.call names × IsRightNow root now at names text)

-- ---- no line is below an earlier garbage line

-- No process stands in the later line below where it stands in the earlier one, and who is gone was unborn in the earlier one.
pub record AreInOrder (first at : Held) (lowest text : List ℕ) : Type 0 where
  pub garbage : Certificate
  pub garbage_is : lowest ≡ certificate_text first.accepted garbage
  pub certificate : Certificate
  pub text_is : text ≡ certificate_text at.accepted certificate
  pub below : (i : ℕ) (p : Name) → name_of at.accepted i ≡ Some p
      → IsNotAfter (position_for (known first.accepted) (positions_of garbage.line) p) (position_in (positions_of certificate.line) i)
  pub gone : (p : Name) → ¬ IsKnown at.accepted p → position_for (known first.accepted) (positions_of garbage.line) p ≡ before_birth

-- A LINE that is shown behind one for GARBAGE is not below it, whatever happened before the first and in between.
abbrev pub NoLineIsBelowGarbage : Type 0
NoLineIsBelowGarbage =
    (root : Name) (run : Run) (held first at : Held) (exchanges before between later : List Exchange) (collected exchange : Exchange) (lowest text : List ℕ) (earlier trace : Trace)
    → IsObeyed root run → IsHeldAfter run held → EachLineIsRight held exchanges
    → exchanges ≡ before ++ collected ∷ (between ++ exchange ∷ later)
    → collected.call ≡ calls.Garbage → collected.shown ≡ Line lowest → exchange.shown ≡ Line text
    → ReplayTo held before first → ReplayTo first (collected ∷ between) at
    → turns_of earlier ≡ traced before → turns_of trace ≡ traced (collected ∷ between) → ProcessesObey root run (earlier ++ trace)
    → AreInOrder first at lowest text

-- ---- clients who share a desk

-- turns of a desk, as turns of a trace
abbrev pub trace_of : List Turn → Trace
trace_of [] = []
trace_of (t ∷ ts) = Turned t.call t.receipt.reply ∷ trace_of ts

-- Where many share a desk, what a coordinator says of each entry of a pass is said of the turns before the entry's own: these make one
-- run, and the LINE that the entry shows is right over its current history.
abbrev pub EachSharedLineIsRightNow : Type 0
EachSharedLineIsRightNow =
    (root : Name) (run : Run) (opening : Held) (turns : List Turn) (entry : PassEntry) (text : List ℕ) (trace : Trace)
    → IsObeyed root run → IsHeldAfter run opening → ShowsRightly opening turns entry → entry.shown ≡ Line text
    → turns_of trace ≡ trace_of (take (entry.receipt.turn - 1) turns) → ProcessesObey root run trace
    → (now : Run) × Extends root run trace now
    × ((at : Held) × Replays opening (take (entry.receipt.turn - 1) turns) at
    × ((names : List Name) × AsksForLine at entry.call names × IsRightNow root now at names text))

-- Nor is a LINE below an earlier one for GARBAGE, whoever of the clients asked for either: of two entries, of one pass or of two, where
-- what happened before the turn of the one for GARBAGE is the first part of what happened before the turn of the other.
abbrev pub NoSharedLineIsBelowGarbage : Type 0
NoSharedLineIsBelowGarbage =
    (root : Name) (run : Run) (opening : Held) (turns : List Turn) (collected entry : PassEntry) (lowest text : List ℕ) (earlier trace : Trace)
    → IsObeyed root run → IsHeldAfter run opening → ShowsRightly opening turns collected → ShowsRightly opening turns entry
    → collected.call ≡ calls.Garbage → collected.shown ≡ Line lowest → entry.shown ≡ Line text
    → turns_of earlier ≡ trace_of (take (collected.receipt.turn - 1) turns)
    → turns_of (earlier ++ trace) ≡ trace_of (take (entry.receipt.turn - 1) turns) → ProcessesObey root run (earlier ++ trace)
    → (first : Held) × Replays opening (take (collected.receipt.turn - 1) turns) first
    × ((at : Held) × Replays opening (take (entry.receipt.turn - 1) turns) at × AreInOrder first at lowest text)

-- ---- files

-- the records of these turns: one for each that was answered OK or SETTLED, in order
abbrev pub recorded_in : Trace → List Said
recorded_in [] = []
recorded_in (Stepped e s ∷ trace) = recorded_in trace
recorded_in (Turned call reply ∷ trace) = recorded_by call reply ++ recorded_in trace

-- A file that is opened tells a run: its records are those of turns, as many as there are records, which come, from nothing, to what is
-- held at the opening. And with whatever steps of processes that obey between these turns, they make a run that is obeyed, and this is
-- what is held behind it: so all that is said here of exchanges and of shared desks may begin at an opening.
abbrev pub EachFileTellsARun : Type 0
EachFileTellsARun =
    (said : List Said) (held : Held) → Opens said held
    → (turns : Trace) × (turns_of turns ≡ turns) × (recorded_in turns ≡ said) × (length turns ≡ length said) × AreTurns (counting []) turns held
    × ((root : Name) (trace : Trace) → turns_of trace ≡ turns → ProcessesObey root [] trace
    → (run : Run) × Extends root [] trace run × IsObeyed root run × IsHeldAfter run held)
