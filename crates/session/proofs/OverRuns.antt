-- Exchanges and turns over runs: each LINE is right for the current history, and not below an earlier garbage line.
use Rattle.std.proofs.Common.{◌≡◌, ℕ, ◌+◌, ◌<◌, ◌∙◌, ◌++◌, List, [], ◌∷◌, length, sym, subst, inl, inr, append_assoc, arith}
use Rattle.std.specs.Prelude.{Contains}
use Rattle.std.proofs.lemmas.Option.{slice_get_cases}
use Rattle.report_line.specs.declared.call.Call.{Call}
use Rattle.chains.specs.Held.{Held}
use Rattle.chains.specs.Processes.{Name, known}
use Rattle.chains.proofs.LookUps.{known_from}
use Rattle.knows_row.proofs.Lawful.{lawful}
use Rattle.reasons.specs.declared.certificate.Certificate.{Certificate}
use Rattle.reasons.specs.Certificates.{IsForNames, positions_of}
use Rattle.reasons.specs.Shown.{IsLineText}
use Rattle.law_lines.specs.Headline.{IsRightLine}
use Rattle.propagate.proofs.Certified.{certified_is_greatest}
use Rattle.law_lines.specs.Runs.{Run, IsObeyed}
use Rattle.law_turns.specs.Obeyed.{IsHeldAfter}
use Rattle.law_turns.specs.Traces.{Trace, Stepped, Turned, turns_of, AreTurns, Extends, ProcessesObey}
use Rattle.law_turns.proofs.Following.{the_run_is_obeyed, turns_make_a_run, headline_of_turns}
use Rattle.law_turns.proofs.Parted.{turns_alone, turns_in_parts, processes_obey_in_parts, no_line_is_below_earlier_garbage, who_is_gone_was_unborn_then}
use Rattle.desk.specs.declared.turn.Turn.{Turn}
use Rattle.desk.specs.Replays.{Replays, ReplaysFrom}
use Rattle.desk.proofs.OneTurn.{turn_once}
use Rattle.session.specs.Exchanges.{Exchange, ReplayTo}
use Rattle.line_answer.specs.Asking.{AsksForLine}
use Rattle.session.specs.Current.{traced, IsRightNow, EachLineIsRightNow, trace_of, EachSharedLineIsRightNow, AreInOrder, NoLineIsBelowGarbage, NoSharedLineIsBelowGarbage}

-- ---- exchanges as turns of a trace

pub come_traced : (held after : Held) (es : List Exchange) → ReplayTo held es after → AreTurns held (traced es) after
come_traced held after [] comes = comes
come_traced held after (e ∷ es) comes = (comes.0, comes.1, come_traced comes.0 after es comes.2)

are_turns : (held after : Held) (es : List Exchange) (trace : Trace) → turns_of trace ≡ traced es → ReplayTo held es after → AreTurns held trace after
are_turns held after es trace turns comes =
    (turns_alone held after trace).0 (subst (λ (t : Trace). AreTurns held t after) (sym turns) (come_traced held after es comes))

come_on : (held mid after : Held) (first second : List Exchange) → ReplayTo held first mid → ReplayTo mid second after → ReplayTo held (first ++ second) after
come_on held mid after [] second comes later = subst (λ (h : Held). ReplayTo h second after) comes later
come_on held mid after (e ∷ es) second comes later = (comes.0, comes.1, come_on comes.0 mid after es second comes.2 later)

-- ---- each line is right

right_now : (root : Name) (run now : Run) (held at : Held) (names : List Name) (text : List ℕ) (trace : Trace) → IsObeyed root run → IsHeldAfter run held → AreTurns held trace at → ProcessesObey root run trace
    → Extends root run trace now → IsRightLine at names text → IsRightNow root now at names text
right_now root run now held at names text trace obeyed holds turns processes extends right =
    let premise = (headline_of_turns root run now held at trace obeyed holds turns processes extends).0 in
    record {
      certificate = right.certificate;
      text_is = right.text_is;
      for_names = right.for_names;
      line = right.line root _ premise.lawful premise.agrees;
    }

pub each_line_is_right_now : EachLineIsRightNow
each_line_is_right_now root run held at exchanges before later exchange text trace obeyed holds right same comes shown happened =
    let turns = are_turns held at before trace happened.turns comes in
    let now = turns_make_a_run root run held at trace obeyed holds turns happened.processes in
    let there = right before later exchange text at same comes shown in
    (now.0, now.1, (there.0, there.1, right_now root run now.0 held at there.0 text trace obeyed holds turns happened.processes now.1 there.2))

-- ---- clients who share a desk

pub replayed_turns : (made : ℕ) (held after : Held) (ts : List Turn) → ReplaysFrom made held ts after → AreTurns held (trace_of ts) after
replayed_turns made held after [] replays = replays
replayed_turns made held after (t ∷ ts) (number, (between, turn, more)) = (between, turn, replayed_turns (made + 1) between after ts more)

right_text_now : (root : Name) (run now : Run) (held at : Held) (names : List Name) (text : List ℕ) (trace : Trace) → IsObeyed root run → IsHeldAfter run held → AreTurns held trace at → ProcessesObey root run trace
    → Extends root run trace now → IsLineText at names text → IsRightNow root now at names text
right_text_now root run now held at names text trace obeyed holds turns processes extends is =
    let w = headline_of_turns root run now held at trace obeyed holds turns processes extends in
    record {
      certificate = is.certificate;
      text_is = is.text_is;
      for_names = is.for_names;
      line = w.1 is.certificate.failed (positions_of is.certificate.line) (certified_is_greatest at is.certificate (lawful at.accepted w.0.folded) is.certifies);
    }

replayed : (opening at : Held) (ts : List Turn) (trace : Trace) → turns_of trace ≡ trace_of ts → Replays opening ts at → AreTurns opening trace at
replayed opening at ts trace front replays =
    (turns_alone opening at trace).0 (subst (λ (t : Trace). AreTurns opening t at) (sym front) (replayed_turns 0 opening at ts replays))

pub each_shared_line_is_right_now : EachSharedLineIsRightNow
each_shared_line_is_right_now root run opening ts entry text trace obeyed holds rightly shown front processes =
    let shows = rightly text shown in
    let at : Held = shows.0 in
    let line = shows.2 in
    let turns = replayed opening at _ trace front shows.1 in
    let now = turns_make_a_run root run opening at trace obeyed holds turns processes in
    (now.0, now.1, (at, shows.1, (line.0, line.1, right_text_now root run now.0 opening at line.0 text trace obeyed holds turns processes now.1 line.2)))

-- ---- no line is below an earlier garbage line

-- a certificate for the names of all is for all numbers
all_failed : (held : Held) (names : List Name) (c : Certificate) → IsForNames held.accepted names c → names ≡ known held.accepted → (q : ℕ) → q < length (known held.accepted) → Contains c.failed q
all_failed held names c for_names all q lt = elim (slice_get_cases (known held.accepted) q).1 [
  | inl s ↦ (for_names q s.0 s.2).1 (subst (λ (ns : List Name). Contains ns s.0) (sym all) (known_from held.accepted q s.0 s.2))
  | inr past ↦ absurd (omega (arith, past.0))
]

-- the text of a line over what is held behind both parts of a trace, and that of the line for all over what was held behind the first
pub in_order : (root : Name) (run : Run) (held first at : Held) (earlier trace : Trace) (all names : List Name) (lowest text : List ℕ) → IsObeyed root run → IsHeldAfter run held → AreTurns held earlier first
    → AreTurns first trace at → ProcessesObey root run (earlier ++ trace) → all ≡ known first.accepted → IsLineText first all lowest → IsLineText at names text → AreInOrder first at lowest text
in_order root run held first at earlier trace all names lowest text obeyed holds turns rest processes each garbage line =
    let front = (processes_obey_in_parts root run run earlier trace processes).0 in
    let middle = turns_make_a_run root run held first earlier obeyed holds turns front in
    let mid = the_run_is_obeyed root run middle.0 held first earlier obeyed holds turns front middle.1 in
    let next = (processes_obey_in_parts root run middle.0 earlier trace processes).1 middle.1 in
    let last = turns_make_a_run root middle.0 first at trace mid.0 mid.1 rest next in
    let front_premise = (headline_of_turns root run middle.0 held first earlier obeyed holds turns front middle.1).0 in
    let there = (headline_of_turns root middle.0 last.0 first at trace mid.0 mid.1 rest next last.1).0 in
    let failed = all_failed first all garbage.certificate garbage.for_names each in
    let greatest = certified_is_greatest first garbage.certificate (lawful first.accepted front_premise.folded) garbage.certifies in
    record {
      garbage = garbage.certificate;
      garbage_is = garbage.text_is;
      certificate = line.certificate;
      text_is = line.text_is;
      below = λ i p is. no_line_is_below_earlier_garbage root run held first at earlier trace garbage.certificate.failed line.certificate.failed (positions_of garbage.certificate.line) (positions_of line.certificate.line) i p obeyed holds turns rest processes failed greatest
          (certified_is_greatest at line.certificate (lawful at.accepted there.folded) line.certifies) is;
      gone = λ p unknown. who_is_gone_was_unborn_then root run held first at earlier trace garbage.certificate.failed (positions_of garbage.certificate.line) p obeyed holds turns rest processes failed greatest unknown;
    }

-- what is right is the text of a line
line_answer : (held : Held) (names : List Name) (text : List ℕ) → IsRightLine held names text → IsLineText held names text
line_answer held names text right = record {
  certificate = right.certificate;
  for_names = right.for_names;
  certifies = right.certifies;
  text_is = right.text_is;
}

pub no_line_is_below_garbage : NoLineIsBelowGarbage
no_line_is_below_garbage root run held first at exchanges before between later collected exchange lowest text earlier trace obeyed holds right same asks low shown comes more front_turns next_turns processes =
    let turns = are_turns held first before earlier front_turns comes in
    let rest = are_turns first at (collected ∷ between) trace next_turns more in
    let g = right before (between ++ exchange ∷ later) collected lowest first same comes low in
    let c = right (before ++ collected ∷ between) later exchange text at (same ∙ sym (append_assoc before (collected ∷ between) (exchange ∷ later))) (come_on held first at before (collected ∷ between) comes more) shown in
    let each = subst (λ (call : Call). AsksForLine first call g.0) asks g.1 in
    in_order root run held first at earlier trace g.0 c.0 lowest text obeyed holds turns rest processes each (line_answer first g.0 lowest g.2) (line_answer at c.0 text c.2)

-- ---- nor is one of those who share a desk

-- the turns of a trace come to one thing
turns_once : (held a b : Held) (trace : Trace) → AreTurns held trace a → AreTurns held trace b → a ≡ b
turns_once held a b [] first second = first ∙ sym second
turns_once held a b (Stepped e s ∷ trace) first second = turns_once held a b trace first second
turns_once held a b (Turned call reply ∷ trace) (mid, turned, later) (other, took, more) =
    turns_once other a b trace (subst (λ (h : Held). AreTurns h trace a) (turn_once held mid other call reply turned took) later) more

pub no_shared_line_is_below_garbage : NoSharedLineIsBelowGarbage
no_shared_line_is_below_garbage root run opening ts collected entry lowest text earlier trace obeyed holds rightly right asks low shown front whole processes =
    let g = rightly lowest low in
    let c = right text shown in
    let first : Held = g.0 in
    let at : Held = c.0 in
    let garbage = g.2 in
    let line = c.2 in
    let turns = replayed opening first _ earlier front g.1 in
    let parts = turns_in_parts opening at earlier trace (replayed opening at _ (earlier ++ trace) whole c.1) in
    let rest = subst (λ (h : Held). AreTurns h trace at) (turns_once opening parts.0 first earlier parts.1 turns) parts.2 in
    let each = subst (λ (call : Call). AsksForLine first call garbage.0) asks garbage.1 in
    (first, g.1, (at, c.1, in_order root run opening first at earlier trace garbage.0 line.0 lowest text obeyed holds turns rest processes each garbage.2 line.2))
