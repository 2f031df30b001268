-- A trace in two parts, and so the garbage line behind the first one.
use Rattle.std.proofs.Common.{◌≡◌, ℕ, ◌<◌, List, [], ◌∷◌, ◌++◌, Some, length, refl, sym, ◌∙◌, ap, subst, append_assoc}
use Rattle.std.specs.Prelude.{Contains}
use Rattle.report_line.specs.declared.call.Call.{Call}
use Rattle.report_line.specs.declared.call.Call.TheVariants as calls
use Rattle.report_line.specs.declared.reply.Reply.{Reply}
use Rattle.report_line.specs.declared.reply.Reply.TheVariants.{Accepted, Settled}
use Rattle.report_line.specs.declared.report.Report.{Report}
use Rattle.report_line.specs.histories.History.{Name}
use Rattle.chains.specs.declared.position.Position.{Position}
use Rattle.chains.specs.declared.position.Position.TheVariants.{At}
use Rattle.chains.specs.Elements.{name_of}
use Rattle.chains.specs.Greatest.{IsGreatestCut}
use Rattle.chains.specs.Held.{Held}
use Rattle.chains.specs.Positions.{position_in}
use Rattle.chains.specs.Processes.{known, IsKnown}
use Rattle.law_lines.specs.Garbage.{IsNotAfter}
use Rattle.law_lines.specs.Runs.{Run, Made, Accepts, Settles, accepted as accepted_in, IsObeyed}
use Rattle.law_lines.specs.Settled.{position_for}
use Rattle.law_lines.proofs.Growing.{no_line_is_below_garbage, who_is_gone_was_unborn}
use Rattle.law_turns.specs.Traces.{Trace, Stepped, Turned, AreTurns, Adds, Extends, ProcessesObey}
use Rattle.law_turns.specs.Obeyed.{IsHeldAfter, TurnsAlone, TurnsInParts, ProcessesObeyInParts, NoLineIsBelowEarlierGarbage, WhoIsGoneWasUnbornThen}
use Rattle.law_turns.proofs.Following.{the_run_is_obeyed, turns_make_a_run}

-- ---- the processes obey in each part

front_obeys : (root : Name) (first second : Trace) (run : Run) → ProcessesObey root run (first ++ second) → ProcessesObey root run first
front_obeys root [] second run obey = tt
front_obeys root (Stepped e s ∷ first) second run obey = (obey.0, front_obeys root first second (Made e s ∷ run) obey.1)
front_obeys root (Turned call reply ∷ first) second run obey = (obey.0, λ between adds. front_obeys root first second between (obey.1 between adds))

rest_obeys : (root : Name) (first second : Trace) (run middle : Run) → ProcessesObey root run (first ++ second) → Extends root run first middle → ProcessesObey root middle second
rest_obeys root [] second run middle obey extends = subst (λ (r : Run). ProcessesObey root r second) (sym extends) obey
rest_obeys root (Stepped e s ∷ first) second run middle obey extends = rest_obeys root first second (Made e s ∷ run) middle obey.1 extends
rest_obeys root (Turned call reply ∷ first) second run middle obey extends = rest_obeys root first second extends.0 middle (obey.1 extends.0 extends.1) extends.2

pub processes_obey_in_parts : ProcessesObeyInParts
processes_obey_in_parts root run middle first second obey = (front_obeys root first second run obey, λ extends. rest_obeys root first second run middle obey extends)

-- ---- the turns of each part, and the turns alone

pub turns_in_parts : TurnsInParts
turns_in_parts held after [] second turns = (held, refl, turns)
turns_in_parts held after (Stepped e s ∷ first) second turns = turns_in_parts held after first second turns
turns_in_parts held after (Turned call reply ∷ first) second turns =
    let rest = turns_in_parts turns.0 after first second turns.2 in (rest.0, (turns.0, turns.1, rest.1), rest.2)

pub turns_alone : TurnsAlone
turns_alone held after [] = (λ is. is, λ is. is)
turns_alone held after (Stepped e s ∷ trace) = turns_alone held after trace
turns_alone held after (Turned call reply ∷ trace) = (
  λ turns. (turns.0, turns.1, (turns_alone turns.0 after trace).0 turns.2),
  λ turns. (turns.0, turns.1, (turns_alone turns.0 after trace).1 turns.2),
)

-- ---- a run that is extended is the end of the longer one

abbrev IsLonger : Run → Run → Type 0
IsLonger run later = (more : Run) × (later ≡ more ++ run)

longer_on : (run between later : Run) → IsLonger run between → IsLonger between later → IsLonger run later
longer_on run between later first second =
    (second.0 ++ first.0, second.1 ∙ (ap (λ (r : Run). second.0 ++ r) first.1 ∙ sym (append_assoc second.0 first.0 run)))

adds_longer : (root : Name) (run later : Run) (call : Call) (reply : Reply) → Adds root run call reply later → IsLonger run later
adds_longer root run later (calls.Report m) (Accepted front) adds = (Accepts m.epoch m.report ∷ [], adds)
adds_longer root run later (calls.Settle front names) (Settled e now) adds = (Settles adds.failed adds.line adds.cut ∷ [], adds.settles)
adds_longer root run later _ _ adds = ([], adds)

extends_longer : (root : Name) (trace : Trace) (run later : Run) → Extends root run trace later → IsLonger run later
extends_longer root [] run later extends = ([], extends)
extends_longer root (Stepped e s ∷ trace) run later extends =
    longer_on run (Made e s ∷ run) later (Made e s ∷ [], refl) (extends_longer root trace (Made e s ∷ run) later extends)
extends_longer root (Turned call reply ∷ trace) run later extends =
    longer_on run extends.0 later (adds_longer root run extends.0 call reply extends.1) (extends_longer root trace extends.0 later extends.2)

-- ---- both parts

-- runs behind the two parts, with what is held behind each
record AreBehind (root : Name) (between after : Held) : Type 0 where
  middle : Run
  more : Run
  obeyed : IsObeyed root (more ++ middle)
  first : accepted_in middle ≡ between.accepted
  second : accepted_in (more ++ middle) ≡ after.accepted

behind : (root : Name) (run : Run) (held between after : Held) (first second : Trace) → IsObeyed root run → IsHeldAfter run held → AreTurns held first between → AreTurns between second after
    → ProcessesObey root run (first ++ second) → AreBehind root between after
behind root run held between after first second obeyed holds turns rest obey =
    let front = front_obeys root first second run obey in
    let middle = turns_make_a_run root run held between first obeyed holds turns front in
    let mid = the_run_is_obeyed root run middle.0 held between first obeyed holds turns front middle.1 in
    let later_obey = rest_obeys root first second run middle.0 obey middle.1 in
    let later = turns_make_a_run root middle.0 between after second mid.0 mid.1 rest later_obey in
    let end = the_run_is_obeyed root middle.0 later.0 between after second mid.0 mid.1 rest later_obey later.1 in
    let longer = extends_longer root second middle.0 later.0 later.1 in
    record {
      middle = middle.0;
      more = longer.0;
      obeyed = subst (IsObeyed root) longer.1 end.0;
      first = mid.1.list;
      second = ap accepted_in (sym longer.1) ∙ end.1.list;
    }

abbrev IsBelow : List ℕ → List ℕ → List Position → List Position → ℕ → Name → List Report → List Report → Type 0
IsBelow all failed garbage line i p earlier later =
    ((q : ℕ) → q < length (known earlier) → Contains all q) → IsGreatestCut earlier all garbage → IsGreatestCut later failed line → name_of later i ≡ Some p
    → IsNotAfter (position_for (known earlier) garbage p) (position_in line i)

pub no_line_is_below_earlier_garbage : NoLineIsBelowEarlierGarbage
no_line_is_below_earlier_garbage root run held between after first second all failed garbage line i p obeyed holds turns rest obey =
    let w = behind root run held between after first second obeyed holds turns rest obey in
    subst (λ (l : List Report). IsBelow all failed garbage line i p l after.accepted) w.first
    (subst (λ (l : List Report). IsBelow all failed garbage line i p (accepted_in w.middle) l) w.second
    (λ each lowest greatest is. no_line_is_below_garbage root w.middle w.more all failed garbage line i p w.obeyed each lowest greatest is))

abbrev IsGone : List ℕ → List Position → Name → List Report → List Report → Type 0
IsGone all garbage p earlier later =
    ((q : ℕ) → q < length (known earlier) → Contains all q) → IsGreatestCut earlier all garbage → ¬ IsKnown later p → position_for (known earlier) garbage p ≡ At 0

pub who_is_gone_was_unborn_then : WhoIsGoneWasUnbornThen
who_is_gone_was_unborn_then root run held between after first second all garbage p obeyed holds turns rest obey =
    let w = behind root run held between after first second obeyed holds turns rest obey in
    subst (λ (l : List Report). IsGone all garbage p l after.accepted) w.first
    (subst (λ (l : List Report). IsGone all garbage p (accepted_in w.middle) l) w.second
    (λ each lowest unknown. who_is_gone_was_unborn root w.middle w.more all garbage p w.obeyed each lowest unknown))
