-- The run that a trace makes: that there is one, that each is obeyed, and that there is one only.
use Rattle.std.proofs.Common.{◌≡◌, ℕ, List, [], ◌∷◌, refl, sym, ◌∙◌, ap, subst}
use Rattle.std.proofs.Math.Path.{fun_ext}
use Rattle.report_line.specs.declared.call.Call.{Call}
use Rattle.report_line.specs.declared.call.Call.TheVariants as calls
use Rattle.report_line.specs.declared.reply.Reply.{Reply}
use Rattle.report_line.specs.declared.reply.Reply.TheVariants.{Accepted, Settled}
use Rattle.report_line.specs.declared.report.Report.{Report}
use Rattle.report_line.specs.histories.History.{Name}
use Rattle.chains.specs.declared.position.Position.{Position}
use Rattle.chains.specs.Greatest.{IsGreatestCut}
use Rattle.chains.specs.Held.{Held, counting}
use Rattle.law_lines.specs.Headline.{IsGreatestClosedCut}
use Rattle.law_lines.specs.Places.{IsPremise}
use Rattle.propagate.proofs.Outcomes.{one_cut, one_failed_set}
use Rattle.law_histories.specs.Kept.{Cut}
use Rattle.law_lines.specs.Agreeing.{HasEventsOf}
use Rattle.law_lines.specs.Runs.{Run, Made, Settles, epoch, current, accepted, IsObeyed, nothing}
use Rattle.law_lines.proofs.KeptReports.{same_test}
use Rattle.law_lines.proofs.Runs.{agrees_now, headline_holds}
use Rattle.law_turns.specs.Traces.{Trace, Stepped, Turned, AreTurns, IsSettledBy, Adds, Extends, ProcessesObey}
use Rattle.law_turns.specs.Obeyed.{IsHeldAfter, TurnsMakeARun, TheRunIsObeyed, TheRunIsOne, FromNothing, HeadlineOfTurns}
use Rattle.law_turns.proofs.Growing.{step_grows, turn_grows, turn_adds}

-- ---- each is obeyed

obeyed_through : (root : Name) (trace : Trace) (run later : Run) (held after : Held) → IsObeyed root run → IsHeldAfter run held → AreTurns held trace after → ProcessesObey root run trace
    → Extends root run trace later → IsObeyed root later × IsHeldAfter later after
obeyed_through root [] run later held after obeyed holds turns processes extends = (
  subst (IsObeyed root) (sym extends) obeyed,
  subst (λ (r : Run). IsHeldAfter r after) (sym extends) (subst (IsHeldAfter run) (sym turns) holds),
)
obeyed_through root (Stepped e s ∷ trace) run later held after obeyed holds turns processes extends =
    let next = step_grows root run held e s obeyed holds processes.0 in
    obeyed_through root trace (Made e s ∷ run) later held after next.0 next.1 turns processes.1 extends
obeyed_through root (Turned call reply ∷ trace) run later held after obeyed holds turns processes extends =
    let next = turn_grows root run extends.0 held turns.0 call reply obeyed holds turns.1 processes.0 extends.1 in
    obeyed_through root trace extends.0 later turns.0 after next.0 next.1 turns.2 (processes.1 extends.0 extends.1) extends.2

pub the_run_is_obeyed : TheRunIsObeyed
the_run_is_obeyed root run later held after trace obeyed holds turns processes extends = obeyed_through root trace run later held after obeyed holds turns processes extends

-- ---- there is one

made_through : (root : Name) (trace : Trace) (run : Run) (held after : Held) → IsObeyed root run → IsHeldAfter run held → AreTurns held trace after → ProcessesObey root run trace
    → (later : Run) × Extends root run trace later
made_through root [] run held after obeyed holds turns processes = (run, refl)
made_through root (Stepped e s ∷ trace) run held after obeyed holds turns processes =
    let next = step_grows root run held e s obeyed holds processes.0 in
    made_through root trace (Made e s ∷ run) held after next.0 next.1 turns processes.1
made_through root (Turned call reply ∷ trace) run held after obeyed holds turns processes =
    let there = turn_adds root run held turns.0 call reply obeyed holds turns.1 in
    let next = turn_grows root run there.0 held turns.0 call reply obeyed holds turns.1 processes.0 there.1 in
    let rest = made_through root trace there.0 turns.0 after next.0 next.1 turns.2 (processes.1 there.0 there.1) in
    (rest.0, (there.0, there.1, rest.1))

pub turns_make_a_run : TurnsMakeARun
turns_make_a_run root run held after trace obeyed holds turns processes = made_through root trace run held after obeyed holds turns processes

pub held_at_first : IsHeldAfter [] (counting [])
unfolding accepted epoch
held_at_first = record { list = refl; epoch = refl; unsettled = λ none. refl }

pub from_nothing : FromNothing
from_nothing root after trace turns processes =
    let there = turns_make_a_run root [] (counting []) after trace nothing held_at_first turns processes in
    let w = the_run_is_obeyed root [] there.0 (counting []) after trace nothing held_at_first turns processes there.1 in
    (there.0, there.1, w.0, w.1)

-- ---- the headline

pub headline_of_turns : HeadlineOfTurns
headline_of_turns root run later held after trace obeyed holds turns processes extends =
    let w = the_run_is_obeyed root run later held after trace obeyed holds turns processes extends in (
      subst (λ (l : List Report). IsPremise root (current later) l) w.1.list (agrees_now w.0),
      λ failed line greatest.
          subst (λ (l : List Report). IsGreatestClosedCut root (current later) l failed line) w.1.list
          (headline_holds root later failed line w.0 (subst (λ (l : List Report). IsGreatestCut l failed line) (sym w.1.list) greatest)),
    )

-- ---- there is one only

-- cuts with the events of one line are one
one_test : (root : Name) (run : Run) (line : List Position) (a b : Cut) → HasEventsOf root (current run) (accepted run) line a → HasEventsOf root (current run) (accepted run) line b → a ≡ b
one_test root run line a b first second = fun_ext (λ e. same_test (a e) (b e) (λ is. (second e).1 ((first e).0 is)) (λ is. (first e).1 ((second e).0 is)))

pub one_settlement : (root : Name) (run : Run) (names : List Name) (a b : Run) → IsSettledBy root run names a → IsSettledBy root run names b → a ≡ b
one_settlement root run names a b first second =
    let sets = one_failed_set (accepted run) names first.failed second.failed first.just_named second.just_named in
    let lines = one_cut (accepted run) second.failed first.line second.line (subst (λ (f : List ℕ). IsGreatestCut (accepted run) f first.line) sets first.greatest) second.greatest in
    let cuts = one_test root run second.line first.cut second.cut (subst (λ (l : List Position). HasEventsOf root (current run) (accepted run) l first.cut) lines first.events) second.events in
    first.settles
    ∙ (ap (λ (f : List ℕ). Settles f first.line first.cut ∷ run) sets
    ∙ (ap (λ (l : List Position). Settles second.failed l first.cut ∷ run) lines
    ∙ (ap (λ (c : Cut). Settles second.failed second.line c ∷ run) cuts ∙ sym second.settles)))

adds_once : (root : Name) (run : Run) (call : Call) (reply : Reply) (a b : Run) → Adds root run call reply a → Adds root run call reply b → a ≡ b
adds_once root run (calls.Report m) (Accepted front) a b first second = first ∙ sym second
adds_once root run (calls.Settle front names) (Settled e now) a b first second = one_settlement root run names a b first second
adds_once root run _ _ a b first second = first ∙ sym second

extends_once : (root : Name) (trace : Trace) (run a b : Run) → Extends root run trace a → Extends root run trace b → a ≡ b
extends_once root [] run a b first second = first ∙ sym second
extends_once root (Stepped e s ∷ trace) run a b first second = extends_once root trace (Made e s ∷ run) a b first second
extends_once root (Turned call reply ∷ trace) run a b first second =
    let same = adds_once root run call reply first.0 second.0 first.1 second.1 in
    extends_once root trace second.0 a b (subst (λ (r : Run). Extends root r trace a) same first.2) second.2

pub the_run_is_one : TheRunIsOne
the_run_is_one root run a b trace first second = extends_once root trace run a b first second
