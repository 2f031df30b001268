-- With turns between the calls: the processes obey.
use Rattle.std.proofs.Common.{◌≡◌, ℕ, suc, ◌+◌, Option, Some, None, List, [], ◌∷◌, ◌++◌, length, inl, inr, refl, sym, subst, arith}
use Rattle.report_line.specs.declared.call.Call.{Call}
use Rattle.report_line.specs.declared.call.Call.TheVariants as calls
use Rattle.report_line.specs.declared.marked.MarkedReport.{MarkedReport}
use Rattle.report_line.specs.declared.reply.Reply.{Reply}
use Rattle.report_line.specs.declared.reply.Reply.TheVariants.{Accepted, Settled}
use Rattle.report_line.specs.declared.report.Report.{Report}
use Rattle.report_line.specs.declared.step.StepKind.{StepKind}
use Rattle.report_line.specs.histories.History.{Name, History}
use Rattle.report_line.specs.histories.Lawful.{IsLawful}
use Rattle.chains.specs.declared.position.Position.{Position}
use Rattle.chains.specs.Held.{Held, counting}
use Rattle.law_histories.specs.Kept.{Cut, kept}
use Rattle.law_lines.specs.Runs.{Run, Accepts, Settles, epoch, current, earlier, IsObeyed, nothing}
use Rattle.law_lines.proofs.Runs.{agrees_now}
use Rattle.law_turns.specs.Traces.{Trace, AreTurns, IsRightReport, Adds, IsSettledBy, ProcessesObey}
use Rattle.law_turns.specs.Obeyed.{IsHeldAfter}
use Rattle.law_turns.proofs.Growing.{step_grows, turn_grows}
use Rattle.law_turns.proofs.Following.{held_at_first}
use Rattle.law_process.specs.Accounts.{Doing, Did, Took, Account, step_kind_of, steps_by, traced}
use Rattle.law_process.specs.Handing.{Past, IsHandedIn, run_with, AreHandedOver}
use Rattle.law_process.specs.Obeying.{StepsOfCallsObey}
use Rattle.law_process.specs.EachCall.{step_of}
use Rattle.law_process.proofs.Orders.{order_later}
use Rattle.law_process.proofs.Holding.{current_settled}
use Rattle.law_process.proofs.Telling.{AreMarked}
use Rattle.law_process.proofs.Running.{Holds, holds_as, first_holds, IsRight, call_on}

-- ---- a turn

-- a report that is accepted was handed in as it was given, so it is right
right_report : (root : Name) (run : Run) (past : Past) (call : Call) (reply : Reply) → AreMarked root run past → IsHandedIn root past call reply → IsRightReport root run call reply
right_report root run past (calls.Report m) (Accepted front) marked (inl begins) = inl begins
right_report root run past (calls.Report m) (Accepted front) marked (inr w) = inr (marked w.0 w.1 m w.2 w.3 w.4)
right_report root run past _ _ marked handed = tt

current_accepts : (run : Run) (mark : ℕ) (r : Report) → current (Accepts mark r ∷ run) ≡ current run
unfolding current
current_accepts run mark r = refl

epoch_accepts : (run : Run) (mark : ℕ) (r : Report) → epoch (Accepts mark r ∷ run) ≡ epoch run
unfolding epoch
epoch_accepts run mark r = refl

current_settles : (run : Run) (failed : List ℕ) (line : List Position) (cut : Cut) → current (Settles failed line cut ∷ run) ≡ kept cut (current run)
unfolding current
current_settles run failed line cut = refl

epoch_settles : (run : Run) (failed : List ℕ) (line : List Position) (cut : Cut) → epoch (Settles failed line cut ∷ run) ≡ suc (epoch run)
unfolding epoch
epoch_settles run failed line cut = refl

accepted_on : (root : Name) (run later : Run) (past : Past) (m : MarkedReport) → Holds root run past → later ≡ Accepts m.epoch m.report ∷ run → Holds root later past
accepted_on root run later past m w is =
    subst (λ (r : Run). Holds root r past) (sym is)
    (holds_as root (Accepts m.epoch m.report ∷ run) past (current run) (epoch run) (current_accepts run m.epoch m.report) (epoch_accepts run m.epoch m.report)
    w.lawful w.order w.holding (λ d line k at has spells. earlier (w.marked d line k at has spells)))

same_on : (root : Name) (run later : Run) (past : Past) → Holds root run past → later ≡ run → Holds root later past
same_on root run later past w is = subst (λ (r : Run). Holds root r past) (sym is) w

settled_on : (root : Name) (run later : Run) (past : Past) (names : List Name) → Holds root run past → IsObeyed root later → IsSettledBy root run names later → Holds root later past
settled_on root run later past names w obeyed by =
    let is = by.settles in
    let now : IsObeyed root (Settles by.failed by.line by.cut ∷ run) = subst (IsObeyed root) is obeyed in
    let history = current_settles run by.failed by.line by.cut in
    subst (λ (r : Run). Holds root r past) (sym is)
    (holds_as root (Settles by.failed by.line by.cut ∷ run) past (kept by.cut (current run)) (suc (epoch run)) history (epoch_settles run by.failed by.line by.cut)
    (subst (λ (h : History). IsLawful root h) history (agrees_now now).lawful)
    (order_later root past (epoch run) (suc (epoch run)) (omega arith) w.order)
    (current_settled root past (current run) (epoch run) by.cut w.order w.holding)
    (λ d line k at has spells. earlier (w.marked d line k at has spells)))

turn_on : (root : Name) (run later : Run) (past : Past) (call : Call) (reply : Reply) → Holds root run past → IsObeyed root later → Adds root run call reply later → Holds root later past
turn_on root run later past (calls.Report m) (Accepted front) w obeyed adds = accepted_on root run later past m w adds
turn_on root run later past (calls.Settle front names) (Settled e now) w obeyed adds = settled_on root run later past names w obeyed adds
turn_on root run later past _ _ w obeyed adds = same_on root run later past w adds

-- ---- the whole account

turns_behind : (o : Option StepKind) (d : Doing) (trace : Trace) (held after : Held) → AreTurns held (steps_by o d ++ trace) after → AreTurns held trace after
turns_behind None d trace held after turns = turns
turns_behind (Some step_kind) d trace held after turns = turns

obey_from : (root : Name) (run : Run) (o : Option StepKind) (d : Doing) (trace : Trace) → IsRight root run o d → ProcessesObey root (run_with o d run) trace → ProcessesObey root run (steps_by o d ++ trace)
obey_from root run None d trace right obey = obey
obey_from root run (Some step_kind) d trace right obey = (right, obey)

-- a run with a step that is right is obeyed, with what is held
call_grows : (root : Name) (run : Run) (held : Held) (o : Option StepKind) (d : Doing) → IsObeyed root run → IsHeldAfter run held → IsRight root run o d
    → IsObeyed root (run_with o d run) × IsHeldAfter (run_with o d run) held
call_grows root run held None d obeyed holds right = (obeyed, holds)
call_grows root run held (Some step_kind) d obeyed holds right = step_grows root run held d.old.epoch (step_of d.old step_kind d.new) obeyed holds right

calls_obey : (root : Name) (account : Account) (n : ℕ) (run : Run) (past : Past) (held after : Held) → n ≡ length past → IsObeyed root run → IsHeldAfter run held → Holds root run past
    → AreTurns held (traced n account) after → AreHandedOver root run past account → ProcessesObey root run (traced n account)
calls_obey root [] n run past held after count obeyed holds w turns handed = tt
calls_obey root (Did d ∷ account) n run past held after count obeyed holds w turns handed =
    let o = step_kind_of (length past) d.act in
    let on = call_on root run past d.act d.old d.new w handed.0 handed.1 o refl in
    let grown = call_grows root run held o d obeyed holds on.0 in
    let more : n + 1 ≡ length (d ∷ past) = omega arith in
    let behind = turns_behind (step_kind_of n d.act) d (traced (n + 1) account) held after turns in
    let rest = calls_obey root account (n + 1) (run_with o d run) (d ∷ past) held after more grown.0 grown.1 on.1 behind handed.2 in
    subst (λ (k : ℕ). ProcessesObey root run (steps_by (step_kind_of k d.act) d ++ traced (n + 1) account)) (sym count)
    (obey_from root run o d (traced (n + 1) account) on.0 rest)
calls_obey root (Took call reply ∷ account) n run past held after count obeyed holds w turns handed =
    let right = right_report root run past call reply w.marked handed.0 in (
      right,
      λ between adds.
          (let grown = turn_grows root run between held turns.0 call reply obeyed holds turns.1 right adds in
          calls_obey root account n between past turns.0 after count grown.0 grown.1 (turn_on root run between past call reply w grown.0 adds) turns.2 (handed.1 between adds)),
    )

pub steps_of_calls_obey : StepsOfCallsObey
steps_of_calls_obey root account after turns handed = calls_obey root account 0 [] [] (counting []) after refl nothing held_at_first (first_holds root) turns handed
