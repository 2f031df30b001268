-- What a step or a turn adds to an obeyed run leaves it obeyed, with the accepted list and the epoch that are held then.
use Rattle.std.proofs.Common.{◌≡◌, ◌≢◌, ◌⊎◌, ℕ, ◌+◌, ◌<◌, List, [], ◌∷◌, ◌++◌, Some, inl, inr, refl, sym, ◌∙◌, ap, subst, arith}
use Rattle.std.specs.Prelude.{Contains}
use Rattle.std.proofs.lemmas.List.Elements.{Contains-append_left, Contains-push}
use Rattle.report_line.specs.declared.marked.MarkedReport.{MarkedReport}
use Rattle.report_line.specs.declared.call.Call.{Call}
use Rattle.report_line.specs.declared.call.Call.TheVariants as calls
use Rattle.report_line.specs.declared.reply.Reply.{Reply}
use Rattle.report_line.specs.declared.reply.Reply.TheVariants.{Accepted, Settled}
use Rattle.report_line.specs.declared.report.Report.{Report}
use Rattle.report_line.specs.declared.report.Report.TheVariants.{Begin, Numbered}
use Rattle.report_line.specs.declared.step.StepKind.{StepKind}
use Rattle.report_line.specs.declared.step.StepKind.TheVariants.{Work, Check, Present, Send, Receive, Fork, Retire, Absorb}
use Rattle.report_line.specs.declared.step.Step.{Step}
use Rattle.report_line.specs.histories.History.{Name, History}
use Rattle.report_line.specs.histories.StepReports.{report_by}
use Rattle.chains.specs.declared.position.Position.{Position}
use Rattle.chains.specs.Held.{Held, with_report}
use Rattle.chains.specs.Admission.{IsAdmission}
use Rattle.chains.specs.Folded.{IsFit, IsFolded, nothing_folded, one_folded}
use Rattle.chains.specs.Failures.{IsFailedSet}
use Rattle.chains.specs.Greatest.{IsGreatestCut}
use Rattle.chains.specs.Settled.{is_settled, limits_of, settled, IsSettled}
use Rattle.chains.specs.Turns.{IsTurn}
use Rattle.chains.proofs.Passed.{present_epoch}
use Rattle.chains.proofs.Folding.{fit_of}
use Rattle.chains.proofs.Turning.{unchanged, after_report_turn}
use Rattle.law_lines.proofs.Listed.{filter_in}
use Rattle.propagate.proofs.Outcomes.{one_cut, one_failed_set}
use Rattle.law_histories.specs.Kept.{Cut}
use Rattle.law_lines.specs.Runs.{Run, Made, Accepts, Settles, epoch, current, accepted, IsMarkedReport, of_current, of_left_behind, earlier, IsObeyed, made, left_behind, begins, reports, settles}
use Rattle.law_lines.proofs.SettledAgreeing.{each_line_has_events}
use Rattle.law_lines.proofs.Runs.{agrees_now, epoch_made, epoch_accepts, epoch_settles, accepted_made}
use Rattle.law_turns.specs.Traces.{IsRightStep, IsRightReport, IsSettledBy, Adds}
use Rattle.law_turns.specs.Obeyed.{IsHeldAfter}
use Rattle.law_turns.proofs.TurnCases.{accepted_so, settled_so, Keeps, same_keeps, report_keeps, settlement_keeps}

-- ---- a step

step_more : (root : Name) (run : Run) (e : ℕ) (s : Step) → IsObeyed root run → IsRightStep root run e s → IsObeyed root (Made e s ∷ run)
step_more root run e s obeyed (inl right) =
    subst (λ (k : ℕ). IsObeyed root (Made k s ∷ run)) (sym right.0) (made obeyed right.1.1 right.1.2)
step_more root run e s obeyed (inr old) = left_behind obeyed old

held_made : (run : Run) (held : Held) (e : ℕ) (s : Step) → IsHeldAfter run held → IsHeldAfter (Made e s ∷ run) held
held_made run held e s holds = record { list = accepted_made run e s ∙ holds.list; epoch = epoch_made run e s ∙ holds.epoch; unsettled = holds.unsettled }

-- a step more: the run is obeyed, and what is held is what it was
pub step_grows : (root : Name) (run : Run) (held : Held) (e : ℕ) (s : Step) → IsObeyed root run → IsHeldAfter run held → IsRightStep root run e s
    → IsObeyed root (Made e s ∷ run) × IsHeldAfter (Made e s ∷ run) held
step_grows root run held e s obeyed holds right = (step_more root run e s obeyed right, held_made run held e s holds)

-- ---- a report

-- no step reports BEGIN
no_begin : (root : Name) (h : History) (s : Step) (d : StepKind) (p : Name) → report_by root h s d ≡ Some (Begin p) → ⊥
no_begin root h s Work p e = cc
no_begin root h s Check p e = cc
no_begin root h s Present p e = cc
no_begin root h s (Send m) p e = cc
no_begin root h s (Receive m) p e = cc
no_begin root h s (Fork child given) p e = cc
no_begin root h s (Retire target) p e = cc
no_begin root h s (Absorb retired) p e = cc

-- so a BEGIN that is marked as the report of a step has an older mark
begin_is_old : {root : Name} {run : Run} {mark : ℕ} {r : Report} → IsMarkedReport root run mark r → (p : Name) → r ≡ Begin p → mark < epoch run
begin_is_old {root} (of_current {run = run} {s = s} {r = r} is) p same = absurd (no_begin root (current run) s s.step_kind p (is ∙ ap Some same))
begin_is_old (of_left_behind {run = run} {e = e} {s = s} old) p same = (let is = epoch_made run e s in omega arith)
begin_is_old (earlier {run = run} {x = Made e s} there) p same = (let lower = begin_is_old there p same in let is = epoch_made run e s in omega arith)
begin_is_old (earlier {run = run} {x = Accepts m r} there) p same = (let lower = begin_is_old there p same in let is = epoch_accepts run m r in omega arith)
begin_is_old (earlier {run = run} {x = Settles failed line cut} there) p same =
    (let lower = begin_is_old there p same in let is = epoch_settles run failed line cut in omega arith)

begin_name : (p q : Name) → Begin p ≡ Begin q → q ≡ p
begin_name p q is = cc

accept_more : (root : Name) (run : Run) (mark : ℕ) (r : Report) → IsObeyed root run → mark ≡ epoch run → (accepted run ≡ [] → epoch run ≡ 0) → IsFit (accepted run) r
    → (r ≡ Begin root) ⊎ IsMarkedReport root run mark r → IsObeyed root (Accepts mark r ∷ run)
accept_more root run mark (Begin p) obeyed now unsettled fit (inl is) =
    subst (λ (k : ℕ). IsObeyed root (Accepts k (Begin p) ∷ run)) (sym (now ∙ unsettled fit))
    (subst (λ (q : Name). IsObeyed root (Accepts 0 (Begin q) ∷ run)) (begin_name p root is) (begins obeyed fit))
accept_more root run mark (Begin p) obeyed now unsettled fit (inr marked) = (let old = begin_is_old marked p refl in absurd (omega arith))
accept_more root run mark (Numbered r) obeyed now unsettled fit (inl is) = absurd (cc)
accept_more root run mark (Numbered r) obeyed now unsettled fit (inr marked) =
    subst (λ (k : ℕ). IsObeyed root (Accepts k (Numbered r) ∷ run)) (sym now)
    (reports obeyed (subst (λ (k : ℕ). IsMarkedReport root run k (Numbered r)) now marked) fit)

no_push : (xs : List Report) (x : Report) → xs ++ x ∷ [] ≢ []
no_push [] x e = cc
no_push (y ∷ ys) x e = cc

pub accepted_accepts : (run : Run) (m : ℕ) (r : Report) → accepted (Accepts m r ∷ run) ≡ accepted run ++ r ∷ []
unfolding accepted
accepted_accepts run m r = refl

held_accepts : (run : Run) (held : Held) (m : MarkedReport) → IsHeldAfter run held → IsHeldAfter (Accepts m.epoch m.report ∷ run) (with_report held m)
held_accepts run held m holds = record {
  list = accepted_accepts run m.epoch m.report ∙ ap (λ (l : List Report). l ++ m.report ∷ []) holds.list;
  epoch = epoch_accepts run m.epoch m.report ∙ holds.epoch;
  unsettled = λ none. absurd (no_push held.accepted m.report none);
}

report_grows : (root : Name) (run : Run) (held : Held) (m : MarkedReport) (front : ℕ) → IsObeyed root run → IsHeldAfter run held → IsAdmission held m (Accepted front)
    → (m.report ≡ Begin root) ⊎ IsMarkedReport root run m.epoch m.report → IsObeyed root (Accepts m.epoch m.report ∷ run) × IsHeldAfter (Accepts m.epoch m.report ∷ run) (with_report held m)
report_grows root run held m front obeyed holds admitted right =
    let folded = subst IsFolded holds.list (agrees_now obeyed).folded in
    let fit = subst (λ (l : List Report). IsFit l m.report) (sym holds.list) (fit_of held m.epoch m.report front folded admitted) in
    let now = present_epoch held m.epoch m.report front admitted ∙ sym holds.epoch in
    let unsettled : accepted run ≡ [] → epoch run ≡ 0 = λ none. holds.epoch ∙ holds.unsettled (sym holds.list ∙ none) in
    (accept_more root run m.epoch m.report obeyed now unsettled fit right, held_accepts run held m holds)

-- ---- a settlement

begin_in : (list : List Report) → IsFolded list → list ≢ [] → (q : Name) × Contains list (Begin q)
begin_in _ nothing_folded some = absurd (some refl)
begin_in _ (one_folded before (Begin q) folded fit) some = (q, Contains-push before (Begin q))
begin_in _ (one_folded before (Numbered r) folded fit) some =
    let w = begin_in before folded fit.begun in (w.0, Contains-append_left before (Numbered r ∷ []) (Begin w.0) w.1)

-- a settled list has its BEGIN
settled_begun : (list : List Report) (line : List Position) → IsFolded list → list ≢ [] → settled list line ≢ []
settled_begun list line folded some none =
    let w = begin_in list folded some in
    let at = subst (λ (l : List Report). Contains l (Begin w.0)) none (filter_in (is_settled (limits_of list line)) list (Begin w.0) w.1 refl) in
    let lt = at.1 in
    absurd (omega arith)

pub accepted_settles : (run : Run) (failed : List ℕ) (line : List Position) (cut : Cut) → accepted (Settles failed line cut ∷ run) ≡ settled (accepted run) line
unfolding accepted
accepted_settles run failed line cut = refl

-- the line of a settlement is that of the turn
same_line : (list : List Report) (names : List Name) (failed others : List ℕ) (line other : List Position) → IsFailedSet list names failed → IsFailedSet list names others
    → IsGreatestCut list failed line → IsGreatestCut list others other → line ≡ other
same_line list names failed others line other set same greatest highest =
    one_cut list others line other (subst (λ (f : List ℕ). IsGreatestCut list f line) (one_failed_set list names failed others set same) greatest) highest

settlement_grows : (root : Name) (run later : Run) (held next : Held) (names : List Name) → IsObeyed root run → IsHeldAfter run held → held.accepted ≢ [] → IsSettled held names next
    → IsSettledBy root run names later → IsObeyed root later × IsHeldAfter later next
settlement_grows root run later held next names obeyed holds some (failed, set, of_turn) by =
    let is_line = same_line held.accepted names by.failed failed by.line of_turn.line (subst (λ (l : List Report). IsFailedSet l names by.failed) holds.list by.just_named) set
    (subst (λ (l : List Report). IsGreatestCut l by.failed by.line) holds.list by.greatest) of_turn.greatest in
    let folded = subst IsFolded holds.list (agrees_now obeyed).folded in
    let now : next.accepted ≡ settled held.accepted of_turn.line = ap (λ (h : Held). h.accepted) of_turn.is_kept in
    let more : next.epoch ≡ held.epoch + 1 = ap (λ (h : Held). h.epoch) of_turn.is_kept in
    let list = accepted_settles run by.failed by.line by.cut in
    let count = epoch_settles run by.failed by.line by.cut in
    let before = holds.epoch in
    let after : IsHeldAfter (Settles by.failed by.line by.cut ∷ run) next = record {
      list = list ∙ (ap (λ (l : List Report). settled l by.line) holds.list ∙ (ap (settled held.accepted) is_line ∙ sym now));
      epoch = omega arith;
      unsettled = λ none. absurd (settled_begun held.accepted of_turn.line folded some (sym now ∙ none));
    } in (
      subst (IsObeyed root) (sym by.settles) (settles obeyed by.greatest by.events),
      subst (λ (r : Run). IsHeldAfter r next) (sym by.settles) after,
    )

-- ---- a turn

-- what every other turn leaves
kept_grows : (root : Name) (run later : Run) (held next : Held) → IsObeyed root run → IsHeldAfter run held → Keeps held next → later ≡ run → IsObeyed root later × IsHeldAfter later next
kept_grows root run later held next obeyed holds keeps is =
    let after : IsHeldAfter run next = record {
      list = holds.list ∙ sym keeps.0;
      epoch = holds.epoch ∙ sym keeps.1;
      unsettled = λ none. keeps.1 ∙ holds.unsettled (sym keeps.0 ∙ none);
    } in
    (subst (IsObeyed root) (sym is) obeyed, subst (λ (r : Run). IsHeldAfter r next) (sym is) after)

report_turn : (root : Name) (run later : Run) (held next : Held) (m : MarkedReport) (reply : Reply) → IsObeyed root run → IsHeldAfter run held → IsTurn held (calls.Report m) reply next
    → IsRightReport root run (calls.Report m) reply → Adds root run (calls.Report m) reply later → IsObeyed root later × IsHeldAfter later next
report_turn root run later held next m (Accepted front) obeyed holds (fate, t) right adds =
    let w = accepted_so held.stopped fate held m front next t in
    let more = report_grows root run held m front obeyed holds w.0 right in (
      subst (IsObeyed root) (sym adds) more.0,
      subst (λ (r : Run). IsHeldAfter r next) (sym adds) (subst (λ (h : Held). IsHeldAfter (Accepts m.epoch m.report ∷ run) h) (sym w.1) more.1),
    )
report_turn root run later held next m reply obeyed holds (fate, t) right adds =
    kept_grows root run later held next obeyed holds (report_keeps reply held m next (λ front e. cc) (after_report_turn held.stopped fate held m reply next t)) adds

settle_turn : (root : Name) (run later : Run) (held next : Held) (front : ℕ) (names : List Name) (reply : Reply) → IsObeyed root run → IsHeldAfter run held
    → IsTurn held (calls.Settle front names) reply next → Adds root run (calls.Settle front names) reply later → IsObeyed root later × IsHeldAfter later next
settle_turn root run later held next front names (Settled e now) obeyed holds (fate, t) adds =
    let w = settled_so held.stopped fate held front names e now next t in
    settlement_grows root run later held next names obeyed holds w.0 w.1 adds
settle_turn root run later held next front names reply obeyed holds (fate, t) adds =
    kept_grows root run later held next obeyed holds (settlement_keeps held.stopped fate held front names reply next (λ e now is. cc) t) adds

-- a turn more: what it adds leaves the run obeyed, with what is held then
pub turn_grows : (root : Name) (run later : Run) (held next : Held) (call : Call) (reply : Reply) → IsObeyed root run → IsHeldAfter run held → IsTurn held call reply next
    → IsRightReport root run call reply → Adds root run call reply later → IsObeyed root later × IsHeldAfter later next
turn_grows root run later held next (calls.Report m) reply obeyed holds turn right adds = report_turn root run later held next m reply obeyed holds turn right adds
turn_grows root run later held next (calls.Line names) reply obeyed holds (fate, t) right adds =
    kept_grows root run later held next obeyed holds (same_keeps held next (unchanged held.stopped fate held _ reply next t)) adds
turn_grows root run later held next calls.Garbage reply obeyed holds (fate, t) right adds =
    kept_grows root run later held next obeyed holds (same_keeps held next (unchanged held.stopped fate held _ reply next t)) adds
turn_grows root run later held next (calls.Settle front names) reply obeyed holds turn right adds = settle_turn root run later held next front names reply obeyed holds turn adds
turn_grows root run later held next (calls.State p) reply obeyed holds (fate, t) right adds =
    kept_grows root run later held next obeyed holds (same_keeps held next (unchanged held.stopped fate held _ reply next t)) adds
turn_grows root run later held next calls.Bye reply obeyed holds (fate, t) right adds = kept_grows root run later held next obeyed holds (same_keeps held next t.2) adds
turn_grows root run later held next (calls.Bad n) reply obeyed holds (fate, t) right adds = kept_grows root run later held next obeyed holds (same_keeps held next t.2) adds
turn_grows root run later held next calls.Unread reply obeyed holds (fate, t) right adds = kept_grows root run later held next obeyed holds (same_keeps held next t.2) adds

-- ---- each turn adds something

settlement_adds : (root : Name) (run : Run) (held next : Held) (names : List Name) → IsObeyed root run → IsHeldAfter run held → IsSettled held names next
    → (later : Run) × IsSettledBy root run names later
settlement_adds root run held next names obeyed holds (failed, set, of_turn) =
    let greatest = subst (λ (l : List Report). IsGreatestCut l failed of_turn.line) (sym holds.list) of_turn.greatest in
    let there = each_line_has_events root (current run) (accepted run) failed of_turn.line (agrees_now obeyed) greatest.is_one.is_cut in (
      Settles failed of_turn.line there.0 ∷ run,
      record {
        failed = failed;
        just_named = subst (λ (l : List Report). IsFailedSet l names failed) (sym holds.list) set;
        line = of_turn.line;
        greatest = greatest;
        cut = there.0;
        events = there.1;
        settles = refl;
      },
    )

pub turn_adds : (root : Name) (run : Run) (held next : Held) (call : Call) (reply : Reply) → IsObeyed root run → IsHeldAfter run held → IsTurn held call reply next
    → (later : Run) × Adds root run call reply later
turn_adds root run held next (calls.Report m) (Accepted front) obeyed holds turn = (Accepts m.epoch m.report ∷ run, refl)
turn_adds root run held next (calls.Settle front names) (Settled e now) obeyed holds (fate, t) =
    settlement_adds root run held next names obeyed holds (settled_so held.stopped fate held front names e now next t).1
turn_adds root run held next _ _ obeyed holds turn = (run, refl)
